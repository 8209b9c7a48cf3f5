-- Skipping a token ends after it.
use Rattle.std.proofs.Common.{◌≡◌, ℕ, zero, suc, ◌+◌, ◌-◌, ◌<◌, ◌==◌, Bool, true, false, not, ◌&&◌, ◌||◌, cond, List, [], ◌∷◌, Option, Some, None, take, drop, nat_lt, refl, sym, ap, ◌∙◌, subst, arith, ⊎_elim}
use Rattle.std.specs.Bool.{if◌then◌else◌}
use Rattle.std.specs.Option.{option_map_or}
use Rattle.std.specs.List.{list_any, prefix_len}
use Rattle.std.proofs.lemmas.Bool.{cond-true, cond-false, cond_both, and_from, and_parts, and_right, or_cases, or_parts, or_from, eqb-true, lt-ltb, ltb-true, ltb-false}
use Rattle.inc_token.specs.declared.kinds.Kind.{Kind}
use Rattle.inc_token.specs.declared.kinds.Kind.TheVariants.{Identifier, Number, Char, Str, Punct, Other}
use Rattle.inc_token.specs.declared.pieces.Piece.{Piece}
use Rattle.inc_token.specs.declared.pieces.Piece.TheVariants.{Blank, NewLine, Lexeme, Unclosed}
use Rattle.inc_token.specs.declared.pieces.skipping.Skipped.TheVariants.{ToLineEnd, ToOpenComment}
use Rattle.inc_token.specs.declared.pieces.Progress.TheVariants.{Elsewhere}
use Rattle.inc_token.specs.Spellings.{is_blank, is_digit, is_letter, is_hex_digit, is_exponent_letter, begins_with_hex, begins_nondigit, is_dollar, universal_len, nonletter_len, identifier_part, number_part, begins_number, punctuators, is_punct}
use Rattle.inc_token.specs.TokenLines.{comment_rest, block_comment, line_comment, piece_at}
use Rattle.inc_token.specs.Scanning.{row_len, begins_quoted, begins_with_sign, closed_at, is_wide, line_len, literal_or_lone, lone_len, quoted_len, wide_lone_len, wide_str_len, punctuator_len, lexeme_or_other, wide_token, begins_with_byte}
use Rattle.inc_text.specs.Languages.{is_gnu}
use Rattle.inc_token.proofs.FrontPieces.{first_token, piece_by}
use Rattle.inc_token.specs.Skipping.{is_stop, literal_or_rest, comment_len, skipped_len, further, skip_part, line_rest}
use Rattle.inc_token.proofs.Rows.{differs, line_from}
use Rattle.inc_token.proofs.UnmatchedQuotes.{same_none}
use Rattle.inc_token.proofs.Parts.{number_part-is}
use Rattle.inc_token.proofs.Punctuators.{longest_punctuator}
use Rattle.inc_token.proofs.OneClass.{none_of}
use Rattle.inc_token.proofs.PieceTests.{piece_at-is}
use Rattle.inc_token.proofs.Skipping.{Plain, plain_over, line_rest-byte, line_goes_on, line_rest-part}
use Rattle.inc_text.specs.declared.languages.Language.{Language}

-- a test that no stop passes
pub no_stop : (f : ℕ → Bool) (b : ℕ) → f 10 ≡ false → f 34 ≡ false → f 39 ≡ false → f 47 ≡ false → f b ≡ true → is_stop b ≡ false
no_stop f b line double single slash passes =
    or_from ((b == 10) || (b == 34) || (b == 39)) (b == 47)
    (or_from ((b == 10) || (b == 34)) (b == 39) (or_from (b == 10) (b == 34) (differs f 10 b line passes) (differs f 34 b double passes)) (differs f 39 b single passes))
    (differs f 47 b slash passes)

-- identifiers and numbers

hex_plain : (n : ℕ) (text : List ℕ) → begins_with_hex n text ≡ true → Plain n text
hex_plain zero text is = tt
hex_plain (suc n) [] is = tt
hex_plain (suc n) (b ∷ bs) is =
    let parts = and_parts (is_hex_digit b) (begins_with_hex n bs) is in
    (no_stop is_hex_digit b refl refl refl refl parts.0, hex_plain n bs parts.1)

named_plain : (letter a b : ℕ) (n : ℕ) (bs : List ℕ) → is_stop letter ≡ false → ((a == 92) && (b == letter) && begins_with_hex n bs) ≡ true → Plain (suc (suc n)) (a ∷ b ∷ bs)
named_plain letter a b n bs plain is =
    let digits = and_parts ((a == 92) && (b == letter)) (begins_with_hex n bs) is in
    let front = and_parts (a == 92) (b == letter) digits.0 in
    let first : is_stop a ≡ false = ap is_stop (eqb-true a 92 front.0) in
    let second : is_stop b ≡ false = ap is_stop (eqb-true b letter front.1) ∙ plain in
    (first, (second, hex_plain n bs digits.1))

universal_plain : (text : List ℕ) → Plain (universal_len text) text
universal_plain [] = tt
universal_plain (a ∷ []) = tt
universal_plain (a ∷ b ∷ bs) =
    let short = (a == 92) && (b == 117) && begins_with_hex 4 bs in
    let long = (a == 92) && (b == 85) && begins_with_hex 8 bs in
    cond_both short 6 (cond long 10 0) (λ n. Plain n (a ∷ b ∷ bs)) (λ is. named_plain 117 a b 4 bs refl is)
    (λ _. cond_both long 10 0 (λ n. Plain n (a ∷ b ∷ bs)) (λ is. named_plain 85 a b 8 bs refl is) (λ _. tt))

nonletter_plain : (language : Language) (text : List ℕ) → Plain (nonletter_len language text) text
nonletter_plain language [] = tt
nonletter_plain language (b ∷ bs) =
    cond_both (is_dollar language b) 1 (universal_len (b ∷ bs)) (λ n. Plain n (b ∷ bs)) (λ is. (no_stop (is_dollar language) b refl refl refl refl is, tt))
    (λ _. universal_plain (b ∷ bs))

identifier_plain : (language : Language) (text : List ℕ) → Plain (identifier_part language text) text
identifier_plain language [] = tt
identifier_plain language (b ∷ bs) =
    let P : ℕ → Type 0 = λ n. Plain n (b ∷ bs) in
    cond_both (is_digit b) 1 (cond (is_letter b) 1 (nonletter_len language (b ∷ bs))) P (λ is. (no_stop is_digit b refl refl refl refl is, tt))
    (λ _. cond_both (is_letter b) 1 (nonletter_len language (b ∷ bs)) P (λ is. (no_stop is_letter b refl refl refl refl is, tt)) (λ _. nonletter_plain language (b ∷ bs)))

sign_plain : (b : ℕ) (bs : List ℕ) → is_exponent_letter b ≡ true → begins_with_sign bs ≡ true → Plain 2 (b ∷ bs)
sign_plain b [] exponent sign = (no_stop is_exponent_letter b refl refl refl refl exponent, tt)
sign_plain b (c ∷ cs) exponent sign =
    (no_stop is_exponent_letter b refl refl refl refl exponent, (no_stop (λ x. (x == 43) || (x == 45)) c refl refl refl refl sign, tt))

number_plain : (language : Language) (text : List ℕ) → Plain (number_part language text) text
number_plain language [] = tt
number_plain language (b ∷ bs) =
    let P : ℕ → Type 0 = λ n. Plain n (b ∷ bs) in
    let signed = is_exponent_letter b && begins_with_sign bs in
    subst P (sym (number_part-is language b bs))
    (cond_both (b == 46) 1 (cond signed 2 (identifier_part language (b ∷ bs))) P (λ is. (no_stop (λ x. x == 46) b refl refl refl refl is, tt))
    (λ _. cond_both signed 2 (identifier_part language (b ∷ bs)) P
    (λ is. let parts = and_parts (is_exponent_letter b) (begins_with_sign bs) is in sign_plain b bs parts.0 parts.1)
    (λ _. identifier_plain language (b ∷ bs))))

module _ (part : List ℕ → ℕ) (plain : (text : List ℕ) → Plain (part text) text) where
  part_before : (p b : ℕ) (bs : List ℕ) → 0 < p → Plain p (b ∷ bs) → (is_stop b ≡ false) × Plain (p - 1) bs
  part_before zero b bs some h = absurd (omega arith)
  part_before (suc p) b bs some h = let e : p ≡ suc p - 1 = omega arith in (h.0, subst (λ n. Plain n bs) e h.1)

  row_plain : (left : ℕ) (text : List ℕ) → Plain left text → Plain (row_len part left text) text
  row_plain left [] h = tt
  row_plain (suc left) (b ∷ bs) h = (h.0, row_plain left bs h.1)
  row_plain zero (b ∷ bs) h =
      let p = part (b ∷ bs) in
      cond_both (nat_lt 0 p) (suc (row_len part (p - 1) bs)) 0 (λ n. Plain n (b ∷ bs))
      (λ is. let front = part_before p b bs (ltb-true 0 p is) (plain (b ∷ bs)) in (front.0, row_plain (p - 1) bs front.1))
      (λ _. tt)

  pub row_over : (language : Language) (text : List ℕ) → line_rest language 0 text ≡ line_rest language (row_len part 0 text) text
  row_over language text = plain_over language (row_len part 0 text) text (row_plain 0 text tt)

-- literals

-- one more, where there is something
abbrev bump : ℕ → ℕ
bump zero = 0
bump (suc n) = suc (suc n)

bump_cond : (t : Bool) (x y : ℕ) → bump (cond t x y) ≡ cond t (bump x) (bump y)
bump_cond true x y = refl
bump_cond false x y = refl

bumped : (m n : ℕ) → m ≡ bump n → 0 < m → m ≡ suc n
bumped m zero e some = absurd (omega arith)
bumped m (suc n) e some = e

some_before : (m n : ℕ) → m ≡ bump n → 0 < m → 0 < n
some_before m zero e some = absurd (omega arith)
some_before m (suc n) e some = omega arith

closed_bump : (quote : ℕ) (escaped : Bool) (n : ℕ) (text : List ℕ) → closed_at quote escaped (suc n) text ≡ bump (closed_at quote escaped n text)
closed_bump quote escaped n [] = refl
closed_bump quote true n (b ∷ bs) =
    ap (cond (b == 10) 0) (closed_bump quote false (suc n) bs) ∙ sym (bump_cond (b == 10) 0 (closed_at quote false (suc n) bs))
closed_bump quote false n (b ∷ bs) =
    let later = closed_at quote (b == 92) (suc n) bs in
    ap (λ k. cond (b == quote) (suc (suc n)) (cond (b == 10) 0 k)) (closed_bump quote (b == 92) (suc n) bs)
    ∙ sym (bump_cond (b == quote) (suc n) (cond (b == 10) 0 later) ∙ ap (cond (b == quote) (suc (suc n))) (bump_cond (b == 10) 0 later))

quoted_bump : (quote n : ℕ) (text : List ℕ) → quoted_len quote (suc n) text ≡ bump (quoted_len quote n text)
quoted_bump quote n [] = refl
quoted_bump quote n (b ∷ bs) =
    ap (λ k. cond (b == quote) k 0) (closed_bump quote false (suc n) bs) ∙ sym (bump_cond (b == quote) (closed_at quote false (suc n) bs) 0)

-- " or '
abbrev is_quote : ℕ → Bool
is_quote b = (b == 34) || (b == 39)

abbrev comment_or_byte : ℕ → List ℕ → ℕ
comment_or_byte b bs =
    if (b == 47) && begins_with_byte 42 bs then comment_len (block_comment (b ∷ bs)) else
    if (b == 47) && begins_with_byte 47 bs then comment_len (line_comment (b ∷ bs)) else 1

-- a literal without a prefix
literal_over : (language : Language) (quote b : ℕ) (bs : List ℕ) → is_quote quote ≡ true → (b == quote) ≡ true → 0 < closed_at quote false 1 bs
    → line_rest language 0 (b ∷ bs) ≡ line_rest language (closed_at quote false 1 bs) (b ∷ bs)
literal_over language quote b bs is same some =
    let e : b ≡ quote = eqb-true b quote same in
    let here : is_quote b ≡ true = ap is_quote e ∙ is in
    let n = closed_at b false 1 bs in
    let len : n ≡ closed_at quote false 1 bs = ap (λ q. closed_at q false 1 bs) e in
    let pos : nat_lt 0 n ≡ true = lt-ltb 0 n (omega arith) in
    let skipped : skipped_len language (b ∷ bs) ≡ n =
    cond-true (is_quote b) (literal_or_rest language n (b ∷ bs)) (comment_or_byte b bs) here
    ∙ cond-true (nat_lt 0 n) n (lone_len language (b ∷ bs)) pos in
    line_rest-part language b bs (differs is_quote 10 b refl here) (omega arith)
    ∙ ap (λ k. line_rest language k (b ∷ bs)) (skipped ∙ len)

quoted_over : (language : Language) (quote : ℕ) (text : List ℕ) → is_quote quote ≡ true → 0 < quoted_len quote 0 text → line_rest language 0 text ≡ line_rest language (quoted_len quote 0 text) text
quoted_over language quote [] is some = refl
quoted_over language quote (b ∷ bs) is some =
    let n = closed_at quote false 1 bs in
    let P : ℕ → Type 0 = λ k. 0 < k → line_rest language 0 (b ∷ bs) ≡ line_rest language k (b ∷ bs) in
    cond_both (b == quote) n 0 P (λ same some'. literal_over language quote b bs is same some') (λ _ some'. absurd (omega arith)) some

-- after n bytes of a prefix
byte_over : (language : Language) (b n : ℕ) (bs : List ℕ) → is_stop b ≡ false → line_rest language 0 bs ≡ line_rest language n bs → line_rest language 0 (b ∷ bs) ≡ line_rest language (suc n) (b ∷ bs)
byte_over language b n bs plain over = line_rest-byte language b bs plain ∙ ap (further 1) over

prefixed_over : (language : Language) (quote b : ℕ) (bs : List ℕ) → is_quote quote ≡ true → is_stop b ≡ false → 0 < quoted_len quote 1 bs
    → line_rest language 0 (b ∷ bs) ≡ line_rest language (quoted_len quote 1 bs) (b ∷ bs)
prefixed_over language quote b bs is plain some =
    let len = bumped (quoted_len quote 1 bs) (quoted_len quote 0 bs) (quoted_bump quote 0 bs) some in
    let inner = some_before (quoted_len quote 1 bs) (quoted_len quote 0 bs) (quoted_bump quote 0 bs) some in
    byte_over language b (quoted_len quote 0 bs) bs plain (quoted_over language quote bs is inner) ∙ ap (λ k. line_rest language k (b ∷ bs)) (sym len)

wide_str_over : (language : Language) (b : ℕ) (bs : List ℕ) → is_stop b ≡ false → 0 < wide_str_len b bs → line_rest language 0 (b ∷ bs) ≡ line_rest language (wide_str_len b bs) (b ∷ bs)
wide_str_over language b [] plain some = absurd (omega arith)
wide_str_over language b (c ∷ cs) plain some =
    let P : ℕ → Type 0 = λ k. 0 < k → line_rest language 0 (b ∷ c ∷ cs) ≡ line_rest language k (b ∷ c ∷ cs) in
    cond_both ((b == 117) && (c == 56)) (quoted_len 34 2 cs) (quoted_len 34 1 (c ∷ cs)) P
    (λ is some'.
    let parts = and_parts (b == 117) (c == 56) is in
    let plain' : is_stop c ≡ false = ap is_stop (eqb-true c 56 parts.1) in
    let m = quoted_len 34 1 cs in
    let len = bumped (quoted_len 34 2 cs) m (quoted_bump 34 1 cs) some' in
    let inner = some_before (quoted_len 34 2 cs) m (quoted_bump 34 1 cs) some' in
    byte_over language b m (c ∷ cs) plain (prefixed_over language 34 c cs refl plain' inner) ∙ ap (λ k. line_rest language k (b ∷ c ∷ cs)) (sym len))
    (λ _ some'. prefixed_over language 34 b (c ∷ cs) refl plain some')
    some

-- punctuators

-- a stop is after the first byte
abbrev has_stop_after : List ℕ → Bool
has_stop_after [] = false
has_stop_after (b ∷ bs) = list_any is_stop bs

without_stops : (n : ℕ) (text : List ℕ) → list_any is_stop (take n text) ≡ false → Plain n text
without_stops zero text none = tt
without_stops (suc n) [] none = tt
without_stops (suc n) (b ∷ bs) none =
    let parts = or_parts (is_stop b) (list_any is_stop (take n bs)) none in (parts.0, without_stops n bs parts.1)

-- a byte that begins no literal and no comment
single_byte : (language : Language) (b : ℕ) (bs : List ℕ) → (b == 10) ≡ false → (b == 34) ≡ false → (b == 39) ≡ false
    → ((b == 47) && begins_with_byte 42 bs) ≡ false → ((b == 47) && begins_with_byte 47 bs) ≡ false → skipped_len language (b ∷ bs) ≡ 1
single_byte language b bs line double single star slash =
    cond-false (is_quote b) (literal_or_rest language (closed_at b false 1 bs) (b ∷ bs)) (comment_or_byte b bs)
    (or_from (b == 34) (b == 39) double single)
    ∙ cond-false ((b == 47) && begins_with_byte 42 bs) (comment_len (block_comment (b ∷ bs))) (cond ((b == 47) && begins_with_byte 47 bs) (comment_len (line_comment (b ∷ bs))) 1) star
    ∙ cond-false ((b == 47) && begins_with_byte 47 bs) (comment_len (line_comment (b ∷ bs))) 1 slash

-- what is at the front, as skipping meets it
abbrev pub Agrees : Language → ℕ → List ℕ → Piece → Type 0
Agrees language b bs (Blank n) = line_rest language 0 (b ∷ bs) ≡ line_rest language n (b ∷ bs)
Agrees language b bs (Lexeme kind n) = line_rest language 0 (b ∷ bs) ≡ line_rest language n (b ∷ bs)
Agrees language b bs NewLine = line_rest language 0 (b ∷ bs) ≡ ToLineEnd 0
Agrees language b bs Unclosed = line_rest language 0 (b ∷ bs) ≡ ToOpenComment 0

one_part : (language : Language) (b : ℕ) (bs : List ℕ) → (b == 10) ≡ false → skipped_len language (b ∷ bs) ≡ 1 → line_rest language 0 (b ∷ bs) ≡ line_rest language 1 (b ∷ bs)
one_part language b bs line one = line_rest-part language b bs line (omega arith) ∙ ap (λ k. line_rest language k (b ∷ bs)) one

-- a token of the kind, or one byte
lexeme_agrees : (language : Language) (b : ℕ) (bs : List ℕ) (kind : Kind) (n : ℕ) → (0 < n → line_rest language 0 (b ∷ bs) ≡ line_rest language n (b ∷ bs))
    → (n ≡ 0 → line_rest language 0 (b ∷ bs) ≡ line_rest language 1 (b ∷ bs)) → Agrees language b bs (lexeme_or_other kind n)
lexeme_agrees language b bs kind n some none =
    cond_both (nat_lt 0 n) (Lexeme kind n) (Lexeme Other 1) (Agrees language b bs) (λ is. some (ltb-true 0 n is))
    (λ is. none (let le = ltb-false 0 n is in omega arith))

-- a quote whose literal does not close
lone_over : (language : Language) (quote b : ℕ) (bs : List ℕ) → is_quote quote ≡ true → (b == quote) ≡ true → closed_at quote false 1 bs ≡ 0
    → line_rest language 0 (b ∷ bs) ≡ line_rest language (lone_len language (b ∷ bs)) (b ∷ bs)
lone_over language quote b bs is same none =
    let e = eqb-true b quote same in
    let here : is_quote b ≡ true = ap is_quote e ∙ is in
    let n = closed_at b false 1 bs in
    let zero' : n ≡ 0 = ap (λ q. closed_at q false 1 bs) e ∙ none in
    let line : (b == 10) ≡ false = differs is_quote 10 b refl here in
    let skipped : skipped_len language (b ∷ bs) ≡ lone_len language (b ∷ bs) =
    cond-true (is_quote b) (literal_or_rest language n (b ∷ bs)) (comment_or_byte b bs) here
    ∙ ap (λ k. cond (nat_lt 0 k) k (lone_len language (b ∷ bs))) zero' in
    let some : 0 < lone_len language (b ∷ bs) =
    cond_both (is_gnu language) (line_len (b ∷ bs)) 1 (λ k. 0 < k) (λ _. omega (arith, line_from b 0 bs line (omega arith))) (λ _. omega arith) in
    line_rest-part language b bs line (omega (arith, skipped, some)) ∙ ap (λ k. line_rest language k (b ∷ bs)) skipped

-- after a byte of its prefix, in GNU C
behind_prefix : (language : Language) (b : ℕ) (bs : List ℕ) → is_gnu language ≡ true → is_stop b ≡ false → (b == 10) ≡ false
    → line_rest language 0 bs ≡ line_rest language (line_len bs) bs → line_rest language 0 (b ∷ bs) ≡ line_rest language (line_len (b ∷ bs)) (b ∷ bs)
behind_prefix language b bs gnu plain line over =
    let size : suc (line_len bs) ≡ line_len (b ∷ bs) =
    (let e : suc (line_len bs) ≡ 1 + line_len bs = omega arith in e) ∙ sym (cond-true (not (b == 10)) (1 + line_len bs) 0 (ap not line)) in
    byte_over language b (line_len bs) bs plain over ∙ ap (λ k. line_rest language k (b ∷ bs)) size

lone_line_over : (language : Language) (quote n c : ℕ) (cs : List ℕ) → is_gnu language ≡ true → is_quote quote ≡ true → (c == quote) ≡ true → quoted_len quote n (c ∷ cs) ≡ 0
    → line_rest language 0 (c ∷ cs) ≡ line_rest language (line_len (c ∷ cs)) (c ∷ cs)
lone_line_over language quote n c cs gnu is here none =
    let open_ : closed_at quote false (suc n) cs ≡ 0 = sym (cond-true (c == quote) (closed_at quote false (suc n) cs) 0 here) ∙ none in
    lone_over language quote c cs is here (same_none quote false (suc n) 1 cs open_)
    ∙ ap (λ k. line_rest language k (c ∷ cs)) (cond-true (is_gnu language) (line_len (c ∷ cs)) 1 gnu)

wide_lone_over : (language : Language) (b : ℕ) (bs : List ℕ) → is_wide b ≡ true → is_gnu language ≡ true → begins_quoted b bs ≡ true → quoted_len 39 1 bs ≡ 0
    → wide_str_len b bs ≡ 0 → line_rest language 0 (b ∷ bs) ≡ line_rest language (line_len (b ∷ bs)) (b ∷ bs)
wide_lone_over language b bs wide gnu begins char str =
    behind_prefix language b bs gnu (no_stop is_wide b refl refl refl refl wide) (differs is_wide 10 b refl wide) (by bs begins char str)
  where
    eight_over : (c : ℕ) (cs : List ℕ) → (c == 56) ≡ true → begins_with_byte 34 cs ≡ true → quoted_len 34 2 cs ≡ 0
        → line_rest language 0 (c ∷ cs) ≡ line_rest language (line_len (c ∷ cs)) (c ∷ cs)
    eight_over c [] eight quote none = cc
    eight_over c (d ∷ ds) eight quote none =
        let is = eqb-true c 56 eight in
        behind_prefix language c (d ∷ ds) gnu (ap is_stop is) (ap (λ x. x == 10) is) (lone_line_over language 34 2 d ds gnu refl quote none)

    by : (text : List ℕ) → begins_quoted b text ≡ true → quoted_len 39 1 text ≡ 0 → wide_str_len b text ≡ 0 → line_rest language 0 text ≡ line_rest language (line_len text) text
    by [] begins char str = refl
    by (c ∷ cs) begins char str =
        ⊎_elim (λ (is : (c == 39) ≡ true). lone_line_over language 39 1 c cs gnu refl is char)
        (λ (rest : ((c == 34) || ((b == 117) && ((c == 56) && begins_with_byte 34 cs))) ≡ true).
        ⊎_elim
        (λ (is : (c == 34) ≡ true).
        let plain : ((b == 117) && (c == 56)) ≡ false = and_right (b == 117) (c == 56) (differs (λ x. x == 34) 56 c refl is) in
        lone_line_over language 34 1 c cs gnu refl is (sym (cond-false ((b == 117) && (c == 56)) (quoted_len 34 2 cs) (quoted_len 34 1 (c ∷ cs)) plain) ∙ str))
        (λ (third : ((b == 117) && ((c == 56) && begins_with_byte 34 cs)) ≡ true).
        let u = and_parts (b == 117) ((c == 56) && begins_with_byte 34 cs) third in
        let eight = and_parts (c == 56) (begins_with_byte 34 cs) u.1 in
        eight_over c cs eight.0 eight.1
        (sym (cond-true ((b == 117) && (c == 56)) (quoted_len 34 2 cs) (quoted_len 34 1 (c ∷ cs)) (and_from (b == 117) (c == 56) u.0 eight.0)) ∙ str))
        (or_cases (c == 34) ((b == 117) && ((c == 56) && begins_with_byte 34 cs)) rest))
        (or_cases (c == 39) ((c == 34) || ((b == 117) && ((c == 56) && begins_with_byte 34 cs))) begins)

wide_agrees : (language : Language) (b : ℕ) (bs : List ℕ) → is_wide b ≡ true
    → Agrees language b bs (wide_token (quoted_len 39 1 bs) (wide_str_len b bs) (wide_lone_len language (b ∷ bs)) (row_len (identifier_part language) 0 (b ∷ bs)))
wide_agrees language b bs wide =
    let plain = no_stop is_wide b refl refl refl refl wide in
    let char = quoted_len 39 1 bs in
    let str = wide_str_len b bs in
    let lone = wide_lone_len language (b ∷ bs) in
    let word = row_len (identifier_part language) 0 (b ∷ bs) in
    let last = cond (nat_lt 0 lone) (Lexeme Other lone) (Lexeme Identifier word) in
    cond_both (nat_lt 0 char) (Lexeme Char char) (cond (nat_lt 0 str) (Lexeme Str str) last) (Agrees language b bs)
    (λ is. prefixed_over language 39 b bs refl plain (ltb-true 0 char is))
    (λ no_char. cond_both (nat_lt 0 str) (Lexeme Str str) last (Agrees language b bs) (λ is. wide_str_over language b bs plain (ltb-true 0 str is))
    (λ no_str. cond_both (nat_lt 0 lone) (Lexeme Other lone) (Lexeme Identifier word) (Agrees language b bs)
    (λ is.
    let le_char = ltb-false 0 char no_char in
    let le_str = ltb-false 0 str no_str in
    cond_both (begins_quoted b bs && is_gnu language) (line_len (b ∷ bs)) 0 (λ k. 0 < k → line_rest language 0 (b ∷ bs) ≡ line_rest language k (b ∷ bs))
    (λ both _. let parts = and_parts (begins_quoted b bs) (is_gnu language) both in wide_lone_over language b bs wide parts.1 parts.0 (omega arith) (omega arith))
    (λ _ none. absurd (omega (arith, none))) (ltb-true 0 lone is))
    (λ _. row_over (identifier_part language) (identifier_plain language) language (b ∷ bs))))

quote_agrees : (language : Language) (quote b : ℕ) (bs : List ℕ) (kind : Kind) → is_quote quote ≡ true → (b == quote) ≡ true
    → Agrees language b bs (literal_or_lone language kind (closed_at quote false 1 bs) (b ∷ bs))
quote_agrees language quote b bs kind is same =
    let n = closed_at quote false 1 bs in
    cond_both (nat_lt 0 n) (Lexeme kind n) (Lexeme Other (lone_len language (b ∷ bs))) (Agrees language b bs)
    (λ some. literal_over language quote b bs is same (ltb-true 0 n some))
    (λ none. let le = ltb-false 0 n none in lone_over language quote b bs is same (omega arith))

punctuator_over : (language : Language) (n b : ℕ) (bs : List ℕ) → 0 < n → n ≡ punctuator_len (b ∷ bs) → line_rest language 0 (b ∷ bs) ≡ line_rest language 1 (b ∷ bs) → line_rest language 0 (b ∷ bs) ≡ line_rest language n (b ∷ bs)
punctuator_over language zero b bs some is one = absurd (omega arith)
punctuator_over language (suc n) b bs some is one =
    let passes : is_punct (take (suc n) (b ∷ bs)) ≡ true =
    ap (λ k. is_punct (take k (b ∷ bs))) is ∙ (longest_punctuator (b ∷ bs)).passes (omega arith) in
    one ∙ ap (further 1) (plain_over language n bs (without_stops n bs (none_of has_stop_after (take (suc n) (b ∷ bs)) punctuators refl passes)))

first_agrees : (language : Language) (b : ℕ) (bs : List ℕ) → (b == 10) ≡ false → ((b == 47) && begins_with_byte 42 bs) ≡ false → ((b == 47) && begins_with_byte 47 bs) ≡ false
    → Agrees language b bs (first_token language (b ∷ bs))
first_agrees language b bs line star slash =
    let word = row_len (identifier_part language) 0 (b ∷ bs) in
    let punct = punctuator_len (b ∷ bs) in
    let symbol = lexeme_or_other Punct punct in
    let single = cond (b == 39) (literal_or_lone language Char (closed_at 39 false 1 bs) (b ∷ bs)) symbol in
    let double = cond (b == 34) (literal_or_lone language Str (closed_at 34 false 1 bs) (b ∷ bs)) single in
    let other = cond (is_letter b || begins_nondigit language b) (lexeme_or_other Identifier word) double in
    let wide = wide_token (quoted_len 39 1 bs) (wide_str_len b bs) (wide_lone_len language (b ∷ bs)) word in
    cond_both (begins_number (b ∷ bs)) (Lexeme Number (row_len (number_part language) 0 (b ∷ bs))) (cond (is_wide b) wide other) (Agrees language b bs)
    (λ _. row_over (number_part language) (number_plain language) language (b ∷ bs))
    (λ _. cond_both (is_wide b) wide other (Agrees language b bs) (λ is. wide_agrees language b bs is)
    (λ _. cond_both (is_letter b || begins_nondigit language b) (lexeme_or_other Identifier word) double (Agrees language b bs)
    (λ is. lexeme_agrees language b bs Identifier word (λ _. row_over (identifier_part language) (identifier_plain language) language (b ∷ bs))
    (λ _. line_rest-byte language b bs (no_stop (λ x. is_letter x || begins_nondigit language x) b refl refl refl refl is)))
    (λ _. cond_both (b == 34) (literal_or_lone language Str (closed_at 34 false 1 bs) (b ∷ bs)) single (Agrees language b bs) (λ is. quote_agrees language 34 b bs Str refl is)
    (λ not_double. cond_both (b == 39) (literal_or_lone language Char (closed_at 39 false 1 bs) (b ∷ bs)) symbol (Agrees language b bs) (λ is. quote_agrees language 39 b bs Char refl is)
    (λ not_single.
    let one = one_part language b bs line (single_byte language b bs line not_double not_single star slash) in
    lexeme_agrees language b bs Punct punct (λ some. punctuator_over language punct b bs some refl one) (λ _. one))))))

-- comments
comment_agrees : (language : Language) (b : ℕ) (bs : List ℕ) (n : ℕ) → (b == 10) ≡ false → skipped_len language (b ∷ bs) ≡ n → 0 < n → line_rest language 0 (b ∷ bs) ≡ line_rest language n (b ∷ bs)
comment_agrees language b bs n line is some = line_rest-part language b bs line (omega arith) ∙ ap (λ k. line_rest language k (b ∷ bs)) is

block_agrees : (language : Language) (b : ℕ) (bs : List ℕ) (rest : Option ℕ) → (b == 10) ≡ false → skipped_len language (b ∷ bs) ≡ comment_len (option_map_or (λ n. Blank (2 + n)) rest Unclosed)
    → Agrees language b bs (option_map_or (λ n. Blank (2 + n)) rest Unclosed)
block_agrees language b bs None line is = line_goes_on language b bs line ∙ ap (λ k. skip_part k (line_rest language (skipped_len language (b ∷ bs) - 1) bs)) is
block_agrees language b bs (Some n) line is = comment_agrees language b bs (2 + n) line is (omega arith)

line_agrees : (language : Language) (b : ℕ) (bs : List ℕ) → (b == 10) ≡ false → skipped_len language (b ∷ bs) ≡ comment_len (line_comment (b ∷ bs)) → Agrees language b bs (line_comment (b ∷ bs))
line_agrees language b bs line is =
    let p : ℕ → Bool = λ x. not (x == 10) in
    let some : prefix_len p (b ∷ bs) ≡ 1 + prefix_len p bs = cond-true (p b) (1 + prefix_len p bs) 0 (ap not line) in
    comment_agrees language b bs (prefix_len p (b ∷ bs)) line is (omega (arith, some))

slash_no_quote : (b : ℕ) → (b == 47) ≡ true → is_quote b ≡ false
slash_no_quote b is = ap is_quote (eqb-true b 47 is)

piece_by-agrees : (language : Language) (b : ℕ) (bs : List ℕ) → Agrees language b bs (piece_by language Elsewhere (b ∷ bs))
piece_by-agrees language b bs =
    let text = b ∷ bs in
    let star = (b == 47) && begins_with_byte 42 bs in
    let slash = (b == 47) && begins_with_byte 47 bs in
    let last = cond slash (line_comment text) (first_token language text) in
    let late = cond star (block_comment text) last in
    cond_both (is_blank b) (Blank 1) (cond (b == 10) NewLine late) (Agrees language b bs)
    (λ is. line_rest-byte language b bs (no_stop is_blank b refl refl refl refl is))
    (λ _. cond_both (b == 10) NewLine late (Agrees language b bs) (λ is. cond-true (b == 10) (ToLineEnd 0) (skip_part (skipped_len language text) (line_rest language (skipped_len language text - 1) bs)) is)
    (λ line. cond_both star (block_comment text) last (Agrees language b bs)
    (λ is.
    let quote : is_quote b ≡ false = slash_no_quote b (and_parts (b == 47) (begins_with_byte 42 bs) is).0 in
    block_agrees language b bs (comment_rest (drop 2 text)) line
    (cond-false (is_quote b) (literal_or_rest language (closed_at b false 1 bs) (b ∷ bs)) (comment_or_byte b bs) quote
    ∙ cond-true star (comment_len (block_comment text)) (cond slash (comment_len (line_comment text)) 1) is))
    (λ no_star. cond_both slash (line_comment text) (first_token language text) (Agrees language b bs)
    (λ is.
    let quote : is_quote b ≡ false = slash_no_quote b (and_parts (b == 47) (begins_with_byte 47 bs) is).0 in
    line_agrees language b bs line
    (cond-false (is_quote b) (literal_or_rest language (closed_at b false 1 bs) (b ∷ bs)) (comment_or_byte b bs) quote
    ∙ cond-false star (comment_len (block_comment text)) (cond slash (comment_len (line_comment text)) 1) no_star
    ∙ cond-true slash (comment_len (line_comment text)) 1 is))
    (λ no_slash. first_agrees language b bs line no_star no_slash))))

pub piece_agrees : (language : Language) (b : ℕ) (bs : List ℕ) → Agrees language b bs (piece_at language Elsewhere (b ∷ bs))
piece_agrees language b bs = subst (Agrees language b bs) (piece_at-is language Elsewhere (b ∷ bs) 0 (omega arith)) (piece_by-agrees language b bs)
