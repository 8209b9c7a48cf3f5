-- By the first byte of a text most classes are ruled out: `first_token` is the longest token.
use Rattle.std.proofs.Common.{◌≡◌, ℕ, suc, ◌-◌, ◌+◌, ◌<◌, ◌≤◌, Bool, true, false, not, ◌&&◌, ◌||◌, List, [], ◌∷◌, take, cond, nat_lt, ◌==◌, refl, sym, ap, ◌∙◌, subst, arith, ⊎_elim, true≢false}
use Rattle.std.proofs.lemmas.Bool.{cond-true, cond-false, cond_both, cases_Bool, and_cases, and_parts, and_right, or_parts, or_cases, or_from, lt-ltb, le-ltb, ltb-true, ltb-false, eqb-true}
use Rattle.inc_token.specs.declared.kinds.Kind.{Kind}
use Rattle.inc_token.specs.declared.kinds.Kind.TheVariants.{Identifier, Number, Char, Str, Punct, Other}
use Rattle.inc_token.specs.declared.pieces.Piece.{Piece}
use Rattle.inc_token.specs.declared.pieces.Piece.TheVariants.{Lexeme}
use Rattle.inc_token.specs.Spellings.{begins_nondigit, is_digit, is_letter, is_lone, nonletter_len, nondigit_len, identifier_part, number_part, begins_number, is_blank}
use Rattle.inc_token.specs.TokenLines.{longest_token, line_part}
use Rattle.inc_token.specs.Scanning.{begins_quoted, begins_with_byte, row_len, closed_at, line_len, lone_len, quoted_len, is_wide, wide_lone_len, wide_str_len, punctuator_len, lexeme_or_other, literal_or_lone, wide_token}
use Rattle.inc_text.specs.Languages.{is_gnu}
use Rattle.inc_token.proofs.FrontPieces.{first_token}
use Rattle.inc_token.proofs.Lengths.{identifier_len, number_len, char_len, str_len}
use Rattle.inc_token.proofs.Rows.{differs, line_from, no_row, part_in_row}
use Rattle.inc_token.proofs.LoneQuotes.{lone_double, lone_prefixed, lone_single, none_double, none_on_line, none_other, none_plain, none_single, none_wide_char, none_wide_line, none_wide_str, none_word, quoted_byte}
use Rattle.inc_token.proofs.Parts.{identifier_parts, number_parts}
use Rattle.inc_token.proofs.Words.{nonletter_other, digit_no_nondigit, nondigit_in_row, first_is_part}
use Rattle.inc_token.proofs.Closed.{Grows, quoted_grows}
use Rattle.inc_token.proofs.Punctuators.{no_punctuator, lone_dot}
use Rattle.inc_token.proofs.Tokens.{token_identifier, token_number, token_char, token_str, token_punctuator, token_lone, token_other}
use Rattle.inc_text.specs.declared.languages.Language.{Language}

pub no_wide : (f : ℕ → Bool) (b : ℕ) → f 117 ≡ false → f 85 ≡ false → f 76 ≡ false → f b ≡ true → is_wide b ≡ false
no_wide f b u v w passes =
    or_from ((b == 117) || (b == 85)) (b == 76)
    (or_from (b == 117) (b == 85) (differs f 117 b u passes) (differs f 85 b v passes)) (differs f 76 b w passes)

no_char : (b : ℕ) (bs : List ℕ) → is_wide b ≡ false → (b == 39) ≡ false → char_len (b ∷ bs) ≡ 0
no_char b bs wide other =
    cond-false (is_wide b) (quoted_len 39 1 bs) (quoted_len 39 0 (b ∷ bs)) wide ∙ cond-false (b == 39) (closed_at 39 false 1 bs) 0 other

no_str : (b : ℕ) (bs : List ℕ) → is_wide b ≡ false → (b == 34) ≡ false → str_len (b ∷ bs) ≡ 0
no_str b bs wide other =
    cond-false (is_wide b) (wide_str_len b bs) (quoted_len 34 0 (b ∷ bs)) wide ∙ cond-false (b == 34) (closed_at 34 false 1 bs) 0 other

no_identifier : (language : Language) (text : List ℕ) → nondigit_len language text ≡ 0 → identifier_len language text ≡ 0
no_identifier language text none = cond-false (nat_lt 0 (nondigit_len language text)) (row_len (identifier_part language) 0 text) 0 (le-ltb 0 (nondigit_len language text) (omega arith))

no_nondigit : (language : Language) (b : ℕ) (bs : List ℕ) → is_letter b ≡ false → begins_nondigit language b ≡ false → nondigit_len language (b ∷ bs) ≡ 0
no_nondigit language b bs letter other = cond-false (is_letter b) 1 (nonletter_len language (b ∷ bs)) letter ∙ nonletter_other language b bs other

no_number : (language : Language) (text : List ℕ) → begins_number text ≡ false → number_len language text ≡ 0
no_number language text other = cond-false (begins_number text) (row_len (number_part language) 0 text) 0 other

no_digit : (b : ℕ) (bs : List ℕ) → begins_number (b ∷ bs) ≡ false → is_digit b ≡ false
no_digit b [] other = other
no_digit b (c ∷ cs) other = let parts = or_parts (is_digit b) ((b == 46) && is_digit c) other in parts.0

-- a number

number_row : (language : Language) (b : ℕ) (bs : List ℕ) → begins_number (b ∷ bs) ≡ true → 0 < row_len (number_part language) 0 (b ∷ bs)
number_row language b bs begins = omega (arith, first_is_part language b bs begins, part_in_row (number_part language) (number_parts language) (b ∷ bs))

number_by : (language : Language) (f : ℕ → Bool) (b : ℕ) (bs : List ℕ) → f b ≡ true → f 117 ≡ false → f 85 ≡ false → f 76 ≡ false → f 39 ≡ false → f 34 ≡ false
    → nondigit_len language (b ∷ bs) ≡ 0 → punctuator_len (b ∷ bs) ≤ 1 → begins_number (b ∷ bs) ≡ true
    → longest_token language (line_part (b ∷ bs)) ≡ Lexeme Number (row_len (number_part language) 0 (b ∷ bs))
number_by language f b bs passes u v w q s word punct begins =
    let wide = no_wide f b u v w passes in
    let row = number_row language b bs begins in
    token_number language (b ∷ bs) (row_len (number_part language) 0 (b ∷ bs)) (cond-true (begins_number (b ∷ bs)) (row_len (number_part language) 0 (b ∷ bs)) 0 begins)
    row (no_identifier language (b ∷ bs) word) (no_char b bs wide (differs f 39 b q passes)) (no_str b bs wide (differs f 34 b s passes)) (omega arith)
    (none_plain language b bs wide _ (differs f 39 b q passes) (differs f 34 b s passes))

number_at_digit : (language : Language) (b : ℕ) (bs : List ℕ) → is_digit b ≡ true → begins_number (b ∷ bs) ≡ true
    → longest_token language (line_part (b ∷ bs)) ≡ Lexeme Number (row_len (number_part language) 0 (b ∷ bs))
number_at_digit language b bs digit begins =
    number_by language is_digit b bs digit refl refl refl refl refl (digit_no_nondigit language b bs digit)
    (omega (arith, no_punctuator is_digit b bs refl digit)) begins

number_at_dot : (language : Language) (b c : ℕ) (bs : List ℕ) → (b == 46) ≡ true → is_digit c ≡ true → begins_number (b ∷ c ∷ bs) ≡ true
    → longest_token language (line_part (b ∷ c ∷ bs)) ≡ Lexeme Number (row_len (number_part language) 0 (b ∷ c ∷ bs))
number_at_dot language b c bs dot digit begins =
    let is = eqb-true b 46 dot in
    let alone : punctuator_len (b ∷ c ∷ bs) ≡ 1 =
    subst (λ x. punctuator_len (x ∷ c ∷ bs) ≡ 1) (sym is) (lone_dot c bs (differs is_digit 46 c refl digit)) in
    let word : nondigit_len language (b ∷ c ∷ bs) ≡ 0 =
    subst (λ x. nondigit_len language (x ∷ c ∷ bs) ≡ 0) (sym is) (no_nondigit language 46 (c ∷ bs) refl refl) in
    number_by language (λ x. x == 46) b (c ∷ bs) dot refl refl refl refl refl word (omega (arith, alone)) begins

at_number : (language : Language) (b : ℕ) (bs : List ℕ) → begins_number (b ∷ bs) ≡ true
    → longest_token language (line_part (b ∷ bs)) ≡ Lexeme Number (row_len (number_part language) 0 (b ∷ bs))
at_number language b [] begins = number_at_digit language b [] begins begins
at_number language b (c ∷ cs) begins =
    ⊎_elim (λ digit. number_at_digit language b (c ∷ cs) digit begins)
    (λ dot. let parts = and_parts (b == 46) (is_digit c) dot in number_at_dot language b c cs parts.0 parts.1 begins)
    (or_cases (is_digit b) ((b == 46) && is_digit c) begins)

-- u, U or L

wide_letter : (b : ℕ) → is_wide b ≡ true → is_letter b ≡ true
wide_letter b wide =
    let at : (k : ℕ) → (b == k) ≡ true → is_letter k ≡ true → is_letter b ≡ true =
    λ k is letter. subst (λ x. is_letter x ≡ true) (sym (eqb-true b k is)) letter in
    ⊎_elim (λ first. ⊎_elim (λ is. at 117 is refl) (λ is. at 85 is refl) (or_cases (b == 117) (b == 85) first)) (λ is. at 76 is refl)
    (or_cases ((b == 117) || (b == 85)) (b == 76) wide)

-- a row of one part of one byte more
row_of_one : (language : Language) (b : ℕ) (bs : List ℕ) → identifier_part language (b ∷ bs) ≡ 1 → row_len (identifier_part language) 0 (b ∷ bs) ≡ suc (row_len (identifier_part language) 0 bs)
row_of_one language b bs one =
    subst (λ n. cond (nat_lt 0 n) (suc (row_len (identifier_part language) (n - 1) bs)) 0 ≡ suc (row_len (identifier_part language) 0 bs)) (sym one) refl

letter_part : (language : Language) (b : ℕ) (bs : List ℕ) → is_letter b ≡ true → identifier_part language (b ∷ bs) ≡ 1
letter_part language b bs letter =
    cond_both (is_digit b) 1 (nondigit_len language (b ∷ bs)) (λ n. n ≡ 1) (λ _. refl) (λ _. cond-true (is_letter b) 1 (nonletter_len language (b ∷ bs)) letter)

-- no part of an identifier is a quote
quote_part : (language : Language) (quote b : ℕ) (bs : List ℕ) → is_digit quote ≡ false → is_letter quote ≡ false → begins_nondigit language quote ≡ false → (b == quote) ≡ true
    → identifier_part language (b ∷ bs) ≡ 0
quote_part language quote b bs digit letter other is =
    subst (λ x. identifier_part language (x ∷ bs) ≡ 0) (sym (eqb-true b quote is))
    (cond-false (is_digit quote) 1 (nondigit_len language (quote ∷ bs)) digit ∙ no_nondigit language quote bs letter other)

-- before a quote the row ends
row_at_byte : (language : Language) (quote : ℕ) (bs : List ℕ) → is_digit quote ≡ false → is_letter quote ≡ false → begins_nondigit language quote ≡ false
    → begins_with_byte quote bs ≡ true → row_len (identifier_part language) 0 bs ≡ 0
row_at_byte language quote [] digit letter other is = refl
row_at_byte language quote (b ∷ bs) digit letter other is =
    no_row (identifier_part language) (identifier_parts language) (b ∷ bs) (quote_part language quote b bs digit letter other is)

row_at_quote : (language : Language) (quote n : ℕ) (bs : List ℕ) → is_digit quote ≡ false → is_letter quote ≡ false → begins_nondigit language quote ≡ false
    → 0 < quoted_len quote n bs → row_len (identifier_part language) 0 bs ≡ 0
row_at_quote language quote n bs digit letter other some = row_at_byte language quote bs digit letter other (quoted_byte quote n bs some)

-- where a character constant is after the letter, no string literal does
no_str_at_char : (b n : ℕ) (bs : List ℕ) → 0 < quoted_len 39 n bs → wide_str_len b bs ≡ 0
no_str_at_char b n [] some = refl
no_str_at_char b n (c ∷ cs) some =
    ⊎_elim
    (λ (is : (c == 39) ≡ true).
    let quote = λ (x : ℕ). x == 39 in
    cond-false ((b == 117) && (c == 56)) (quoted_len 34 2 cs) (quoted_len 34 1 (c ∷ cs)) (and_right (b == 117) (c == 56) (differs quote 56 c refl is))
    ∙ cond-false (c == 34) (closed_at 34 false 2 cs) 0 (differs quote 34 c refl is))
    (λ (elsewhere : (c == 39) ≡ false).
    absurd (omega (arith, some, cond-false (c == 39) (closed_at 39 false (suc n) cs) 0 elsewhere)))
    (cases_Bool (c == 39))

more_than : (n r : ℕ) → Grows n r → 0 < r → n < r
more_than n r grows some = ⊎_elim (λ (none : r ≡ 0). absurd (omega arith)) (λ (more : n < r). more) grows

word_before_char : (language : Language) (b : ℕ) (bs : List ℕ) → is_letter b ≡ true → 0 < quoted_len 39 1 bs → row_len (identifier_part language) 0 (b ∷ bs) < quoted_len 39 1 bs
word_before_char language b bs letter some =
    let row = row_of_one language b bs (letter_part language b bs letter) in
    let rest = row_at_quote language 39 1 bs refl refl refl some in
    let more = more_than 1 _ (quoted_grows 39 1 bs) some in
    omega (arith, row, rest, more)

word_before_str : (language : Language) (b : ℕ) (bs : List ℕ) → is_letter b ≡ true → 0 < wide_str_len b bs → row_len (identifier_part language) 0 (b ∷ bs) < wide_str_len b bs
word_before_str language b [] letter some = absurd (omega arith)
word_before_str language b (c ∷ cs) letter some =
    let row = row_of_one language b (c ∷ cs) (letter_part language b (c ∷ cs) letter) in
    let P : ℕ → Type 0 = λ n. 0 < n → row_len (identifier_part language) 0 (b ∷ c ∷ cs) < n in
    cond_both ((b == 117) && (c == 56)) (quoted_len 34 2 cs) (quoted_len 34 1 (c ∷ cs)) P
    (λ narrow some'.
    let parts = and_parts (b == 117) (c == 56) narrow in
    let digit : is_digit c ≡ true = subst (λ x. is_digit x ≡ true) (sym (eqb-true c 56 parts.1)) refl in
    let second = row_of_one language c cs (cond-true (is_digit c) 1 (nondigit_len language (c ∷ cs)) digit) in
    let rest = row_at_quote language 34 2 cs refl refl refl some' in
    let more = more_than 2 _ (quoted_grows 34 2 cs) some' in
    omega (arith, row, second, rest, more))
    (λ _ some'.
    let rest = row_at_quote language 34 1 (c ∷ cs) refl refl refl some' in
    let more = more_than 1 _ (quoted_grows 34 1 (c ∷ cs)) some' in
    omega (arith, row, rest, more))
    some

-- the line goes on after the word where a quote is behind the letter
word_before_quote : (language : Language) (b : ℕ) (bs : List ℕ) → is_letter b ≡ true → begins_quoted b bs ≡ true → row_len (identifier_part language) 0 (b ∷ bs) < line_len (b ∷ bs)
word_before_quote language b [] letter begins = absurd (true≢false (sym begins ∙ and_right (b == 117) false refl))
word_before_quote language b (c ∷ cs) letter begins =
    let row = row_of_one language b (c ∷ cs) (letter_part language b (c ∷ cs) letter) in
    let size : line_len (b ∷ c ∷ cs) ≡ 1 + line_len (c ∷ cs) = cond-true (not (b == 10)) (1 + line_len (c ∷ cs)) 0 (ap not (differs is_letter 10 b refl letter)) in
    ⊎_elim (λ (is : (c == 39) ≡ true). one 39 refl refl refl refl is row size)
    (λ (rest : ((c == 34) || ((b == 117) && ((c == 56) && begins_with_byte 34 cs))) ≡ true).
    ⊎_elim (λ (is : (c == 34) ≡ true). one 34 refl refl refl refl is row size)
    (λ (third : ((b == 117) && ((c == 56) && begins_with_byte 34 cs)) ≡ true).
    let u = and_parts (b == 117) ((c == 56) && begins_with_byte 34 cs) third in
    let eight = and_parts (c == 56) (begins_with_byte 34 cs) u.1 in
    let digit : is_digit c ≡ true = subst (λ x. is_digit x ≡ true) (sym (eqb-true c 56 eight.0)) refl in
    let second = row_of_one language c cs (cond-true (is_digit c) 1 (nondigit_len language (c ∷ cs)) digit) in
    let last = row_at_byte language 34 cs refl refl refl eight.1 in
    let more : line_len (c ∷ cs) ≡ 1 + line_len cs = cond-true (not (c == 10)) (1 + line_len cs) 0 (ap not (differs is_digit 10 c refl digit)) in
    omega (arith, row, second, last, size, more, some_byte 34 cs refl eight.1))
    (or_cases (c == 34) ((b == 117) && ((c == 56) && begins_with_byte 34 cs)) rest))
    (or_cases (c == 39) ((c == 34) || ((b == 117) && ((c == 56) && begins_with_byte 34 cs))) begins)
  where
    some_byte : (quote : ℕ) (text : List ℕ) → (10 == quote) ≡ false → begins_with_byte quote text ≡ true → 1 ≤ line_len text
    some_byte quote [] apart is = cc
    some_byte quote (d ∷ ds) apart is =
        let more : line_len (d ∷ ds) ≡ 1 + line_len ds = cond-true (not (d == 10)) (1 + line_len ds) 0 (ap not (differs (λ x. x == quote) 10 d apart is)) in
        omega (arith, more)

    one : (quote : ℕ) → is_digit quote ≡ false → is_letter quote ≡ false → begins_nondigit language quote ≡ false → (10 == quote) ≡ false → (c == quote) ≡ true
        → row_len (identifier_part language) 0 (b ∷ c ∷ cs) ≡ suc (row_len (identifier_part language) 0 (c ∷ cs)) → line_len (b ∷ c ∷ cs) ≡ 1 + line_len (c ∷ cs)
        → row_len (identifier_part language) 0 (b ∷ c ∷ cs) < line_len (b ∷ c ∷ cs)
    one quote digit letter' other apart is row size =
        let rest = row_at_byte language quote (c ∷ cs) digit letter' other is in
        omega (arith, row, rest, size, some_byte quote (c ∷ cs) apart is)

-- a letter begins an identifier, as long as its row
letter_word : (language : Language) (b : ℕ) (bs : List ℕ) → is_letter b ≡ true → (0 < row_len (identifier_part language) 0 (b ∷ bs)) × (identifier_len language (b ∷ bs) ≡ row_len (identifier_part language) 0 (b ∷ bs))
letter_word language b bs letter =
    let one = cond-true (is_letter b) 1 (nonletter_len language (b ∷ bs)) letter in (
      omega (arith, one, nondigit_in_row language (b ∷ bs)),
      cond-true (nat_lt 0 (nondigit_len language (b ∷ bs))) (row_len (identifier_part language) 0 (b ∷ bs)) 0 (lt-ltb 0 (nondigit_len language (b ∷ bs)) (omega (arith, one))),
    )

at_wide : (language : Language) (b : ℕ) (bs : List ℕ) → begins_number (b ∷ bs) ≡ false → is_wide b ≡ true
    → longest_token language (line_part (b ∷ bs))
    ≡ wide_token (quoted_len 39 1 bs) (wide_str_len b bs) (wide_lone_len language (b ∷ bs)) (row_len (identifier_part language) 0 (b ∷ bs))
at_wide language b bs begins wide =
    let text = b ∷ bs in
    let letter = wide_letter b wide in
    let word = letter_word language b bs letter in
    let row = row_len (identifier_part language) 0 text in
    let number = no_number language text begins in
    let char = quoted_len 39 1 bs in
    let str = wide_str_len b bs in
    let char_is : char_len text ≡ char = cond-true (is_wide b) char (quoted_len 39 0 text) wide in
    let str_is : str_len text ≡ str = cond-true (is_wide b) str (quoted_len 34 0 text) wide in
    let punct = no_punctuator is_wide b bs refl wide in
    let P : Piece → Type 0 = λ p. longest_token language (line_part text) ≡ p in
    let lone = wide_lone_len language text in
    let quoted = begins_quoted b bs in
    let last = cond (nat_lt 0 lone) (Lexeme Other lone) (Lexeme Identifier row) in
    cond_both (nat_lt 0 char) (Lexeme Char char) (cond (nat_lt 0 str) (Lexeme Str str) last) P
    (λ is.
    let some = ltb-true 0 char is in
    let shorter = word_before_char language b bs letter some in
    token_char language text char char_is (omega (arith, word.1, shorter)) number (str_is ∙ no_str_at_char b 1 bs some) punct
    (none_wide_char language b bs wide some))
    (λ no_char_is.
    let none = ltb-false 0 char no_char_is in
    cond_both (nat_lt 0 str) (Lexeme Str str) last P
    (λ is.
    let some = ltb-true 0 str is in
    let shorter = word_before_str language b bs letter some in
    token_str language text str str_is (omega (arith, word.1, shorter)) number (omega (arith, char_is, none)) punct (none_wide_str language b bs wide some))
    (λ no_str_is.
    let none' = ltb-false 0 str no_str_is in
    let no_char_here : char ≡ 0 = omega arith in
    let no_str_here : str ≡ 0 = omega arith in
    cond_both (quoted && is_gnu language) (line_len text) 0 (λ k. P (cond (nat_lt 0 k) (Lexeme Other k) (Lexeme Identifier row)))
    (λ both.
    let parts = and_parts quoted (is_gnu language) both in
    let shorter = word_before_quote language b bs letter parts.0 in
    subst P (sym (cond-true (nat_lt 0 (line_len text)) (Lexeme Other (line_len text)) (Lexeme Identifier row) (lt-ltb 0 (line_len text) (omega arith))))
    (token_lone language text parts.1 (lone_prefixed language b bs wide parts.0 no_char_here no_str_here) (omega (arith, word.1, shorter)) number
    (char_is ∙ no_char_here) (str_is ∙ no_str_here) punct (none_wide_line language b bs wide)))
    (λ not_both.
    token_identifier language text row word.1 word.0 number (char_is ∙ no_char_here) (str_is ∙ no_str_here) punct
    (⊎_elim (λ (other : quoted ≡ false). none_word language b bs wide row other) (λ (other : is_gnu language ≡ false). none_other language text row other)
    (and_cases quoted (is_gnu language) not_both)))))

-- a token of the kind where its length is not 0, else one byte
with_other : (language : Language) (text : List ℕ) (kind : Kind) (n : ℕ) → (0 < n → longest_token language (line_part text) ≡ Lexeme kind n)
    → (n ≡ 0 → longest_token language (line_part text) ≡ Lexeme Other 1) → longest_token language (line_part text) ≡ lexeme_or_other kind n
with_other language text kind n some none =
    cond_both (nat_lt 0 n) (Lexeme kind n) (Lexeme Other 1) (λ p. longest_token language (line_part text) ≡ p)
    (λ is. some (ltb-true 0 n is)) (λ is. none (let le = ltb-false 0 n is in omega arith))

-- a literal where its length is not 0, else its quote
with_lone : (language : Language) (b : ℕ) (bs : List ℕ) (kind : Kind) (n : ℕ) → is_blank b ≡ false → (b == 10) ≡ false → is_wide b ≡ false → identifier_len language (b ∷ bs) ≡ 0
    → number_len language (b ∷ bs) ≡ 0 → punctuator_len (b ∷ bs) ≡ 0 → (0 < n → longest_token language (line_part (b ∷ bs)) ≡ Lexeme kind n)
    → (n ≡ 0 → (char_len (b ∷ bs) ≡ 0) × (str_len (b ∷ bs) ≡ 0) × (is_lone (take (line_len (b ∷ bs)) (b ∷ bs)) ≡ true))
    → longest_token language (line_part (b ∷ bs)) ≡ literal_or_lone language kind n (b ∷ bs)
with_lone language b bs kind n blank line wide word number punct some none =
    let text = b ∷ bs in
    let P : Piece → Type 0 = λ p. longest_token language (line_part text) ≡ p in
    cond_both (nat_lt 0 n) (Lexeme kind n) (Lexeme Other (lone_len language text)) P (λ is. some (ltb-true 0 n is))
    (λ is.
    let zero' : n ≡ 0 = let le = ltb-false 0 n is in omega arith in
    let rest = none zero' in
    cond_both (is_gnu language) (line_len text) 1 (λ k. P (Lexeme Other k))
    (λ gnu. token_lone language text gnu rest.2 (omega (arith, word, line_from b 0 bs line (omega arith))) number rest.0 rest.1 punct (none_on_line language b bs wide))
    (λ other. token_other language b bs blank line word number rest.0 rest.1 punct (none_other language text 1 other)))

at_word : (language : Language) (b : ℕ) (bs : List ℕ) → begins_number (b ∷ bs) ≡ false → is_wide b ≡ false → (is_letter b || begins_nondigit language b) ≡ true
    → is_blank b ≡ false → (b == 10) ≡ false
    → longest_token language (line_part (b ∷ bs)) ≡ lexeme_or_other Identifier (row_len (identifier_part language) 0 (b ∷ bs))
at_word language b bs begins wide first blank line =
    let text = b ∷ bs in
    let f = λ (x : ℕ). is_letter x || begins_nondigit language x in
    let row = row_len (identifier_part language) 0 text in
    let number = no_number language text begins in
    let char = no_char b bs wide (differs f 39 b refl first) in
    let str = no_str b bs wide (differs f 34 b refl first) in
    let punct = no_punctuator f b bs refl first in
    let part : identifier_part language text ≡ nondigit_len language text = cond-false (is_digit b) 1 (nondigit_len language text) (no_digit b bs begins) in
    let one : identifier_len language text ≡ row =
    cond_both (nat_lt 0 (nondigit_len language text)) row 0 (λ n. n ≡ row) (λ _. refl)
    (λ is. let le = ltb-false 0 (nondigit_len language text) is in sym (no_row (identifier_part language) (identifier_parts language) text (omega (arith, part)))) in
    with_other language text Identifier row
    (λ some. token_identifier language text row one some number char str punct (none_plain language b bs wide row (differs f 39 b refl first) (differs f 34 b refl first)))
    (λ none. token_other language b bs blank line (one ∙ none) number char str punct (none_plain language b bs wide 1 (differs f 39 b refl first) (differs f 34 b refl first)))

at_double : (language : Language) (b : ℕ) (bs : List ℕ) → begins_number (b ∷ bs) ≡ false → is_wide b ≡ false → (is_letter b || begins_nondigit language b) ≡ false → (b == 34) ≡ true
    → is_blank b ≡ false → (b == 10) ≡ false
    → longest_token language (line_part (b ∷ bs)) ≡ literal_or_lone language Str (closed_at 34 false 1 bs) (b ∷ bs)
at_double language b bs begins wide first quote blank line =
    let text = b ∷ bs in
    let f = λ (x : ℕ). x == 34 in
    let n = closed_at 34 false 1 bs in
    let number = no_number language text begins in
    let char = no_char b bs wide (differs f 39 b refl quote) in
    let letter = or_parts (is_letter b) (begins_nondigit language b) first in
    let word = no_identifier language text (no_nondigit language b bs letter.0 letter.1) in
    let punct = no_punctuator f b bs refl quote in
    let str : str_len text ≡ n = cond-false (is_wide b) (wide_str_len b bs) (quoted_len 34 0 text) wide ∙ cond-true (b == 34) n 0 quote in
    with_lone language b bs Str n blank line wide word number punct (λ some. token_str language text n str (omega (arith, word)) number char punct (none_double language b bs wide quote some))
    (λ none. (char, str ∙ none, lone_double language b bs wide quote none))

at_single : (language : Language) (b : ℕ) (bs : List ℕ) → begins_number (b ∷ bs) ≡ false → is_wide b ≡ false → (is_letter b || begins_nondigit language b) ≡ false → (b == 39) ≡ true
    → is_blank b ≡ false → (b == 10) ≡ false
    → longest_token language (line_part (b ∷ bs)) ≡ literal_or_lone language Char (closed_at 39 false 1 bs) (b ∷ bs)
at_single language b bs begins wide first quote blank line =
    let text = b ∷ bs in
    let f = λ (x : ℕ). x == 39 in
    let n = closed_at 39 false 1 bs in
    let number = no_number language text begins in
    let str = no_str b bs wide (differs f 34 b refl quote) in
    let letter = or_parts (is_letter b) (begins_nondigit language b) first in
    let word = no_identifier language text (no_nondigit language b bs letter.0 letter.1) in
    let punct = no_punctuator f b bs refl quote in
    let char : char_len text ≡ n = cond-false (is_wide b) (quoted_len 39 1 bs) (quoted_len 39 0 text) wide ∙ cond-true (b == 39) n 0 quote in
    with_lone language b bs Char n blank line wide word number punct (λ some. token_char language text n char (omega (arith, word)) number str punct (none_single language b bs wide quote some))
    (λ none. (char ∙ none, str, lone_single language b bs wide quote none))

at_symbol : (language : Language) (b : ℕ) (bs : List ℕ) → begins_number (b ∷ bs) ≡ false → is_wide b ≡ false → (is_letter b || begins_nondigit language b) ≡ false
    → (b == 34) ≡ false → (b == 39) ≡ false → is_blank b ≡ false → (b == 10) ≡ false
    → longest_token language (line_part (b ∷ bs)) ≡ lexeme_or_other Punct (punctuator_len (b ∷ bs))
at_symbol language b bs begins wide first double single blank line =
    let text = b ∷ bs in
    let number = no_number language text begins in
    let char = no_char b bs wide single in
    let str = no_str b bs wide double in
    let letter = or_parts (is_letter b) (begins_nondigit language b) first in
    let word = no_identifier language text (no_nondigit language b bs letter.0 letter.1) in
    with_other language text Punct (punctuator_len text)
    (λ some. token_punctuator language text (punctuator_len text) refl some word number char str (none_plain language b bs wide (punctuator_len text) single double))
    (λ none. token_other language b bs blank line word number char str none (none_plain language b bs wide 1 single double))

pub first_token-is : (language : Language) (b : ℕ) (bs : List ℕ) → is_blank b ≡ false → (b == 10) ≡ false → longest_token language (line_part (b ∷ bs)) ≡ first_token language (b ∷ bs)
first_token-is language b bs blank line =
    let text = b ∷ bs in
    let word = row_len (identifier_part language) 0 text in
    let P : Piece → Type 0 = λ p. longest_token language (line_part text) ≡ p in
    let symbol = lexeme_or_other Punct (punctuator_len text) in
    let single = cond (b == 39) (literal_or_lone language Char (closed_at 39 false 1 bs) text) symbol in
    let double = cond (b == 34) (literal_or_lone language Str (closed_at 34 false 1 bs) text) single in
    let other = cond (is_letter b || begins_nondigit language b) (lexeme_or_other Identifier word) double in
    let wide = wide_token (quoted_len 39 1 bs) (wide_str_len b bs) (wide_lone_len language text) word in
    cond_both (begins_number text) (Lexeme Number (row_len (number_part language) 0 text)) (cond (is_wide b) wide other) P (λ is. at_number language b bs is)
    (λ begins. cond_both (is_wide b) wide other P (λ is. at_wide language b bs begins is)
    (λ plain. cond_both (is_letter b || begins_nondigit language b) (lexeme_or_other Identifier word) double P (λ is. at_word language b bs begins plain is blank line)
    (λ first. cond_both (b == 34) (literal_or_lone language Str (closed_at 34 false 1 bs) text) single P (λ is. at_double language b bs begins plain first is blank line)
    (λ not_double. cond_both (b == 39) (literal_or_lone language Char (closed_at 39 false 1 bs) text) symbol P
    (λ is. at_single language b bs begins plain first is blank line)
    (λ not_single. at_symbol language b bs begins plain first not_double not_single blank line)))))
