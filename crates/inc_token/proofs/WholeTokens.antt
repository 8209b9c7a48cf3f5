-- A text lies in a class where the token at its front is the whole of it.
use Rattle.std.proofs.Common.{◌≡◌, ℕ, zero, suc, ◌+◌, ◌<◌, ◌≤◌, ◌==◌, ◌&&◌, ◌||◌, not, Bool, true, false, List, [], ◌∷◌, Option, Some, None, length, take, drop, refl, sym, ap, ◌∙◌, subst, arith, ⊎_elim, cond, is_some, unwrap_or, nat_lt}
use Rattle.std.specs.List.{prefix_len}
use Rattle.std.specs.Option.{option_map_or}
use Rattle.std.proofs.Math.Seq.{take-length}
use Rattle.std.proofs.lemmas.Bool.{cond-true, cond_both, cases_Bool, eqb-true, eqb-false, ltb-true, ltb-false}
use Rattle.inc_token.specs.Spellings.{class_of, is_blank, is_identifier, is_number, is_char, is_str, is_punct, is_other, is_lone, is_one_above}
use Rattle.inc_text.specs.Languages.{is_gnu}
use Rattle.inc_token.specs.TokenLines.{is_token, longest, longest_within, longest_token, line_part, block_comment, line_comment, comment_rest, piece_at}
use Rattle.inc_token.specs.Scanning.{begins_with_byte}
use Rattle.inc_token.proofs.FrontPieces.{line_len, first_token}
use Rattle.inc_token.specs.WholePieces.{class_of_whole}
use Rattle.inc_token.specs.declared.kinds.Kind.{Kind}
use Rattle.inc_token.specs.declared.kinds.Kind.TheVariants.{Other}
use Rattle.inc_token.specs.declared.pieces.Piece.{Piece}
use Rattle.inc_token.specs.declared.pieces.Piece.TheVariants.{Blank, NewLine, Unclosed}
use Rattle.inc_token.specs.declared.pieces.Progress.TheVariants.{Elsewhere}
use Rattle.inc_token.proofs.Closed.{longest_char, longest_str}
use Rattle.inc_token.proofs.FirstBytes.{first_token-is}
use Rattle.inc_token.proofs.LoneQuotes.{lone-on_line}
use Rattle.inc_token.proofs.Longest.{IsLongest, take-line_part, length-line_part}
use Rattle.inc_token.proofs.PieceBounds.{longest-le, and_left, and_right}
use Rattle.inc_token.proofs.PieceTests.{piece_at-is}
use Rattle.inc_token.proofs.Punctuators.{longest_punctuator}
use Rattle.inc_token.proofs.Rows.{line_len-le, line_from}
use Rattle.inc_token.proofs.Spelled.{longest-passes}
use Rattle.inc_token.proofs.TextParts.{if_false}
use Rattle.inc_token.proofs.Words.{longest_identifier, longest_number}
use Rattle.inc_text.specs.declared.languages.Language.{Language}

-- where white space, LF or a comment is at the front, the text lies in no class

either : (s t : Bool) (P : Type 0) → (s ≡ true → P) → (t ≡ true → P) → (s || t) ≡ true → P
either true t P f g h = f refl
either false t P f g h = g h

-- white space of one byte is one of these
each_blank : (P : ℕ → Type 0) (b : ℕ) → P 32 → P 9 → P 11 → P 12 → P 13 → is_blank b ≡ true → P b
each_blank P b space tab vertical form carriage =
    let is = λ (k : ℕ) (p : P k) (h : (b == k) ≡ true). subst P (sym (eqb-true b k h)) p in
    either _ (b == 13) (P b)
    (either _ (b == 12) (P b) (either _ (b == 11) (P b) (either (b == 32) (b == 9) (P b) (is 32 space) (is 9 tab)) (is 11 vertical)) (is 12 form))
    (is 13 carriage)

at_blank : (language : Language) (b : ℕ) (bs : List ℕ) → is_blank b ≡ true → class_of language (b ∷ bs) ≡ None
at_blank language b [] = each_blank (λ a. class_of language (a ∷ []) ≡ None) b refl refl refl refl refl
at_blank language b (c ∷ cs) = each_blank (λ a. class_of language (a ∷ c ∷ cs) ≡ None) b refl refl refl refl refl

at_line_feed : (language : Language) (bs : List ℕ) → class_of language (10 ∷ bs) ≡ None
at_line_feed language [] = refl
at_line_feed language (c ∷ cs) = refl

at_slash : (language : Language) (k b : ℕ) (bs : List ℕ) → ((cs : List ℕ) → class_of language (47 ∷ k ∷ cs) ≡ None) → ((b == 47) && begins_with_byte k bs) ≡ true → class_of language (b ∷ bs) ≡ None
at_slash language k b [] none is = let never = and_right (b == 47) (begins_with_byte k []) is in cc
at_slash language k b (c ∷ cs) none is =
    let first = eqb-true b 47 (and_left (b == 47) (c == k) is) in
    let second = eqb-true c k (and_right (b == 47) (c == k) is) in
    rw (first, second) (none cs)

no_lexeme : (rest : Option ℕ) (size : ℕ) → class_of_whole (option_map_or (λ n. Blank (2 + n)) rest Unclosed) size ≡ None
no_lexeme None size = refl
no_lexeme (Some n) size = refl

-- a text that lies in a class holds no LF

no_class : (language : Language) (t : List ℕ) → is_identifier language t ≡ false → is_number language t ≡ false → is_char t ≡ false → is_str t ≡ false → is_punct t ≡ false → is_other language t ≡ false
    → class_of language t ≡ None
no_class language t i n c s p o =
    if_false (is_identifier language t) _ _ i ∙ if_false (is_number language t) _ _ n ∙ if_false (is_char t) _ _ c ∙ if_false (is_str t) _ _ s ∙ if_false (is_punct t) _ _ p
    ∙ if_false (is_other language t) (Some Other) None o

and_no : (s t : Bool) → t ≡ false → (s && t) ≡ false
and_no true t h = h
and_no false t h = refl

both_no : (s t : Bool) → s ≡ false → (s && t) ≡ false
both_no s t h = ap (λ x. x && t) h

on_one_line : (language : Language) (b : ℕ) (bs : List ℕ) → (b == 10) ≡ false → line_len (b ∷ bs) < length (b ∷ bs) → class_of language (b ∷ bs) ≡ None
on_one_line language b [] line lt = absurd (omega (arith, line_from b 0 [] line (omega arith)))
on_one_line language b (c ∷ cs) line lt =
    let text = b ∷ c ∷ cs in
    let fails = λ (test : List ℕ → Bool) (k : ℕ) (is : IsLongest test text k).
    let within = is.within in
    subst (λ t. test t ≡ false) (take-length text) (is.fails (length text) (omega arith) (omega arith)) in
    no_class language text (fails (is_identifier language) _ (longest_identifier language text)) (fails (is_number language) _ (longest_number language text)) (fails is_char _ (longest_char text))
    (fails is_str _ (longest_str text)) (fails is_punct _ (longest_punctuator text))
    (and_no (not (is_one_above language text)) _ (both_no (is_lone text) (is_gnu language) (lone-on_line b (c ∷ cs) lt)))

-- the longest token at the front is the whole text where that lies in a class

longest_whole : (test : List ℕ → Bool) (t : List ℕ) (m : ℕ) → length t ≡ m → test t ≡ true → longest_within test t m ≡ m
longest_whole test t zero is passes = refl
longest_whole test t (suc m) is passes =
    let all : take (suc m) t ≡ t = subst (λ n. take n t ≡ t) is (take-length t) in
    cond-true (test (take (suc m) t)) (suc m) (longest_within test t m) (ap test all ∙ passes)

some_class : (o : Option Kind) → is_some o ≡ true → Some (unwrap_or o Other) ≡ o
some_class None h = cc
some_class (Some kind) h = refl

no_some : (o : Option Kind) → (is_some o ≡ true → ⊥) → None ≡ o
no_some None never = refl
no_some (Some kind) never = absurd (never refl)

at_token : (language : Language) (b : ℕ) (bs : List ℕ) → is_blank b ≡ false → (b == 10) ≡ false
    → class_of_whole (longest_token language (line_part (b ∷ bs))) (length (b ∷ bs)) ≡ class_of language (b ∷ bs)
at_token language b bs blank line =
    let text = b ∷ bs in
    let t = line_part text in
    let n = longest (is_token language) t in
    let size = length text in
    let on_line : length t ≡ line_len text = length-line_part text in
    let short = line_len-le text in
    let le = longest-le (is_token language) t in
    cond_both (n == size) (Some (unwrap_or (class_of language (take n t)) Other)) None (λ o. o ≡ class_of language text)
    (λ same.
    let is = eqb-true n size same in
    let front : take n t ≡ text = take-line_part text n (omega arith) ∙ subst (λ k. take k text ≡ text) (sym is) (take-length text) in
    let passes = longest-passes (is_token language) t (omega arith) in
    some_class (class_of language (take n t)) passes ∙ ap (class_of language) front)
    (λ other. no_some (class_of language text) (λ some.
    ⊎_elim
    (λ (over : nat_lt (line_len text) size ≡ true).
    let none = subst (λ o. is_some o ≡ true) (on_one_line language b bs line (ltb-true (line_len text) size over)) some in cc)
    (λ (within : nat_lt (line_len text) size ≡ false).
    let least = ltb-false (line_len text) size within in
    let all : line_len text ≡ size = omega arith in
    let front : t ≡ text = subst (λ k. take k text ≡ text) (sym all) (take-length text) in
    let is : n ≡ size = longest_whole (is_token language) t (length t) refl (ap (is_token language) front ∙ some) ∙ on_line ∙ all in
    eqb-false n size other is)
    (cases_Bool (nat_lt (line_len text) size))))

whole_token : (language : Language) (b : ℕ) (bs : List ℕ) → is_blank b ≡ false → class_of_whole (piece_at language Elsewhere (b ∷ bs)) (length (b ∷ bs)) ≡ class_of language (b ∷ bs)
whole_token language b bs blank =
    let text = b ∷ bs in
    let size = length text in
    let P : Piece → Type 0 = λ p. class_of_whole p size ≡ class_of language text in
    let star = (b == 47) && begins_with_byte 42 bs in
    let slash = (b == 47) && begins_with_byte 47 bs in
    let token = first_token language text in
    let at_comment = cond slash (line_comment text) token in
    subst P (piece_at-is language Elsewhere text 0 (omega arith))
    (rw blank
    (cond_both (b == 10) NewLine (cond star (block_comment text) at_comment) P
    (λ is. sym (subst (λ a. class_of language (a ∷ bs) ≡ None) (sym (eqb-true b 10 is)) (at_line_feed language bs)))
    (λ line. cond_both star (block_comment text) at_comment P
    (λ is. no_lexeme (comment_rest (drop 2 text)) size ∙ sym (at_slash language 42 b bs (λ cs. refl) is))
    (λ _. cond_both slash (line_comment text) token P
    (λ is. sym (at_slash language 47 b bs (λ cs. refl) is))
    (λ _. subst P (first_token-is language b bs blank line) (at_token language b bs blank line))))))

-- no byte, or white space at the front

pub no_byte : (language : Language) (text : List ℕ) → length text ≡ 0 → None ≡ class_of language text
no_byte language [] none = refl
no_byte language (b ∷ bs) none = absurd (omega arith)

pub blank_first : (language : Language) (text : List ℕ) → 0 < prefix_len is_blank text → None ≡ class_of language text
blank_first language [] some = absurd (omega arith)
blank_first language (b ∷ bs) some =
    cond_both (is_blank b) (1 + prefix_len is_blank bs) 0 (λ n. 0 < n → None ≡ class_of language (b ∷ bs)) (λ is _. sym (at_blank language b bs is)) (λ _ none. absurd (omega arith)) some

pub bare_first : (language : Language) (text : List ℕ) → 0 < length text → prefix_len is_blank text ≤ 0
    → class_of_whole (piece_at language Elsewhere text) (length text) ≡ class_of language text
bare_first language [] some none = absurd (omega arith)
bare_first language (b ∷ bs) some none =
    cond_both (is_blank b) (1 + prefix_len is_blank bs) 0 (λ n. n ≤ 0 → class_of_whole (piece_at language Elsewhere (b ∷ bs)) (length (b ∷ bs)) ≡ class_of language (b ∷ bs))
    (λ _ over. absurd (omega arith)) (λ bare _. whole_token language b bs bare) none
