-- Where no white space is, the piece can be told by digits and letters first, and the other first bytes after them.
use Rattle.std.proofs.Common.{◌≡◌, ℕ, ◌+◌, ◌<◌, true, false, not, ◌&&◌, List, [], ◌∷◌, length, get_or, drop, cond, nat_lt, ◌==◌, refl, sym, ap, ◌∙◌, subst, ⊎_elim}
use Rattle.std.proofs.lemmas.Bool.{and_left, cases_Bool, cond-false, cond-true, or_parts}
use Rattle.std.proofs.lemmas.List.{drop_more}
use Rattle.inc_token.specs.declared.kinds.Kind.TheVariants.{HeaderName, Punct}
use Rattle.inc_token.specs.declared.pieces.Piece.TheVariants.{NewLine, Lexeme}
use Rattle.inc_token.specs.declared.pieces.Progress.{Progress}
use Rattle.inc_token.specs.declared.pieces.Progress.TheVariants.{AtStart, AfterHash, AfterInclude, Elsewhere}
use Rattle.inc_token.specs.Spellings.{is_blank, is_digit, is_letter, begins_number}
use Rattle.inc_token.specs.TokenLines.{block_comment, line_comment}
use Rattle.inc_token.specs.Scanning.{begins_with_byte, begins_with_point, is_row_byte, is_single, punctuator_len, header_name_len, word_token, mark_token, mark_by, piece_behind_blanks}
use Rattle.inc_token.proofs.FrontPieces.{first_token, token_by, piece_by}
use Rattle.inc_token.proofs.Rows.{differs}
use Rattle.inc_token.proofs.FirstBytes.{no_wide}
use Rattle.inc_token.proofs.Words.{no_start}
use Rattle.inc_token.proofs.Punctuators.{punctuator_len-symbol}
use Rattle.inc_text.specs.declared.languages.Language.{Language}

-- a digit or a letter

digit_begins : (b : ℕ) (bs : List ℕ) → is_digit b ≡ true → begins_number (b ∷ bs) ≡ true
digit_begins b [] digit = digit
digit_begins b (c ∷ cs) digit = rw digit refl

letter_begins : (b : ℕ) (bs : List ℕ) → is_digit b ≡ false → is_letter b ≡ true → begins_number (b ∷ bs) ≡ false
letter_begins b [] digit letter = digit
letter_begins b (c ∷ cs) digit letter = rw (digit, differs is_letter 46 b refl letter) refl

word_token-is : (language : Language) (b : ℕ) (bs : List ℕ) → is_row_byte b ≡ true → word_token language (b ∷ bs) ≡ first_token language (b ∷ bs)
word_token-is language b bs part =
    ⊎_elim
    (λ (digit : is_digit b ≡ true). rw (digit, digit_begins b bs digit) refl)
    (λ (other : is_digit b ≡ false).
    let letter : is_letter b ≡ true = rw other at part in
    rw (other, letter_begins b bs other letter, letter) refl)
    (cases_Bool (is_digit b))

no_header : (b : ℕ) (bs : List ℕ) → is_row_byte b ≡ true → header_name_len (b ∷ bs) ≡ 0
no_header b [] part = refl
no_header b (c ∷ cs) part = rw (differs is_row_byte 60 b refl part, differs is_row_byte 34 b refl part) refl

part_token : (language : Language) (progress : Progress) (b : ℕ) (bs : List ℕ) → is_row_byte b ≡ true → token_by language progress (b ∷ bs) ≡ first_token language (b ∷ bs)
part_token language AtStart b bs part = refl
part_token language AfterHash b bs part = refl
part_token language AfterInclude b bs part = rw (no_header b bs part) refl
part_token language Elsewhere b bs part = refl

-- another byte

point_begins : (b : ℕ) (bs : List ℕ) → is_digit b ≡ false → begins_number (b ∷ bs) ≡ begins_with_point (b ∷ bs)
point_begins b [] other = other
point_begins b (c ∷ cs) other = rw other refl

mark_token-is : (language : Language) (b : ℕ) (bs : List ℕ) → is_digit b ≡ false → is_letter b ≡ false → mark_token language (b ∷ bs) ≡ first_token language (b ∷ bs)
mark_token-is language b bs digit letter =
    let wide = no_wide (λ x. not (is_letter x)) b refl refl refl (ap not letter) in
    rw (point_begins b bs digit, wide, letter) refl

mark_by-is : (language : Language) (progress : Progress) (b : ℕ) (bs : List ℕ) → is_digit b ≡ false → is_letter b ≡ false → mark_by language progress (b ∷ bs) ≡ token_by language progress (b ∷ bs)
mark_by-is language AtStart b bs digit letter = mark_token-is language b bs digit letter
mark_by-is language AfterHash b bs digit letter = mark_token-is language b bs digit letter
mark_by-is language AfterInclude b bs digit letter =
    let n = header_name_len (b ∷ bs) in
    ap (λ p. cond (nat_lt 0 n) (Lexeme HeaderName n) p) (mark_token-is language b bs digit letter)
mark_by-is language Elsewhere b bs digit letter = mark_token-is language b bs digit letter

behind_blanks : (language : Language) (progress : Progress) (b : ℕ) (bs : List ℕ) → is_blank b ≡ false → piece_behind_blanks language progress (b ∷ bs) ≡ piece_by language progress (b ∷ bs)
behind_blanks language progress b bs bare =
    ⊎_elim
    (λ (part : is_row_byte b ≡ true).
    let line = differs is_row_byte 10 b refl part in
    let slash = differs is_row_byte 47 b refl part in
    let star = (b == 47) && begins_with_byte 42 bs in
    let double = (b == 47) && begins_with_byte 47 bs in
    let token = token_by language progress (b ∷ bs) in
    let late = cond double (line_comment (b ∷ bs)) token in
    let to_token : cond (b == 10) NewLine (cond star (block_comment (b ∷ bs)) late) ≡ token =
    cond-false (b == 10) NewLine (cond star (block_comment (b ∷ bs)) late) line
    ∙ cond-false star (block_comment (b ∷ bs)) late (and_left (b == 47) (begins_with_byte 42 bs) slash)
    ∙ cond-false double (line_comment (b ∷ bs)) token (and_left (b == 47) (begins_with_byte 47 bs) slash) in
    rw (part, bare) (word_token-is language b bs part ∙ sym (part_token language progress b bs part) ∙ sym to_token))
    (λ (other : is_row_byte b ≡ false).
    let neither = or_parts (is_digit b) (is_letter b) other in
    let star = (b == 47) && begins_with_byte 42 bs in
    let slash = (b == 47) && begins_with_byte 47 bs in
    rw (other, bare)
    (ap (λ p. cond (b == 10) NewLine (cond star (block_comment (b ∷ bs)) (cond slash (line_comment (b ∷ bs)) p))) (mark_by-is language progress b bs neither.0 neither.1)))
    (cases_Bool (is_row_byte b))

pub behind_blanks-at : (language : Language) (progress : Progress) (text : List ℕ) (at : ℕ) → at < length text → is_blank (get_or text at 0) ≡ false
    → piece_behind_blanks language progress (drop at text) ≡ piece_by language progress (drop at text)
behind_blanks-at language progress text at lt bare =
    subst (λ xs. piece_behind_blanks language progress xs ≡ piece_by language progress xs) (sym (drop_more text at 0 lt)) (behind_blanks language progress (get_or text at 0) (drop (at + 1) text) bare)

-- a byte that begins no punctuator but itself

single_token : (language : Language) (b : ℕ) (bs : List ℕ) → is_single b ≡ true → mark_token language (b ∷ bs) ≡ Lexeme Punct 1
single_token language b bs single =
    rw (no_point b bs single, no_start language is_single b refl refl single, differs is_single 34 b refl single, differs is_single 39 b refl single, one_byte) refl
  where
    no_point : (b : ℕ) (bs : List ℕ) → is_single b ≡ true → begins_with_point (b ∷ bs) ≡ false
    no_point b [] single = refl
    no_point b (c ∷ cs) single = rw (differs is_single 46 b refl single) refl

    one_byte : punctuator_len (b ∷ bs) ≡ 1
    one_byte = punctuator_len-symbol (b ∷ bs) ∙ cond-true _ _ _ single

single_name : (b : ℕ) (bs : List ℕ) → is_single b ≡ true → header_name_len (b ∷ bs) ≡ 0
single_name b [] single = refl
single_name b (c ∷ cs) single = rw (differs is_single 60 b refl single, differs is_single 34 b refl single) refl

single_mark : (language : Language) (progress : Progress) (b : ℕ) (bs : List ℕ) → is_single b ≡ true → mark_by language progress (b ∷ bs) ≡ Lexeme Punct 1
single_mark language AtStart b bs single = single_token language b bs single
single_mark language AfterHash b bs single = single_token language b bs single
single_mark language AfterInclude b bs single = rw (single_name b bs single) (single_token language b bs single)
single_mark language Elsewhere b bs single = single_token language b bs single

pub single_mark-at : (language : Language) (progress : Progress) (text : List ℕ) (at : ℕ) → at < length text → is_single (get_or text at 0) ≡ true → mark_by language progress (drop at text) ≡ Lexeme Punct 1
single_mark-at language progress text at within single =
    subst (λ bs. mark_by language progress bs ≡ Lexeme Punct 1) (sym (drop_more text at 0 within)) (single_mark language progress (get_or text at 0) (drop (at + 1) text) single)
