-- Rows whose parts are mostly bytes.
use Rattle.std.proofs.Common.{◌≡◌, ℕ, suc, ◌+◌, ◌<◌, ◌≤◌, true, false, List, [], ◌∷◌, length, drop, get_or, refl, sym, ap, ◌∙◌, subst, arith, ⊎_elim, length-drop}
use Rattle.std.specs.List.{prefix_len}
use Rattle.std.proofs.lemmas.Bool.{cases_Bool, or_parts}
use Rattle.std.proofs.lemmas.List.{drop_more, drop-drop, get_or-drop}
use Rattle.std.proofs.lemmas.List.Sums.{prefix_len-le-length, prefix_len_stops}
use Rattle.inc_token.specs.Spellings.{is_digit, is_letter, nonletter_len, identifier_part}
use Rattle.inc_token.specs.Scanning.{is_row_byte, row_len}
use Rattle.inc_token.proofs.Rows.{row_more, part_fits}
use Rattle.inc_token.proofs.Parts.{identifier_parts}
use Rattle.inc_text.specs.declared.languages.Language.{Language}

one_byte : (language : Language) (b : ℕ) (bs : List ℕ) → is_row_byte b ≡ true → identifier_part language (b ∷ bs) ≡ 1
one_byte language b bs part =
    ⊎_elim (λ (digit : is_digit b ≡ true). rw digit refl)
    (λ (other : is_digit b ≡ false). let letter : is_letter b ≡ true = rw other at part in rw (other, letter) refl)
    (cases_Bool (is_digit b))

other_byte : (language : Language) (b : ℕ) (bs : List ℕ) → is_row_byte b ≡ false → identifier_part language (b ∷ bs) ≡ nonletter_len language (b ∷ bs)
other_byte language b bs other = let neither = or_parts (is_digit b) (is_letter b) other in rw (neither.0, neither.1) refl

-- a row goes on after the bytes at its front
plain_row : (language : Language) (text : List ℕ) → row_len (identifier_part language) 0 text ≡ prefix_len is_row_byte text + row_len (identifier_part language) 0 (drop (prefix_len is_row_byte text) text)
plain_row language [] = refl
plain_row language (b ∷ bs) =
    let n = prefix_len is_row_byte bs in
    let next : 1 + n ≡ suc n = omega arith in
    ⊎_elim
    (λ (yes : is_row_byte b ≡ true).
    let rest = plain_row language bs in
    rw (yes, one_byte language b bs yes, next) (omega arith))
    (λ (no : is_row_byte b ≡ false). rw no (omega arith))
    (cases_Bool (is_row_byte b))

-- the same at a place
pub plain_row-at : (language : Language) (text : List ℕ) (at end : ℕ) → end ≡ at + prefix_len is_row_byte (drop at text)
    → end + row_len (identifier_part language) 0 (drop end text) ≡ at + row_len (identifier_part language) 0 (drop at text)
plain_row-at language text at end is =
    let n = prefix_len is_row_byte (drop at text) in
    let rest : row_len (identifier_part language) 0 (drop n (drop at text)) ≡ row_len (identifier_part language) 0 (drop end text) =
    ap (row_len (identifier_part language) 0) (drop-drop n at text ∙ ap (λ k. drop k text) (sym is)) in
    omega (arith, is, plain_row language (drop at text), rest)

pub plain_end : (text : List ℕ) (at end : ℕ) → end ≡ at + prefix_len is_row_byte (drop at text) → at ≤ length text → end ≤ length text
plain_end text at end is le = omega (arith, prefix_len-le-length is_row_byte (drop at text), length-drop at text)

pub plain_stops : (text : List ℕ) (at end : ℕ) → end ≡ at + prefix_len is_row_byte (drop at text) → end < length text → is_row_byte (get_or text end 0) ≡ false
plain_stops text at end is within =
    let n = prefix_len is_row_byte (drop at text) in
    let less : n < length (drop at text) = omega (arith, is, within, length-drop at text) in
    ap (λ k. is_row_byte (get_or text k 0)) is ∙ ap is_row_byte (sym (get_or-drop at text n 0)) ∙ prefix_len_stops is_row_byte (drop at text) 0 less

-- a non-digit that is no letter in a row
name_part : (language : Language) (text : List ℕ) (end : ℕ) → end < length text → is_row_byte (get_or text end 0) ≡ false → identifier_part language (drop end text) ≡ nonletter_len language (drop end text)
name_part language text end lt other =
    subst (λ xs. identifier_part language xs ≡ nonletter_len language xs) (sym (drop_more text end 0 lt)) (other_byte language (get_or text end 0) (drop (end + 1) text) other)

pub name_fits : (language : Language) (text : List ℕ) (end n : ℕ) → end < length text → is_row_byte (get_or text end 0) ≡ false → n ≡ nonletter_len language (drop end text) → end + n ≤ length text
name_fits language text end n lt other is = part_fits (identifier_part language) (identifier_parts language) text end n lt (is ∙ sym (name_part language text end lt other))

pub name_more : (language : Language) (text : List ℕ) (end n : ℕ) → end < length text → is_row_byte (get_or text end 0) ≡ false → n ≡ nonletter_len language (drop end text) → 0 < n
    → row_len (identifier_part language) 0 (drop end text) ≡ n + row_len (identifier_part language) 0 (drop (end + n) text)
name_more language text end n lt other is some = row_more (identifier_part language) (identifier_parts language) text end n lt (is ∙ sym (name_part language text end lt other)) some
