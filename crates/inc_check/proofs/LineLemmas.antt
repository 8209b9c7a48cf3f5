-- The first line of what is left of a text.
use Rattle.std.proofs.Common.{◌≡◌, ℕ, suc, ◌+◌, ◌<◌, false, List, [], ◌∷◌, ◌++◌, Some, None, length, take, drop, get_or, refl, sym, ap, ◌∙◌, arith}
use Rattle.std.specs.Prelude.{◌==◌, position, is_some}
use Rattle.std.proofs.lemmas.Bool.{eqb-true}
use Rattle.std.proofs.lemmas.List.{length-take-le, get_or-take, append-nil, append_assoc}
use Rattle.std.proofs.lemmas.List.Quantifiers.{position-Some}
use Rattle.std.proofs.Math.Seq.{split_at}
use Rattle.inc_lookup.proofs.ListingLemmas.{is_some-position}
use Rattle.inc_check.specs.Texts.{line_feeds, lines_text, line_text}
use Rattle.inc_check.proofs.Formats.{feeds_cons, count_none, lines_text-append}

none_at : (xs : List ℕ) → ((k : ℕ) → k < length xs → (get_or xs k 0 == 10) ≡ false) → line_feeds xs ≡ 0
none_at [] h = refl
none_at (x ∷ xs) h =
    let here : line_feeds (x ∷ xs) ≡ 0 + line_feeds xs = feeds_cons x xs ∙ (rw (h 0 (omega arith)) refl) in
    let rest = none_at xs (λ k low. h (suc k) (omega arith)) in omega arith

-- up to its LF
pub first_line : (rest : List ℕ) (n : ℕ) → position (λ b. b == 10) rest ≡ Some n → (rest ≡ take n rest ++ 10 ∷ drop (n + 1) rest) × (line_feeds (take n rest) ≡ 0) × (n < length rest)
first_line rest n is =
    let at = position-Some (λ b. b == 10) rest n 0 is in
    let one : suc n ≡ n + 1 = omega arith in
    let size = length-take-le n rest (omega arith) in (
      split_at rest n 0 at.0 ∙ ap (λ b. take n rest ++ b ∷ drop (suc n) rest) (eqb-true (get_or rest n 0) 10 at.1) ∙ ap (λ m. take n rest ++ 10 ∷ drop m rest) one,
      none_at (take n rest) (λ k low. before at.2 k (omega arith)),
      at.0,
    )
  where
    before : ((k : ℕ) → k < n → (get_or rest k 0 == 10) ≡ false) → (k : ℕ) → k < n → (get_or (take n rest) k 0 == 10) ≡ false
    before none k low = rw (get_or-take n rest k 0 low) (none k low)

-- where there is no LF
pub no_line : (rest : List ℕ) → position (λ b. b == 10) rest ≡ None → line_feeds rest ≡ 0
no_line rest is = count_none rest (sym (is_some-position (λ b. b == 10) rest) ∙ ap is_some is)

-- one line more
pub read_more : (text : List ℕ) (done : List (List ℕ)) (rest : List ℕ) (n : ℕ) → text ≡ lines_text done ++ rest → rest ≡ take n rest ++ 10 ∷ drop (n + 1) rest → text ≡ lines_text (done ++ take n rest ∷ []) ++ drop (n + 1) rest
read_more text done rest n is cut =
    is ∙ ap (λ t. lines_text done ++ t) (cut ∙ sym (append_assoc (take n rest) (10 ∷ []) (drop (n + 1) rest)))
    ∙ sym (append_assoc (lines_text done) (line_text (take n rest)) (drop (n + 1) rest))
    ∙ ap (λ t. t ++ drop (n + 1) rest) (ap (λ t. lines_text done ++ t) (sym (append-nil (line_text (take n rest)))) ∙ sym (lines_text-append done (take n rest ∷ [])))
