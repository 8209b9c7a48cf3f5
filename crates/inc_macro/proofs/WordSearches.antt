-- A search for a byte tells whether a test holds of some byte of a text, and of which one first.
use Rattle.std.proofs.Common.{◌≡◌, ℕ, Bool, List, Option, Some, None, is_some, length, refl, sym, ap, ◌∙◌, arith}
use Rattle.std.specs.Prelude.{position}
use Rattle.std.specs.List.{list_any, position_or_len}
use Rattle.std.proofs.lemmas.Bool.{false_from_ne_true, le-ltb, lt-ltb}
use Rattle.std.proofs.lemmas.List.{get_or_default}
use Rattle.std.proofs.lemmas.List.Folds.{list_any_none, list_any_at}
use Rattle.std.proofs.lemmas.List.Sums.{position_or_len_is}
use Rattle.memchr.specs.Find.{IsFirstByte}

module _ (test : ℕ → Bool) (text : List ℕ) where
  pub list_any-search : (found : Option ℕ) → IsFirstByte test text found → is_some found ≡ list_any test text
  list_any-search None none =
      sym (list_any_none test text (λ k d high. false_from_ne_true _ (λ is. none k (omega arith) high (ap test (get_or_default text k 0 d high) ∙ is))))
  list_any-search (Some k) found = sym (list_any_at test text k 0 found.0.high found.1)

  pub position-search : (found : Option ℕ) → IsFirstByte test text found → found ≡ position test text
  position-search None none =
      let end : position_or_len test text ≡ length text =
      position_or_len_is test text (length text) 0 (omega arith) (λ k less. false_from_ne_true _ (none k (omega arith) less)) (λ less. absurd (omega arith)) in
      let past = le-ltb (length text) (length text) (omega arith) in
      rw end (rw past refl)
  position-search (Some k) found =
      let here : position_or_len test text ≡ k =
      position_or_len_is test text k 0 (omega (arith, found.0.high)) (λ j less. false_from_ne_true _ (found.0.before j (omega arith) less)) (λ less. found.1) in
      let within = lt-ltb k (length text) found.0.high in
      rw here (rw within refl)
