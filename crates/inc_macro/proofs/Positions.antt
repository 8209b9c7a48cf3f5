-- The first place whose element passes a test.
use Rattle.std.proofs.Common.{◌≡◌, ℕ, suc, ◌+◌, ◌||◌, Bool, true, false, List, [], ◌∷◌, ◌++◌, Some, None, Option, length, is_some, position, bytes_eq, refl, sym, ap, ◌∙◌, arith, ⊎_elim}
use Rattle.std.specs.List.{list_any, position_from}
use Rattle.std.proofs.lemmas.Bool.{cases_Bool}
use Rattle.std.proofs.lemmas.Iterator.Adapters.{position_from-zero}
use Rattle.inc_macro.specs.Macros.{Variable, is_among, with_variable}

module _ {X : Type 0} (p : X → Bool) where
  from_last : (i : ℕ) (xs : List X) (x : X) → position_from p i xs ≡ None → p x ≡ true → position_from p i (xs ++ x ∷ []) ≡ Some (i + length xs)
  from_last i [] x none passes = rw passes (let same : i ≡ i + 0 = omega arith in ap (λ n. Some n) same)
  from_last i (y ∷ ys) x none passes =
      ⊎_elim (λ (is : p y ≡ true). let found : Some i ≡ None = rw is at none in cc)
      (λ (other : p y ≡ false).
      let rest : position_from p (i + 1) ys ≡ None = rw other at none in
      let same : i + 1 + length ys ≡ i + suc (length ys) = omega arith in
      rw other (from_last (i + 1) ys x rest passes ∙ ap (λ n. Some n) same))
      (cases_Bool (p y))

  -- where none of the first passes, the last does
  pub position-last : (xs : List X) (x : X) → position p xs ≡ None → p x ≡ true → position p (xs ++ x ∷ []) ≡ Some (length xs)
  position-last xs x none passes =
      let same : 0 + length xs ≡ length xs = omega arith in
      position_from-zero p (xs ++ x ∷ []) ∙ from_last 0 xs x (sym (position_from-zero p xs) ∙ none) passes ∙ ap (λ n. Some n) same

  is_some-from : (i : ℕ) (xs : List X) → is_some (position_from p i xs) ≡ list_any p xs
  is_some-from i [] = refl
  is_some-from i (y ∷ ys) =
      ⊎_elim (λ (is : p y ≡ true). rw is refl) (λ (other : p y ≡ false). rw other (is_some-from (i + 1) ys)) (cases_Bool (p y))

  pub is_some-position : (xs : List X) → is_some (position p xs) ≡ list_any p xs
  is_some-position xs = ap is_some (position_from-zero p xs) ∙ is_some-from 0 xs

-- names with that of the variable arguments as the last

pub position-variable : (name : List ℕ) (names : List (List ℕ)) (v : Option Variable) → position (bytes_eq name) names ≡ None → is_among name (with_variable [] v) ≡ true
    → position (bytes_eq name) (with_variable names v) ≡ Some (length names)
position-variable name names None none is = cc
position-variable name names (Some v) none is = position-last (bytes_eq name) names v.name none (or_none (bytes_eq name v.name) is)
  where
    or_none : (b : Bool) → (b || false) ≡ true → b ≡ true
    or_none true h = refl
    or_none false h = cc
