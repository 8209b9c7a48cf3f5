-- Elements of lists by their places: one more at the end, and what is left from a place on.
use Rattle.std.proofs.Common.{◌≡◌, ℕ, ◌+◌, ◌<◌, List, [], ◌∷◌, ◌++◌, Some, length, get_or, drop, zero, suc, inl, inr, refl, sym, ap, ◌∙◌, arith}
use Rattle.std.specs.Prelude.{slice_get, ◌⊎◌}
use Rattle.std.proofs.lemmas.List.{drop_more}
use Rattle.std.proofs.lemmas.Option.{none-some, same_Some}

pub push_at : {X : Type 0} (xs : List X) (y : X) (k : ℕ) (x : X) → slice_get (xs ++ y ∷ []) k ≡ Some x
    → ((k < length xs) × (slice_get xs k ≡ Some x)) ⊎ ((k ≡ length xs) × (y ≡ x))
push_at [] y zero x e = inr (refl, same_Some y x e)
push_at [] y (suc k) x e = absurd (none-some x e)
push_at (z ∷ xs) y zero x e = inl (omega arith, e)
push_at (z ∷ xs) y (suc k) x e =
    elim (push_at xs y k x e) [
      | inl p ↦ inl (omega arith, p.1)
      | inr p ↦ inr (omega arith, p.1)
    ]

pub push_keeps : {X : Type 0} (xs : List X) (y : X) (k : ℕ) (x : X) → slice_get xs k ≡ Some x → slice_get (xs ++ y ∷ []) k ≡ Some x
push_keeps [] y k x e = absurd (none-some x e)
push_keeps (z ∷ xs) y zero x e = e
push_keeps (z ∷ xs) y (suc k) x e = push_keeps xs y k x e

pub push_last : {X : Type 0} (xs : List X) (y : X) → slice_get (xs ++ y ∷ []) (length xs) ≡ Some y
push_last [] y = refl
push_last (z ∷ xs) y = push_last xs y

-- an element that is read, before those that are left
pub drop_read : {X : Type 0} (xs : List X) (i : ℕ) (x : X) → i < length xs → x ≡ get_or xs i x → drop i xs ≡ x ∷ drop (i + 1) xs
drop_read xs i x within is = drop_more xs i x within ∙ ap (λ y. y ∷ drop (i + 1) xs) (sym is)
