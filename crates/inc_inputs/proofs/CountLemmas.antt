-- One more entry with an option.
use Rattle.std.proofs.Common.{◌≡◌, ℕ, suc, List, [], ◌∷◌, inl, inr, refl, ap, bytes_eq}
use Rattle.std.proofs.lemmas.Bool.{cases_Bool}
use Rattle.std.specs.Map.{lookup}
use Rattle.std.specs.Prelude.{unwrap_or}
use Rattle.indexmap.specs.IndexMap.{insert_entry}
use Rattle.inc_inputs.specs.BuildProjects.{with_count}

pub one_counted : (es : List (List ℕ × ℕ)) (word : List ℕ) → insert_entry bytes_eq es word (suc (unwrap_or (lookup (bytes_eq word) es) 0)) ≡ with_count es word
one_counted [] word = refl
one_counted ((w, n) ∷ es) word =
    elim (cases_Bool (bytes_eq word w)) [
      | inl same ↦ rw same refl
      | inr other ↦ rw other (ap (λ (r : List (List ℕ × ℕ)). (w, n) ∷ r) (one_counted es word))
    ]
