-- Header names as they change a directory: how many components they drop of it, and what they put after.
use Rattle.std.specs.Prelude.{◌≡◌, ℕ, zero, suc, List, [], ◌++◌, Option, Some, option_and_then}
use Rattle.inc_lookup.specs.Paths.{components, without_last, with_components}
use Rattle.inc_lookup.specs.PathParts.{Shows}

-- a list without its last members, where it has so many
abbrev pub without_lasts : ℕ → List (List ℕ) → Option (List (List ℕ))
without_lasts zero parts = Some parts
without_lasts (suc n) parts = option_and_then (without_lasts n) (without_last parts)

-- after any parts, these components drop so many of them, put the names after that `rest` shows, and go on with what is left
pub record IsReducedTo (cs : List (List ℕ)) (climbs : ℕ) (rest : List ℕ) (left : List (List ℕ)) : Type 0 where
  pub names : List (List ℕ)
  pub shown : Shows 0 names rest
  pub same : (parts : List (List ℕ)) → with_components parts cs ≡ option_and_then (λ front. with_components (front ++ names) left) (without_lasts climbs parts)

-- the whole of a name
abbrev pub IsReduced : (name : List ℕ) → (climbs : ℕ) → (rest : List ℕ) → Type 0
IsReduced name climbs rest = IsReducedTo (components name) climbs rest []
