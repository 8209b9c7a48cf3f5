-- The order of paths, as lists of numbers: shorter ones first, and those of one length by their first difference.
use Rattle.std.specs.Prelude.{◌≡◌, ℕ, ◌<◌, List, [], ◌∷◌, length, ◌⊎◌}

-- of two lists the one that is less where they first differ
abbrev pub IsLess : List ℕ → List ℕ → Type 0
IsLess [] js = ⊥
IsLess (i ∷ is) [] = ⊥
IsLess (i ∷ is) (j ∷ js) = (i < j) ⊎ ((i ≡ j) × IsLess is js)

-- shorter, or as long and less
pub data Precedes (is js : List ℕ) : Type 0 where
  shorter : length is < length js → Precedes is js
  less : length is ≡ length js → IsLess is js → Precedes is js

pub data IsAtMost (is js : List ℕ) : Type 0 where
  before : Precedes is js → IsAtMost is js
  same : is ≡ js → IsAtMost is js
