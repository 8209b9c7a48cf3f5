-- Whether a pattern's rest fits, for each rest of a text.
use Rattle.std.specs.Prelude.{◌≡◌, ℕ, ◌+◌, ◌≤◌, Bool, false, List, length, drop, get_or}

-- a value for each rest of the text, from the whole text to the empty one
pub record IsRow (rest : List ℕ → Bool) (text : List ℕ) (row : List Bool) : Type 0 where
  pub sized : length row ≡ length text + 1
  pub values : (j : ℕ) → j ≤ length text → get_or row j false ≡ rest (drop j text)
