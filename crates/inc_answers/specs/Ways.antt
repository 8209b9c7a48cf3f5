-- The files on the way to a node, as they are held.
use Rattle.std.specs.Prelude.{ℕ, List}

-- how many there is room for, and those that there are
pub record Held : Type 0 where
  pub room : ℕ
  pub files : List ℕ
