-- Flags at places of a list.
use Rattle.std.specs.Prelude.{ℕ, Bool, false, List, get_or}

-- the flag at a place; those past the list are not set
abbrev pub flag_at : List Bool → ℕ → Bool
flag_at flags i = get_or flags i false
