-- How a set of files is kept.
use Rattle.std.specs.Prelude.{◌≡◌, ℕ, Bool, false, List, slice_index_or}
use Rattle.inc_graph.specs.Members.{is_member}

-- a flag for each file, true for exactly those of the list
abbrev pub AreFlags : (files : List ℕ) → (flags : List Bool) → Type 0
AreFlags files flags = (f : ℕ) → slice_index_or flags f false ≡ is_member f files
