-- The search along the include path from one of its directories on.
use Rattle.std.specs.Prelude.{ℕ, List, Option, drop, map}
use Rattle.inc_lookup.specs.Projects.{found_among, path_from, spot_of}
use Rattle.inc_lookup.specs.declared.projects.Found.{Found}

-- the first file with this name in the directories from a place on
abbrev pub found_in : (paths dirs : List (List ℕ)) → (first : ℕ) → List ℕ → Option Found
found_in paths dirs first name = found_among paths (map (spot_of name) (path_from first (drop first dirs)))
