-- How definitions see the paths of a list.
use Rattle.std.specs.Prelude.{ℕ, List}
use Rattle.inc_lookup.specs.declared.path_lists.Kept.{Kept}
use Rattle.inc_lookup.specs.declared.path_lists.Kept.TheVariants.{Rising, Table}

abbrev pub paths_of : Kept → List (List ℕ)
paths_of (Rising paths) = paths
paths_of (Table table) = table.keys
