-- What is kept of each file of a project while rules are judged.
use Rattle.std.specs.Prelude.{◌≡◌, ℕ, ◌<◌, ◌≤◌, Bool, false, List, length, nat_lt, slice_index, slice_index_or}
use Rattle.inc_lookup.specs.Projects.{Layout}
use Rattle.inc_graph.specs.IncludeGraph.{Graph}
use Rattle.inc_rules.specs.Judging.{is_right_file, opens_before}
use Rattle.inc_rules.specs.Rules.{Rule}

-- a directive of a file that leads to no file or to several is before a line exactly where the file's number is less than that
pub record AreOpens (g : Graph) (opens : List ℕ) : Type 0 where
  pub long : length opens ≡ g.files
  pub each : (file line : ℕ) → file < g.files → line ≤ 4_294_967_295 → nat_lt (slice_index opens file) line ≡ opens_before g file line

-- for each of so many files whether it is one of the right side
pub record AreRight (files : ℕ) (layout : Layout) (r : Rule) (right : List Bool) : Type 0 where
  pub long : length right ≡ files
  pub each : (file : ℕ) → file < files → slice_index_or right file false ≡ is_right_file layout r file
