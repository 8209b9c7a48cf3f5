use Rattle.std.proofs.Common.{◌≡◌, ◌++◌, filter, filter_map, length}
use Rattle.inc_directive.specs.Removal.{stays}
use Rattle.inc_directive.specs.Parts.{inclusions_in}
use Rattle.inc_lookup.specs.DirectiveLists.{is_listed}
use Rattle.inc_graph.specs.Entries.{entry_alone}
use Rattle.inc_graph.specs.IncludeGraph.{found_by}
use Rattle.inc_graph.specs.Nexts.{nexts_from}
use Rattle.inc_graph.proofs.PlaceLemmas.{IsReaching}
use Rattle.inc_graph.proofs.building.file_entries.entries_of.Given as goal

-- the include directives so far, and those that are left
abbrev pub invariant-loop-directive : goal.invariant-loop-directive
invariant-loop-directive l = record {
  entries : l.entries ++ filter_map (entry_alone l.setting.undefined l.lookup l.at) (filter (stays (is_listed l.setting.removed l.at.file)) l.left)
      ≡ filter_map (entry_alone l.setting.undefined l.lookup l.at) (filter (stays (is_listed l.setting.removed l.at.file)) (inclusions_in l.found));
  files : l.places.files ≡ l.initial.places.files;
  places : IsReaching l.initial.places.found l.places.found
      (filter_map (found_by l.lookup l.at) (filter (stays (is_listed l.setting.removed l.at.file)) l.left))
      (filter_map (found_by l.lookup l.at) (filter (stays (is_listed l.setting.removed l.at.file)) (inclusions_in l.found)));
  nexts : l.nexts.items ++ nexts_from l.lookup l.at.file (length l.entries) (filter (stays (is_listed l.setting.removed l.at.file)) l.left)
      ≡ nexts_from l.lookup l.at.file 0 (filter (stays (is_listed l.setting.removed l.at.file)) (inclusions_in l.found));
}

abbrev pub decreases-loop-directive : goal.decreases-loop-directive
decreases-loop-directive l = length l.left
