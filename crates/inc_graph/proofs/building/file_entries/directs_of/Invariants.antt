use Rattle.std.proofs.Common.{◌≡◌, ◌++◌, filter, length}
use Rattle.inc_directive.specs.Removal.{stays}
use Rattle.inc_directive.specs.Parts.{inclusions_in}
use Rattle.inc_lookup.specs.DirectiveLists.{is_listed}
use Rattle.inc_graph.specs.Nexts.{directs_from}
use Rattle.inc_graph.proofs.building.file_entries.directs_of.Given as goal

-- those so far, and those that are left
abbrev pub invariant-loop-directive : goal.invariant-loop-directive
invariant-loop-directive l =
    l.directs ++ directs_from l.index (filter (stays (is_listed l.setting.removed l.file)) l.left)
    ≡ directs_from 0 (filter (stays (is_listed l.setting.removed l.file)) (inclusions_in l.found))

abbrev pub decreases-loop-directive : goal.decreases-loop-directive
decreases-loop-directive l = length l.left
