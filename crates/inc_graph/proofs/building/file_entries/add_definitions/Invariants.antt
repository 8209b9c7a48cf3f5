use Rattle.std.proofs.Common.{◌≡◌, ◌++◌, map, take}
use Rattle.inc_directive.specs.Parts.{lines_of_parts}
use Rattle.inc_graph.specs.FileEntries.{definition_entry}
use Rattle.inc_graph.specs.IncludeGraph.{definitions_in}
use Rattle.inc_graph.proofs.building.file_entries.add_definitions.Given as goal

-- the definitions of the parts so far
abbrev pub invariant-loop-i : goal.invariant-loop-i
invariant-loop-i l = l.entries ≡ l.initial.entries ++ map definition_entry (definitions_in l.setting.undefined (lines_of_parts (take l.i l.found)))
