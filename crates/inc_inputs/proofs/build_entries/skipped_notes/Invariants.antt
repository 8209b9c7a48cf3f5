use Rattle.std.proofs.Common.{◌≡◌, map, drop}
use Rattle.inc_inputs.specs.BuildNotes.{none, with_lines}
use Rattle.inc_inputs.specs.BuildReports.{skipped_line}
use Rattle.inc_inputs.specs.Views.{notes_in}
use Rattle.inc_inputs.proofs.build_entries.skipped_notes.Given as goal

-- the notes so far become all with the rest
abbrev pub invariant-loop-at : goal.invariant-loop-at
invariant-loop-at l = with_lines (notes_in l.notes) (map (skipped_line l.name) (drop l.at l.counts.entries)) ≡ with_lines none (map (skipped_line l.name) l.counts.entries)
