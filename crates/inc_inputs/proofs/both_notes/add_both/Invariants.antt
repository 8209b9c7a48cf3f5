use Rattle.std.proofs.Common.{◌≡◌, false, map}
use Rattle.std.specs.Prelude.{◌&&◌, filter, slice_index_or}
use Rattle.std.specs.List.{range_with_len}
use Rattle.inc_inputs.specs.BothNotes.{both_line}
use Rattle.inc_inputs.specs.BuildNotes.{with_lines}
use Rattle.inc_inputs.specs.Views.{notes_in}
use Rattle.inc_inputs.proofs.both_notes.add_both.Given as goal

-- the lines of the files so far
abbrev pub invariant-loop-place : goal.invariant-loop-place
invariant-loop-place l =
    notes_in l.notes ≡ with_lines (notes_in l.initial.notes) (map (both_line l.project) (filter (λ f. slice_index_or l.from f false && slice_index_or l.to f false) (range_with_len 0 l.place)))
