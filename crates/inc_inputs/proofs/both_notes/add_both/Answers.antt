use Rattle.std.proofs.Common.{false}
use Rattle.std.specs.Prelude.{◌&&◌, slice_index_or}
use Rattle.inc_inputs.specs.BothNotes.{both_line}
use Rattle.inc_inputs.specs.Views.{notes_in}
use Rattle.inc_inputs.proofs.BothLemmas.{passing_more}
use Rattle.inc_inputs.proofs.both_notes.add_both.Goals as goal

pub loop-place-preserved : goal.loop-place-preserved
loop-place-preserved c =
    passing_more (both_line c.args.project.now) (λ f. slice_index_or c.args.from.now f false && slice_index_or c.args.to.now f false) (notes_in c.args.notes.now)
    (notes_in c.loop-place.notes) (notes_in c.add_file.new.notes) c.loop-place.place c.loop-place.invariant c.in_ok-add_file.ensures
