use Rattle.std.proofs.Common.{◌∙◌, rules}
use Rattle.inc_inputs.specs.Views.{notes_in}
use Rattle.inc_inputs.proofs.WordNotes.{strays_more}
use Rattle.inc_inputs.proofs.mark_notes.stray_marks.Goals as goal

pub loop-at-preserved : goal.loop-at-preserved
loop-at-preserved c = record {
  within = search rules;
  notes =
      strays_more c.args.project.now c.args.option.now c.args.marks.now c.loop-at.at c.loop-at.strays.line c.add.new.self.line c.index-marks-at.result c.path.result.now
      (notes_in c.loop-at.strays.notes) (notes_in c.add.new.self.notes) c.loop-at-test.true (search rules) c.path.ensures c.in_ok-add.ensures.notes c.in_ok-add.ensures.line
      ∙ c.loop-at.invariant.notes;
}
