use Rattle.std.proofs.Common.{◌∙◌, rules}
use Rattle.inc_inputs.specs.DirNotes.{dir_line}
use Rattle.inc_inputs.specs.Views.{notes_in}
use Rattle.inc_inputs.proofs.WordNotes.{lines_more}
use Rattle.inc_inputs.proofs.dir_notes.add_words.Goals as goal

pub loop-at-preserved : goal.loop-at-preserved
loop-at-preserved c = record {
  within = search rules;
  notes =
      lines_more (dir_line c.args.project.now.paths c.args.option.now) (λ w. w.now) c.args.words.now c.loop-at.at _ c.as_bytes.result.now
      (notes_in c.loop-at.notes) (notes_in c.add_dir.new.notes) c.loop-at-test.true c.as_bytes.ensures.value c.in_ok-add_dir.ensures
      ∙ c.loop-at.invariant.notes;
}
