use Rattle.std.proofs.Common.{◌∙◌, ap, codes, rules}
use Rattle.inc_graph.specs.Marks.{Cost, Mark}
use Rattle.inc_inputs.specs.Views.{notes_in}
use Rattle.inc_inputs.proofs.WordNotes.{marked_more}
use Rattle.inc_inputs.proofs.mark_notes.stray_costs.Goals as goal

pub loop-at-preserved : goal.loop-at-preserved
loop-at-preserved c = record {
  within = search rules;
  notes =
      marked_more (λ (k : Cost). k.mark) c.args.project.now (codes "--costs") c.args.costs.now c.loop-at.at c.loop-at.strays.line c.add.new.self.line c.index-costs-at.result c.path.result.now
      (notes_in c.loop-at.strays.notes) (notes_in c.add.new.self.notes) c.loop-at-test.true (search rules) (c.path.ensures ∙ ap (λ (m : Mark). m.path) c.mark.ensures)
      c.in_ok-add.ensures.notes c.in_ok-add.ensures.line
      ∙ c.loop-at.invariant.notes;
}
