use Rattle.std.proofs.Common.{◌∙◌, ◌++◌, ℕ, List, ap}
use Rattle.inc_inputs.specs.BuildNotes.{whole}
use Rattle.inc_inputs.specs.MarkNotes.{stray_lines}
use Rattle.inc_inputs.proofs.NoteLemmas.{whole_some}
use Rattle.inc_inputs.proofs.mark_notes.put_marks.Goals as goal

pub returns : goal.returns
returns c =
    c.in_ok-put.ensures
    ∙ ap (λ (t : List ℕ). c.args.notes.now.items ++ t)
    (ap whole c.in_ok-strays.ensures ∙ whole_some (stray_lines c.args.project.now c.args.option.now c.args.first c.args.marks.now))
