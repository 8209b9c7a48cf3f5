use Rattle.std.proofs.Common.{◌∙◌, ◌++◌, ℕ, List, ap, codes}
use Rattle.inc_graph.specs.MarkedEdges.{marks_of_costs}
use Rattle.inc_inputs.specs.BuildNotes.{whole}
use Rattle.inc_inputs.specs.MarkNotes.{stray_lines}
use Rattle.inc_inputs.proofs.NoteLemmas.{whole_some}
use Rattle.inc_inputs.proofs.mark_notes.put_costs.Goals as goal

pub returns : goal.returns
returns c =
    c.in_ok-put.ensures
    ∙ ap (λ (t : List ℕ). c.args.notes.now.items ++ t)
    (ap whole c.in_ok-strays.ensures ∙ whole_some (stray_lines c.args.project.now (codes "--costs") 1 (marks_of_costs c.args.costs.now)))
