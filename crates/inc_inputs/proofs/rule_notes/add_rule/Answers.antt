use Rattle.std.proofs.Common.{◌∙◌, ap, subst, sym, OnOk, ◌≡◌}
use Rattle.inc_inputs.specs.BuildNotes.{Kept, with_lines}
use Rattle.inc_inputs.specs.RuleNotes.{side_lines}
use Rattle.inc_inputs.specs.Views.{notes_in}
use Rattle.inc_inputs.proofs.NoteLemmas.{with_lines-append}
use Rattle.inc_inputs.proofs.rule_notes.add_rule.Goals as goal

pub returns : goal.returns
returns c =
    let layout = c.args.project.now in
    let left = side_lines c.args.name.now layout c.args.rule.now.line c.args.rule.now.left.now in
    let right = side_lines c.args.name.now layout c.args.rule.now.line c.args.rule.now.right.now in
    subst (λ (k : Kept). OnOk c.add_side-2.result (notes_in c.add_side-2.new.notes ≡ k))
    (ap (λ (k : Kept). with_lines k right) c.in_ok-add_side.ensures ∙ sym (with_lines-append (notes_in c.args.notes.now) left right)) c.add_side-2.ensures
