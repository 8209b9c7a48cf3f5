use Rattle.std.proofs.Common.{◌++◌, ◌∙◌, List, ap, map, ℕ}
use Rattle.inc_inputs.specs.BuildNotes.{whole}
use Rattle.inc_inputs.specs.RuleNotes.{rule_notes, unfit_lines}
use Rattle.inc_inputs.specs.Views.{notes_in}
use Rattle.inc_inputs.proofs.NoteLemmas.{whole_some}
use Rattle.inc_rules.specs.Views.{seen_rule}
use Rattle.inc_inputs.proofs.rule_notes.rule_notes.Goals as goal

pub returns : goal.returns
returns c =
    let rules = map seen_rule c.args.rules.now in
    c.in_ok-put.ensures ∙ ap (λ (t : List ℕ). t ++ whole (notes_in c.in_ok-lines.lines)) c.new-notes.ensures.items ∙ ap whole c.in_ok-lines.ensures ∙ whole_some (unfit_lines c.as_bytes.result.now c.args.project.now rules)
    ∙ ap (λ (n : List ℕ). rule_notes n c.args.project.now rules) c.as_bytes.ensures.value
