use Rattle.inc_inputs.specs.RuleNotes.{rule_lines}
use Rattle.inc_inputs.specs.Views.{notes_in}
use Rattle.inc_inputs.proofs.RuleNoteLemmas.{lines_more}
use Rattle.inc_rules.specs.Views.{seen_rule}
use Rattle.inc_inputs.proofs.rule_notes.all_lines.Goals as goal

pub loop-rule-preserved : goal.loop-rule-preserved
loop-rule-preserved c =
    lines_more (rule_lines c.args.name.now c.args.project.now) seen_rule c.args.rules.now c.loop-rule.rule-index c.rule-item.result (notes_in c.loop-rule.notes) (notes_in c.add_rule.new.notes)
    c.loop-rule-test.true c.rule-item.is c.in_ok-add_rule.ensures c.loop-rule.invariant
