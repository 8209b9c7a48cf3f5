use Rattle.std.proofs.Common.{◌≡◌, false, is_some, rules, true}
use Rattle.inc_inputs.specs.RuleNotes.{rule_lines}
use Rattle.inc_inputs.proofs.RuleNoteLemmas.{first_kept, none_kept, none_more}
use Rattle.inc_rules.specs.Views.{seen_rule}
use Rattle.inc_inputs.proofs.rule_notes.first_unfit.Goals as goal

pub returns-then-is_some : goal.returns-then-is_some
returns-then-is_some c =
    let some : is_some c.in_ok-line.line ≡ true = search rules in
    first_kept (rule_lines c.args.name.now c.args.project.now) seen_rule (λ l. l.items) c.in_ok-line.line c.args.rules.now c.loop-rule.rule-index c.rule-item.result some c.loop-rule-test.true c.rule-item.is
    c.loop-rule.invariant c.in_ok-line.ensures

pub loop-rule-preserved : goal.loop-rule-preserved
loop-rule-preserved c =
    let none : is_some c.in_ok-line.line ≡ false = search rules in
    none_more (rule_lines c.args.name.now c.args.project.now) seen_rule c.args.rules.now c.loop-rule.rule-index c.rule-item.result c.loop-rule-test.true c.rule-item.is
    (none_kept (λ l. l.items) c.in_ok-line.line _ none c.in_ok-line.ensures) c.loop-rule.invariant
