use Rattle.std.proofs.Common.{subst, sym}
use Rattle.inc_answers.specs.RulesDocument.{judged_blocks}
use Rattle.inc_answers.proofs.RuleBlocks.{flat_added}
use Rattle.inc_rules.specs.Judging.{IsWithin}
use Rattle.inc_rules.specs.Views.{seen_judged}
use Rattle.inc_answers.proofs.rules_document.add_judged.Goals as goal

pub add_if_broken-requires : goal.add_if_broken-requires
add_if_broken-requires c =
    subst (λ j. IsWithin c.args.graph.now (seen_judged j)) (sym c.rule-item.is) (c.requires c.loop-rule.rule-index c.rule-item.result c.loop-rule-test.true)

pub loop-rule-preserved : goal.loop-rule-preserved
loop-rule-preserved c =
    flat_added (judged_blocks c.args.name.now c.args.project.now c.args.graph.now) seen_judged c.args.judged.now c.loop-rule.rule-index c.rule-item.result c.args.document.now c.loop-rule.document
    c.add_if_broken.new.document c.loop-rule-test.true c.rule-item.is c.in_ok-add_if_broken.ensures c.loop-rule.invariant
