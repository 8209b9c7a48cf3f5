use Rattle.std.proofs.Common.{subst, sym}
use Rattle.std.proofs.lemmas.List.{take_all}
use Rattle.inc_report.specs.RulesText.{judged_text}
use Rattle.inc_answers.proofs.SendingLemmas.{sends_then}
use Rattle.inc_answers.proofs.WhyLemmas.{flat_map-more}
use Rattle.inc_rules.specs.Judging.{IsWithin}
use Rattle.inc_rules.specs.Views.{seen_judged}
use Rattle.inc_report.proofs.rules.send_judged.Goals as goal

pub send_if_broken-requires-clause-within : goal.send_if_broken-requires-clause-within
send_if_broken-requires-clause-within g c =
    subst (λ j. IsWithin c.args.graph.now (seen_judged j)) (sym c.rule-item.is) (c.requires.within c.loop-rule.rule-index c.rule-item.result c.loop-rule-test.true)

pub loop-rule-preserved : goal.loop-rule-preserved
loop-rule-preserved g c =
    let more = flat_map-more (λ j. judged_text c.args.project.now c.args.graph.now (seen_judged j)) c.args.judged.now c.loop-rule.rule-index _ c.loop-rule-test.true c.rule-item.is in
    rw more (sends_then _ _ _ _ _ c.loop-rule.invariant c.send_if_broken.ensures)

pub returns : goal.returns
returns g c = rw (take_all c.loop-rule.rule-index c.args.judged.now c.loop-rule-test.false) at c.loop-rule.invariant
