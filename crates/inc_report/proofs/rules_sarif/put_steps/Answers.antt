use Rattle.std.proofs.Common.{rules}
use Rattle.inc_report.specs.RulesSarif.{step_item}
use Rattle.inc_report.proofs.SarifLemmas.{item_at, list_ended}
use Rattle.inc_report.proofs.rules_sarif.put_steps.Goals as goal

pub loop-place-preserved : goal.loop-place-preserved
loop-place-preserved c =
    item_at (step_item c.args.project.now c.args.graph.now) c.loop-place.text.items c.put_step.new.text.items _ c.loop-place.place c.index-chain-place.result c.args.chain.now c.loop-place-test.true
    c.index-chain-place.is c.in_ok-put_step.ensures c.loop-place.invariant

pub returns : goal.returns
returns c =
    list_ended (step_item c.args.project.now c.args.graph.now) c.args.text.now.items c.push.new.self.items c.loop-place.text.items c.push-2.new.self.items c.loop-place.place c.args.chain.now (search rules)
    (search rules) c.loop-place.invariant (search rules)
