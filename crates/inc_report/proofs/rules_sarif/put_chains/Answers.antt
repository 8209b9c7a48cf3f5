use Rattle.std.proofs.Common.{◌++◌, codes}
use Rattle.inc_report.specs.SarifViews.{seen_listed}
use Rattle.inc_report.specs.RulesSarif.{chain_result}
use Rattle.inc_answers.proofs.NoteLemmas.{joined}
use Rattle.inc_answers.proofs.WhyLemmas.{flat_map-more}
use Rattle.inc_report.proofs.rules_sarif.put_chains.Goals as goal

pub loop-chain-preserved : goal.loop-chain-preserved
loop-chain-preserved c =
    let more = flat_map-more (λ x. codes "," ++ chain_result c.args.project.now c.args.graph.now (seen_listed c.args.listed.now) x.items) c.args.chains.now c.loop-chain.chain-index c.chain-item.result c.loop-chain-test.true c.chain-item.is in
    let put = rw c.deref.ensures.value at c.in_ok-put_chain.ensures in
    let one = codes "," ++ chain_result c.args.project.now c.args.graph.now (seen_listed c.args.listed.now) c.chain-item.result.items in
    rw more (joined c.args.text.now.items _ one c.loop-chain.text.items c.put_chain.new.text.items c.loop-chain.invariant put)
