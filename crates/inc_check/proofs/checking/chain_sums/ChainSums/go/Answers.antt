use Rattle.std.proofs.Common.{refl}
use Rattle.inc_check.proofs.ChainSumLemmas.{gone_on, gone_off}
use Rattle.inc_check.proofs.checking.chain_sums.ChainSums.go.Goals as goal

pub returns-in_ok-goes-in-Some-clause-summed : goal.returns-in_ok-goes-in-Some-clause-summed
returns-in_ok-goes-in-Some-clause-summed c chains marks so_far =
    gone_on c.args.project.now c.args.graph.now chains c.args.count marks c.args.mark.now c.in-Some.edge c.args.self.now c.next_edge.new.self c.step.new.self c.in_ok-goes-in-Some.goes c.if-self.true
    c.in-Some.ensures.edge.1 c.requires.fitted c.in-Some.ensures.fitted c.in-Some.ensures.edge.0 c.in_ok-goes-in-Some.ensures.stepped so_far

pub returns-in-None-clause-summed : goal.returns-in-None-clause-summed
returns-in-None-clause-summed c chains marks so_far =
    gone_off c.args.project.now c.args.graph.now chains c.args.count marks c.args.mark.now c.args.self.now c.next_edge.new.self c.if-self.true (c.in-None.ensures.none refl) so_far
