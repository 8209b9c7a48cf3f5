use Rattle.std.proofs.Common.{refl}
use Rattle.inc_check.proofs.ChainSumLemmas.{begun}
use Rattle.inc_check.proofs.checking.chain_sums.ChainSums.begin.Goals as goal

pub returns-clause-begun : goal.returns-clause-begun
returns-clause-begun c layout chains so_far =
    begun layout c.args.graph.now chains c.args.count c.args.self.now _ c.requires.fitted c.in-Some.ensures.1 refl refl refl refl c.are_both-self.ensures so_far
