use Rattle.inc_graph.proofs.ListedChains.{from_within, next_is}
use Rattle.inc_graph.proofs.chains.by_last.next_ending.Goals as goal

pub place_before-requires : goal.place_before-requires
place_before-requires c = record {
  edge = rw c.requires.search.sized
      (from_within c.args.graph.now c.edges-edges.result.now c.loop-at.at c.index-edges-at.result c.edges-edges.ensures.sound c.edges-edges.ensures.edges c.loop-at-test.true c.index-edges-at.is);
}

pub returns-in-Some-clause-some : goal.returns-in-Some-clause-some
returns-in-Some-clause-some c =
    next_is c.args.graph.now c.args.search.now c.args.next c.loop-at.at c.in-Some.from c.edges-edges.result.now c.index-edges-at.result c.place_before.result c.edges-edges.ensures.edges
    c.loop-at-test.true c.index-edges-at.is c.loop-at.invariant.0 c.loop-at.invariant.1 c.place_before.ensures.chain c.place_before.ensures.within c.in-Some.is
