use Rattle.std.proofs.Common.{ap, ◌∙◌}
use Rattle.inc_graph.specs.Distances.{distance}
use Rattle.inc_graph.proofs.NearestWalks.{next_source}
use Rattle.inc_graph.proofs.chains.by_source.next_reaching.Goals as goal

pub returns-then-distances-index-ne0-clause-some : goal.returns-then-distances-index-ne0-clause-some
returns-then-distances-index-ne0-clause-some c =
    next_source c.args.graph.now c.args.distances.now c.sources-sources.result.now c.args.next c.loop-at.at c.index-sources-at.result c.sources-sources.ensures.sources c.loop-at-test.true c.index-sources-at.is
    c.loop-at.invariant.0 c.loop-at.invariant.1 (λ none. c.if-distances-index-ne0.true (ap (distance c.args.distances.now) c.index.ensures ∙ none))
