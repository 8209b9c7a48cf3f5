use Rattle.std.proofs.Common.{ℕ, List, subst}
use Rattle.inc_graph.specs.Distances.{AreStepsFrom}
use Rattle.inc_graph.proofs.NearestWalks.{all_reaching}
use Rattle.inc_graph.proofs.chains.by_source.SourceChains.new.Goals as goal

pub returns-clause-all : goal.returns-clause-all
returns-clause-all c =
    let steps = subst (λ (l : List ℕ). AreStepsFrom c.args.graph.now l 0 c.in_ok-steps.steps.items) c.deref.ensures.value c.in_ok-steps.ensures.steps in
    all_reaching c.args.graph.now c.in_ok-distances.distances.items c.in_ok-distances.ensures.distances c.in_ok-steps.steps.items steps c.args.graph.now.sources
