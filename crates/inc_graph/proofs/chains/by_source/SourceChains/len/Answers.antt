use Rattle.std.proofs.Common.{ℕ, List, length, sym, ap, ◌∙◌, ◌-◌}
use Rattle.inc_graph.specs.ChainLists.{ReachingList}
use Rattle.inc_graph.specs.Distances.{distance}
use Rattle.inc_graph.proofs.NearestWalks.{walk_long}
use Rattle.inc_graph.proofs.chains.by_source.SourceChains.len.Goals as goal

pub returns : goal.returns
returns c =
    let s = c.self.inside in
    c.from.ensures ∙ c.steps_from.ensures ∙ ap (λ (l : List ℕ). distance l s.source - 1) c.deref.ensures.value
    ∙ sym (walk_long s.graph.now s.steps.items (distance s.distances.items s.source - 1) s.source) ∙ ap (λ (v : ReachingList). length v.at.chain) c.self.view_is
