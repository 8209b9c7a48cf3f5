use Rattle.std.proofs.Common.{List, length, ap, ◌∙◌}
use Rattle.inc_graph.specs.declared.graphs.Edge as declared
use Rattle.inc_graph.proofs.NumberedEdges.{length-numbered_from}
use Rattle.inc_cut.proofs.searches.scaled_dinic.PhaseSearch.begin.Goals as goal

pub reach_by_levels-requires : goal.reach_by_levels-requires
reach_by_levels-requires c =
    ap (λ (l : List declared.Edge). length l) c.edges-edges.ensures.edges ∙ length-numbered_from 0 c.args.graph.now.edges
