use Rattle.std.proofs.Common.{◌∙◌, ap, List, length}
use Rattle.inc_graph.specs.declared.graphs.Edge as declared
use Rattle.inc_graph.proofs.NumberedEdges.{length-numbered_from}
use Rattle.inc_cut.proofs.flows.edge_count.Goals as goal

pub returns : goal.returns
returns c = ap (λ (l : List declared.Edge). length l) c.edges.ensures.edges ∙ length-numbered_from 0 c.args.graph.now.edges
