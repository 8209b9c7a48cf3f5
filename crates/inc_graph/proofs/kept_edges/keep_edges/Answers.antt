use Rattle.std.proofs.Common.{◌≡◌, ◌∙◌, ap, arith, length, rules}
use Rattle.inc_graph.proofs.NumberedEdges.{length-numbered_from}
use Rattle.inc_graph.proofs.kept_edges.keep_edges.Goals as goal

pub keep_edge-requires-clause-edge : goal.keep_edge-requires-clause-edge
keep_edge-requires-clause-edge c =
    let edges : length c.edges-edges.result.now ≡ length c.args.graph.now.edges = ap length c.edges-edges.ensures.edges ∙ length-numbered_from 0 c.args.graph.now.edges in
    let count : c.len-index-end.result ≡ length c.args.amounts.now.items = search rules in
    omega (arith, c.loop-index-test.true, edges, count, c.requires.long)
