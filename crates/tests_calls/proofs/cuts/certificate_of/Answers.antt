use Rattle.std.proofs.Common.{rules, ◌≡◌, true, sym, ◌∙◌}
use Rattle.tests_calls.proofs.EdgeLemmas.{edges_within}
use Rattle.tests_calls.proofs.cuts.certificate_of.Goals as goal

pub certify-requires-clause-cut : goal.certify-requires-clause-cut
certify-requires-clause-cut c =
    let passed : c.are_edges.result ≡ true = search rules in
    edges_within c.args.asked.now.graph.now.edges c.edges.result.now c.args.edges.now c.edges.ensures.edges (sym c.are_edges.ensures ∙ passed)
