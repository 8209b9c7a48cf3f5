use Rattle.inc_answers.proofs.JsonNames.{edge_found, no_edge_found}
use Rattle.inc_answers.proofs.json_parts.edge_of.Goals as goal

pub returns-in-Some : goal.returns-in-Some
returns-in-Some c =
    edge_found c.args.graph.now.edges c.edges.result.now c.args.edge c.index.result c.in-Some.found.now c.edges.ensures.edges c.index.ensures c.in-Some.ensures.lookup.3.0 c.in-Some.ensures.lookup.1

pub returns-in-None : goal.returns-in-None
returns-in-None c =
    no_edge_found c.args.graph.now.edges c.edges.result.now c.args.edge c.index.result c.edges.ensures.edges c.index.ensures c.in-None.ensures.lookup.3
