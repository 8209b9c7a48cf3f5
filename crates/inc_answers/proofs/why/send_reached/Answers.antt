use Rattle.inc_graph.proofs.Walks.{chain-within}
use Rattle.inc_answers.proofs.why.send_reached.Goals as goal

pub send_list-requires-clause-edges : goal.send_list-requires-clause-edges
send_list-requires-clause-edges g c = rw c.edges.ensures (chain-within c.args.graph.now _ c.requires.shortest.real)
