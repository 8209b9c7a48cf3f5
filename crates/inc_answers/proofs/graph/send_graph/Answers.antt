use Rattle.inc_answers.specs.GraphText.{edge_text}
use Rattle.inc_answers.proofs.GraphLemmas.{flat_map-numbered, froms-within, length-numbered, tos-within}
use Rattle.inc_answers.proofs.SendingLemmas.{sends_then}
use Rattle.inc_answers.proofs.graph.send_graph.Goals as goal

pub send_edges-requires-clause-from : goal.send_edges-requires-clause-from
send_edges-requires-clause-from g c = rw (c.edges-edges.ensures.edges, ← c.requires) (froms-within c.args.graph.now c.edges-edges.ensures.sound)

pub send_edges-requires-clause-to : goal.send_edges-requires-clause-to
send_edges-requires-clause-to g c = rw (c.edges-edges.ensures.edges, ← c.requires) (tos-within c.args.graph.now c.edges-edges.ensures.sound)

pub returns : goal.returns
returns g c =
    let count = rw (c.edges-edges.ensures.edges, length-numbered c.args.graph.now) at c.send_count_line.ensures in
    let edges = rw (c.edges-edges.ensures.edges, flat_map-numbered (edge_text c.args.project.now) 0 c.args.graph.now.edges) at c.send_edges.ensures in
    sends_then _ _ _ _ _ (sends_then _ _ _ _ _ count edges) c.send_unresolved.ensures
