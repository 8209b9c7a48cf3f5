use Rattle.inc_answers.proofs.LinkBlocks.{links_made}
use Rattle.inc_answers.proofs.graph_document.graph_document.Goals as goal

pub returns : goal.returns
returns c =
    links_made c.args.project.now c.args.graph.now c.edges-edges.result.now _ c.add_count.new.document c.add_links.new.document c.add_unresolved.new.document c.edges-edges.ensures.edges
    c.new-document.ensures c.in_ok-add_count.ensures c.in_ok-add_links.ensures c.in_ok-add_unresolved.ensures
