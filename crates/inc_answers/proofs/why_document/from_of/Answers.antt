use Rattle.inc_answers.proofs.EdgeEnds.{from_is}
use Rattle.inc_answers.proofs.why_document.from_of.Goals as goal

pub returns : goal.returns
returns c = from_is c.args.graph.now c.args.edge c.edge_at.result c.requires c.edge_at.ensures.found
