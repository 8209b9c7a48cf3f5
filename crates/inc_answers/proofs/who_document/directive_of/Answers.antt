use Rattle.inc_answers.proofs.EdgeEnds.{directive_is}
use Rattle.inc_answers.proofs.who_document.directive_of.Goals as goal

pub returns : goal.returns
returns c = directive_is c.args.graph.now c.args.edge c.edge_at-found.result c.requires c.edge_at-found.ensures.found
