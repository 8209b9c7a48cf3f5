use Rattle.inc_graph.proofs.CertificateLemmas.{costs_of_one}
use Rattle.inc_graph.proofs.cut_laws.costs_of_one.Goals as goal

pub returns : goal.returns
returns c = costs_of_one
