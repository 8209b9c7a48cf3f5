use Rattle.inc_graph.proofs.CertificateLemmas.{cheapest_of_one}
use Rattle.inc_graph.proofs.cut_laws.cheapest_of_one.Goals as goal

pub returns : goal.returns
returns c = cheapest_of_one
