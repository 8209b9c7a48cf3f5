use Rattle.inc_graph.proofs.CertificateLemmas.{certificate_is_cheapest}
use Rattle.inc_graph.proofs.cut_laws.certificate_is_cheapest.Goals as goal

pub returns : goal.returns
returns c = certificate_is_cheapest
