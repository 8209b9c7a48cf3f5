use Rattle.inc_graph.proofs.CertificateLemmas.{certificate_is_cheapest}
use Rattle.inc_check.specs.Certificates.{edge_numbers, chains_of}
use Rattle.inc_check.proofs.VerdictLemmas.{yes_is_certificate}
use Rattle.inc_check.proofs.laws.yes_is_cheapest.Goals as goal

pub returns-clause-certificate : goal.returns-clause-certificate
returns-clause-certificate c = yes_is_certificate

pub returns-clause-cheapest : goal.returns-clause-cheapest
returns-clause-cheapest c layout g fixed cost k good =
    certificate_is_cheapest g fixed cost (edge_numbers layout g k.cut) (chains_of layout g k.chains) (yes_is_certificate layout g fixed cost k good)
