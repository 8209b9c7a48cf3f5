use Rattle.inc_check.proofs.CertificateTexts.{printed_is_text}
use Rattle.inc_check.proofs.laws.written_certificate_is_read.Goals as goal

pub returns : goal.returns
returns c certificate cut chains few = printed_is_text certificate (record { cut = cut; chains = chains; few = few })
