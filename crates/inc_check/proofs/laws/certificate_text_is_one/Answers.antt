use Rattle.inc_check.proofs.CertificateTexts.{text_is_one}
use Rattle.inc_check.proofs.laws.certificate_text_is_one.Goals as goal

pub returns : goal.returns
returns c = text_is_one
