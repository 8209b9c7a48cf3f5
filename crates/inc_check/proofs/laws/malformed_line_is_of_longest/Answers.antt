use Rattle.inc_check.specs.CertificateText.{CertificateFormat}
use Rattle.inc_check.specs.Texts.{MarksFormat, CostsFormat}
use Rattle.inc_check.proofs.Formats.{of_longest}
use Rattle.inc_check.proofs.laws.malformed_line_is_of_longest.Goals as goal

pub returns-clause-marks : goal.returns-clause-marks
returns-clause-marks c = of_longest MarksFormat

pub returns-clause-certificates : goal.returns-clause-certificates
returns-clause-certificates c = of_longest CertificateFormat

pub returns-clause-costs : goal.returns-clause-costs
returns-clause-costs c = of_longest CostsFormat
