use Rattle.inc_report.proofs.OneText.{one_why}
use Rattle.inc_report.proofs.laws.answers_to_why_are_one.Goals as goal

pub returns : goal.returns
returns c = one_why
