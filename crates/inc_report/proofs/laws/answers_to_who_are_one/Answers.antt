use Rattle.inc_report.proofs.OneText.{one_who}
use Rattle.inc_report.proofs.laws.answers_to_who_are_one.Goals as goal

pub returns : goal.returns
returns c = one_who
