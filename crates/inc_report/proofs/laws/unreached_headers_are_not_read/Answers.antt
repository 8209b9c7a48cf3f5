use Rattle.inc_report.proofs.KeptOut.{unreached_is_kept_out}
use Rattle.inc_report.proofs.laws.unreached_headers_are_not_read.Goals as goal

pub returns : goal.returns
returns c = unreached_is_kept_out
