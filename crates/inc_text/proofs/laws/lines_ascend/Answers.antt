use Rattle.inc_text.proofs.TextLines.{phase_text-ascends}
use Rattle.inc_text.proofs.laws.lines_ascend.Goals as goal

pub returns : goal.returns
returns c = phase_text-ascends
