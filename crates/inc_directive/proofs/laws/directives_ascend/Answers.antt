use Rattle.inc_directive.proofs.LineOrder.{from_line_one, lines_rise}
use Rattle.inc_directive.proofs.laws.directives_ascend.Goals as goal

pub returns-clause-lines : goal.returns-clause-lines
returns-clause-lines c = from_line_one

pub returns-clause-order : goal.returns-clause-order
returns-clause-order c = lines_rise
