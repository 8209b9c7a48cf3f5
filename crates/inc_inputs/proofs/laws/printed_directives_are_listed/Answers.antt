use Rattle.inc_inputs.proofs.PrintedMarks.{certificate_listed, marks_listed}
use Rattle.inc_inputs.proofs.laws.printed_directives_are_listed.Goals as goal

pub returns-clause-marks : goal.returns-clause-marks
returns-clause-marks c = marks_listed

pub returns-clause-cut : goal.returns-clause-cut
returns-clause-cut c = certificate_listed
