use Rattle.inc_check.proofs.ListTexts.{marks_text_is_one, costs_text_is_one}
use Rattle.inc_check.proofs.laws.list_text_is_one.Goals as goal

pub returns-clause-marks : goal.returns-clause-marks
returns-clause-marks c = marks_text_is_one

pub returns-clause-costs : goal.returns-clause-costs
returns-clause-costs c = costs_text_is_one
