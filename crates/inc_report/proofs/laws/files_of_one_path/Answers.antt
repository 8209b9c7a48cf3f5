use Rattle.inc_answers.proofs.NameLemmas.{files_of_one}
use Rattle.inc_report.proofs.laws.files_of_one_path.Goals as goal

pub returns : goal.returns
returns c = files_of_one
