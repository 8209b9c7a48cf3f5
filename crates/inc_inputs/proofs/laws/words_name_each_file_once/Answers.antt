use Rattle.inc_inputs.proofs.OnceLaws.{same_files, same_others}
use Rattle.inc_inputs.proofs.laws.words_name_each_file_once.Goals as goal

pub returns-clause-files : goal.returns-clause-files
returns-clause-files c layout paths file = same_files layout file paths

pub returns-clause-others : goal.returns-clause-others
returns-clause-others c layout paths = same_others layout paths
