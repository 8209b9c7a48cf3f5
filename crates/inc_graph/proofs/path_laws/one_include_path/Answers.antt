use Rattle.std.proofs.Common.{refl}
use Rattle.inc_graph.proofs.OnePathLaws.{only_path, own_files}
use Rattle.inc_graph.proofs.path_laws.one_include_path.Goals as goal

pub returns-clause-layout : goal.returns-clause-layout
returns-clause-layout c = λ setting listing. refl

pub returns-clause-reached : goal.returns-clause-reached
returns-clause-reached c = only_path

pub returns-clause-sources : goal.returns-clause-sources
returns-clause-sources c = own_files
