use Rattle.inc_graph.proofs.OnePathLaws.{closure_alone, reached_alone}
use Rattle.inc_graph.proofs.path_laws.include_paths_are_reached_alone.Goals as goal

pub returns-clause-reached : goal.returns-clause-reached
returns-clause-reached c = reached_alone

pub returns-clause-closure : goal.returns-clause-closure
returns-clause-closure c = closure_alone
