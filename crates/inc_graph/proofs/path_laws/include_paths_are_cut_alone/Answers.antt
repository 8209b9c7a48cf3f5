use Rattle.inc_graph.proofs.OnePathLaws.{cut_of_whole, edge_in_whole}
use Rattle.inc_graph.proofs.path_laws.include_paths_are_cut_alone.Goals as goal

pub returns-clause-edges : goal.returns-clause-edges
returns-clause-edges c = edge_in_whole

pub returns-clause-cuts : goal.returns-clause-cuts
returns-clause-cuts c = cut_of_whole
