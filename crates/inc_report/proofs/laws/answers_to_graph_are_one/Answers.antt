use Rattle.inc_report.proofs.OneText.{one_edges}
use Rattle.inc_report.proofs.laws.answers_to_graph_are_one.Goals as goal

pub returns : goal.returns
returns c = one_edges
