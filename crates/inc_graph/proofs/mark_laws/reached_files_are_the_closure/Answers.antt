use Rattle.inc_graph.proofs.MarkLaws.{reached_is_inside}
use Rattle.inc_graph.proofs.mark_laws.reached_files_are_the_closure.Goals as goal

pub returns : goal.returns
returns c = reached_is_inside
