use Rattle.inc_check.proofs.EdgeMarks.{numbers_of_marks}
use Rattle.inc_check.proofs.laws.marks_name_their_edges.Goals as goal

pub returns : goal.returns
returns c = λ layout g edges once sound files within. numbers_of_marks layout g once sound files edges within
