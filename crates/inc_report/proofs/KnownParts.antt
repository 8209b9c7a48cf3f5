-- What is printed of a graph of which that is known.
use Rattle.inc_answers.specs.Known.{IsKnown}
use Rattle.inc_answers.specs.Questions.{Answer}

-- what is printed of such a graph
abbrev pub OfKnown : Answer → Answer
OfKnown Then layout g p = IsKnown layout g × Then layout g p
