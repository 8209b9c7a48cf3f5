use Rattle.inc_inputs.proofs.MarkListLemmas.{counted_first, no_first}
use Rattle.inc_inputs.proofs.mark_lists.first_line.Goals as goal

pub returns-in_default : goal.returns-in_default
returns-in_default c = no_first c.args.text.now c.in_default.ensures

pub returns-in-Some-number_behind : goal.returns-in-Some-number_behind
returns-in-Some-number_behind c = counted_first c.args.text.now c.in-Some.end c.in-Some.ensures _ c.in-Some-number_behind.ensures

pub returns-in-None : goal.returns-in-None
returns-in-None c = counted_first c.args.text.now c.in-Some.end c.in-Some.ensures _ c.in-None.ensures
