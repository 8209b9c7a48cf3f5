use Rattle.inc_cond.proofs.MemoryFaults.{condition_has}
use Rattle.inc_cond.proofs.laws.conditions_need_no_memory.Goals as goal

pub returns : goal.returns
returns c = condition_has
