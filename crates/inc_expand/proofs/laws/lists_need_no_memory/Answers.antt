use Rattle.inc_expand.proofs.MemoryFaults.{expansion_has}
use Rattle.inc_expand.proofs.laws.lists_need_no_memory.Goals as goal

pub returns : goal.returns
returns c = expansion_has
