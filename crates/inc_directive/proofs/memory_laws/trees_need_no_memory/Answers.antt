use Rattle.inc_directive.proofs.MemoryFaults.{trees_have}
use Rattle.inc_directive.proofs.memory_laws.trees_need_no_memory.Goals as goal

pub returns : goal.returns
returns c = trees_have
