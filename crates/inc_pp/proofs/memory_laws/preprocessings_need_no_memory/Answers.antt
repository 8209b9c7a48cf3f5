use Rattle.inc_pp.proofs.MemoryStops.{stops_have, refusals_have}
use Rattle.inc_pp.proofs.memory_laws.preprocessings_need_no_memory.Goals as goal

pub returns-clause-stopped : goal.returns-clause-stopped
returns-clause-stopped c = stops_have

pub returns-clause-refused : goal.returns-clause-refused
returns-clause-refused c = refusals_have
