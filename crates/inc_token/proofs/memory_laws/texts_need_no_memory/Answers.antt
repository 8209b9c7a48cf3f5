use Rattle.inc_token.proofs.MemoryFaults.{token_lines_have}
use Rattle.inc_token.proofs.memory_laws.texts_need_no_memory.Goals as goal

pub returns : goal.returns
returns c = token_lines_have
