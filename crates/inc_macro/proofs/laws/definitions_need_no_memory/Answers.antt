use Rattle.inc_macro.proofs.MemoryFaults.{define_has, define_word_has, undef_has}
use Rattle.inc_macro.proofs.laws.definitions_need_no_memory.Goals as goal

pub returns-clause-define : goal.returns-clause-define
returns-clause-define c = define_has

pub returns-clause-word : goal.returns-clause-word
returns-clause-word c = define_word_has

pub returns-clause-undef : goal.returns-clause-undef
returns-clause-undef c = undef_has
