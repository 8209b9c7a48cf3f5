use Rattle.inc_expand.proofs.ContextsAgree.{expansion-agrees}
use Rattle.inc_expand.proofs.laws.names_are_hidden_as_by_gcc.Goals as goal

pub returns : goal.returns
returns c = expansion-agrees
