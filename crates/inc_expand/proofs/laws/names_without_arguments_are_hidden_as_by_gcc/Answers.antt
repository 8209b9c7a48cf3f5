use Rattle.inc_expand.proofs.PlainTables.{plain-agrees}
use Rattle.inc_expand.proofs.laws.names_without_arguments_are_hidden_as_by_gcc.Goals as goal

pub returns : goal.returns
returns c = plain-agrees
