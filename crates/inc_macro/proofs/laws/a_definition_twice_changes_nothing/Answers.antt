use Rattle.inc_macro.proofs.TableLaws.{twice}
use Rattle.inc_macro.proofs.laws.a_definition_twice_changes_nothing.Goals as goal

pub returns : goal.returns
returns c = twice
