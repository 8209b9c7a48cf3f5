use Rattle.inc_macro.proofs.TableLaws.{undone}
use Rattle.inc_macro.proofs.laws.undef_of_a_new_macro_gives_the_table_before.Goals as goal

pub returns : goal.returns
returns c = undone
