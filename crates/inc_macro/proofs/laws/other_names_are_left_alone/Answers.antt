use Rattle.inc_macro.proofs.TableLaws.{define_keeps, undef_keeps}
use Rattle.inc_macro.proofs.laws.other_names_are_left_alone.Goals as goal

pub returns-clause-define : goal.returns-clause-define
returns-clause-define c = define_keeps

pub returns-clause-undef : goal.returns-clause-undef
returns-clause-undef c = undef_keeps
