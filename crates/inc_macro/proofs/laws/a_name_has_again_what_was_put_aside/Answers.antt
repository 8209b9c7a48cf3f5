use Rattle.std.proofs.Common.{ap}
use Rattle.inc_macro.specs.Macros.{popped}
use Rattle.inc_macro.proofs.AsideTables.{others-kept, pushed-others, taken-back}
use Rattle.inc_macro.proofs.laws.a_name_has_again_what_was_put_aside.Goals as goal

pub returns-clause-back : goal.returns-clause-back
returns-clause-back c = taken-back

pub returns-clause-nothing : goal.returns-clause-nothing
returns-clause-nothing c = λ name table none. ap (λ os. popped name os table) none

pub returns-clause-others : goal.returns-clause-others
returns-clause-others c = λ name other table apart. let kept = others-kept name other table (table.aside name) apart in (pushed-others name other table apart, kept.0, kept.1)
