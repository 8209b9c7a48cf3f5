use Rattle.std.proofs.Common.{Ok, ap, sym, ◌∙◌}
use Rattle.inc_macro.specs.Tables.{table_of}
use Rattle.inc_cond.proofs.OperandSteps.{condition-fault, condition-value}
use Rattle.inc_cond.proofs.conditions.value.Goals as goal

pub returns-in-Ok-finish-clause-value : goal.returns-in-Ok-finish-clause-value
returns-in-Ok-finish-clause-value c =
    let e = c.in-Ok.ensures.items in
    condition-value c.args.headers.now (table_of c.args.macros.now) c.new-operands.result c.expand_condition_into.new.sink c.new-operands.ensures e.items e.taken
    c.expand_condition_into.new.budget _ e.same c.in-Ok-finish.value c.in-Ok-finish.ensures.value
    ∙ ap (λ v. Ok (v, c.expand_condition_into.new.budget)) (sym c.seen.ensures)

pub returns-clause-fault : goal.returns-clause-fault
returns-clause-fault c other =
    let e = c.in-Ok.ensures.items in
    condition-fault c.args.headers.now (table_of c.args.macros.now) c.new-operands.result c.expand_condition_into.new.sink c.new-operands.ensures e.items e.taken
    c.expand_condition_into.new.budget _ e.same c.in-Err-finish.fault (c.in-Err-finish.ensures.fault other)
