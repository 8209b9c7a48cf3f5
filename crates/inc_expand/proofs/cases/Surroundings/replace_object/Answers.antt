use Rattle.std.proofs.lemmas.Result.{err_from_is_err_and}
use Rattle.inc_expand.specs.Cases.{surroundings_value}
use Rattle.inc_expand.specs.Expansion.{rule_in}
use Rattle.inc_expand.proofs.WalkSteps.{object-refused, object-replaced}
use Rattle.inc_expand.proofs.cases.Surroundings.replace_object.Goals as goal

pub returns-in_err-replace_by-clause-fault : goal.returns-in_err-replace_by-clause-fault
returns-in_err-replace_by-clause-fault c deeper =
    let p = err_from_is_err_and c.from_residual.result c.from_residual.ensures.1 in
    rw (p.1, p.2) (λ other. object-refused (rule_in (surroundings_value c.args.self.now)) deeper c.args.macro_.now c.none-none.result c.args.token.now c.args.work.now c.args.list.now _ c.none-none.ensures (c.in_err-replace_by.ensures.fault other))

pub returns-clause-replaced : goal.returns-clause-replaced
returns-clause-replaced c deeper =
    object-replaced (rule_in (surroundings_value c.args.self.now)) deeper c.args.macro_.now c.none-none.result c.args.token.now c.args.work.now _ c.args.list.now _ c.none-none.ensures c.in_ok-replace_by.ensures.replaced
