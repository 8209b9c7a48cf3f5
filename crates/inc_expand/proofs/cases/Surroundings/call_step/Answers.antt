use Rattle.std.proofs.Common.{◌∙◌, ap, not, sym}
use Rattle.std.proofs.lemmas.Result.{err_from_is_err_and}
use Rattle.inc_expand.proofs.cases.Surroundings.call_step.Goals as goal

pub returns-in_err-replace_whole-clause-fault : goal.returns-in_err-replace_whole-clause-fault
returns-in_err-replace_whole-clause-fault c =
    let p = err_from_is_err_and c.from_residual-in_err-replace_whole.result c.from_residual-in_err-replace_whole.ensures.1 in
    rw (p.1, p.2) (λ other. (ap not (sym (c.has_close.ensures c.args.work.now.sets) ∙ c.if-not-has_close.false), c.in_err-replace_whole.ensures.fault other))
