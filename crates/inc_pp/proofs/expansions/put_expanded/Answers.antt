use Rattle.std.proofs.Common.{◌∙◌, refl}
use Rattle.std.proofs.lemmas.Result.{err_from_is_err_and}
use Rattle.inc_pp.proofs.StopSteps.{if-stop}
use Rattle.inc_pp.proofs.expansions.put_expanded.Goals as goal

pub returns-in_err-check_expanded-clause-stop : goal.returns-in_err-check_expanded-clause-stop
returns-in_err-check_expanded-clause-stop c =
    let p = err_from_is_err_and c.from_residual.result c.from_residual.ensures.1 in
    rw (p.1, p.2) (if-stop c.in_err-check_expanded.field-0.0 _ _ (λ line cause e. (e.0, refl, e.1)) c.in_err-check_expanded.ensures.stop)

pub returns-in_err-once-clause-stop : goal.returns-in_err-once-clause-stop
returns-in_err-once-clause-stop c =
    let p = err_from_is_err_and c.from_residual-in_err-once.result c.from_residual-in_err-once.ensures.1 in
    rw (p.1, p.2) (if-stop c.in_err-once.field-0.0 _ _ (λ line cause e. (e.0, e.1, c.in_ok-check_expanded.ensures.fits ∙ e.2)) c.in_err-once.ensures.stop)

pub returns-clause-done : goal.returns-clause-done
returns-clause-done c =
    let d = c.in_ok-once.ensures.done in (
      d.0,
      d.1,
      c.in_ok-check_expanded.ensures.fits ∙ d.2,
    )
