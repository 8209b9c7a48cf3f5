use Rattle.std.proofs.Common.{Ok, refl, ap, sym, ◌∙◌}
use Rattle.std.proofs.lemmas.Result.{IfOk-weaker, IfErr-weaker, err_from_is_err_and}
use Rattle.inc_directive.specs.KindViews.{seen_kind}
use Rattle.inc_pp.specs.declared.conditions.Test.TheVariants.{Defined, Undefined, Value}
use Rattle.inc_pp.specs.Runs.{with_meter}
use Rattle.inc_pp.specs.StateViews.{state_of}
use Rattle.inc_pp.specs.Tasks.{State}
use Rattle.inc_pp.proofs.StopSteps.{if-stop}
use Rattle.inc_pp.proofs.TakenSteps.{taken-done, taken-stop, with_all}
use Rattle.inc_pp.proofs.states.State.chooses.Goals as goal

pub returns-in-Defined-clause-done : goal.returns-in-Defined-clause-done
returns-in-Defined-clause-done c =
    let s = state_of c.args.self.now in
    IfOk-weaker c.defined_at.result _ _ (λ taken e f l u at.
    taken-done f l s c.args.here.now c.args.settings.now c.args.headers.now c.args.lines.now c.args.i (seen_kind c.kind.result) Defined c.in-Defined.ensures u at c.kind.ensures taken s.meter
    (ap (with_all s.meter) (e l at))) c.defined_at.ensures.done

pub returns-in-Defined-clause-stop : goal.returns-in-Defined-clause-stop
returns-in-Defined-clause-stop c =
    let s = state_of c.args.self.now in
    IfErr-weaker c.defined_at.result _ _ (λ fault stopped. if-stop fault _ _ (λ line cause e. (
      refl,
      λ f l u at. taken-stop f l s c.args.here.now c.args.settings.now c.args.headers.now c.args.lines.now c.args.i (seen_kind c.kind.result) Defined c.in-Defined.ensures u at c.kind.ensures line cause
          (e l at).0 (ap (with_all s.meter) (e l at).1),
    )) stopped) c.defined_at.ensures.stop

pub returns-in-Undefined-clause-done : goal.returns-in-Undefined-clause-done
returns-in-Undefined-clause-done c =
    let s = state_of c.args.self.now in
    IfOk-weaker c.undefined_at.result _ _ (λ taken e f l u at.
    taken-done f l s c.args.here.now c.args.settings.now c.args.headers.now c.args.lines.now c.args.i (seen_kind c.kind.result) Undefined c.in-Undefined.ensures u at c.kind.ensures taken s.meter
    (ap (with_all s.meter) (e l at))) c.undefined_at.ensures.done

pub returns-in-Undefined-clause-stop : goal.returns-in-Undefined-clause-stop
returns-in-Undefined-clause-stop c =
    let s = state_of c.args.self.now in
    IfErr-weaker c.undefined_at.result _ _ (λ fault stopped. if-stop fault _ _ (λ line cause e. (
      refl,
      λ f l u at. taken-stop f l s c.args.here.now c.args.settings.now c.args.headers.now c.args.lines.now c.args.i (seen_kind c.kind.result) Undefined c.in-Undefined.ensures u at c.kind.ensures line cause
          (e l at).0 (ap (with_all s.meter) (e l at).1),
    )) stopped) c.undefined_at.ensures.stop

pub returns-in_ok-taken-in-Value-clause-done : goal.returns-in_ok-taken-in-Value-clause-done
returns-in_ok-taken-in-Value-clause-done c = λ f l u at.
    let s = state_of c.args.self.now in
    taken-done f l s c.args.here.now c.args.settings.now c.args.headers.now c.args.lines.now c.args.i (seen_kind c.kind.result) Value c.in-Value.ensures u at c.kind.ensures
    c.in_ok-taken-in-Value.taken c.is_true_at.new.self.budget (c.in_ok-taken-in-Value.ensures.done l at)
    ∙ ap (λ (t : State). Ok (c.in_ok-taken-in-Value.taken, t)) (sym c.is_true_at.ensures.kept)

pub returns-in_err-taken-in-Value-clause-stop : goal.returns-in_err-taken-in-Value-clause-stop
returns-in_err-taken-in-Value-clause-stop c =
    let s = state_of c.args.self.now in
    let p = err_from_is_err_and c.from_residual.result c.from_residual.ensures.1 in
    rw (p.1, p.2) (if-stop c.in_err-taken-in-Value.field-0.0 _ _ (λ line cause e. (
      c.in_err-taken-in-Value.ensures.kept ∙ ap (λ n. with_meter n s) e.0,
      λ f l u at. taken-stop f l s c.args.here.now c.args.settings.now c.args.headers.now c.args.lines.now c.args.i (seen_kind c.kind.result) Value c.in-Value.ensures u at c.kind.ensures line cause
          (e.1 l at).0 (e.1 l at).1,
    )) c.in_err-taken-in-Value.ensures.stop)
