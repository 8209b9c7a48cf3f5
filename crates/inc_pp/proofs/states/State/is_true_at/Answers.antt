use Rattle.std.proofs.Common.{refl}
use Rattle.std.proofs.lemmas.Result.{IfErr-weaker}
use Rattle.inc_pp.specs.Steps.{place_under}
use Rattle.inc_pp.proofs.StopSteps.{if-stop}
use Rattle.inc_pp.proofs.states.State.is_true_at.Goals as goal

pub returns-then-stands_alone-clause-stop : goal.returns-then-stands_alone-clause-stop
returns-then-stands_alone-clause-stop c =
    IfErr-weaker c.standing_true.result _ _ (λ fault stopped. if-stop fault _ _ (λ line cause e. (
      refl,
      λ l at. e (place_under c.args.settings.now c.args.here.now) c.args.self.now.budget l at,
    )) stopped) c.standing_true.ensures.stop
