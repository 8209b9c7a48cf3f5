use Rattle.std.proofs.Common.{◌≡◌, Bool, true, false, cond, Ok, Err, Result, refl, rules, sym, ap, map, ◌∙◌}
use Rattle.inc_token.specs.Views.{seen}
use Rattle.inc_pp.specs.declared.causes.Cause.{Cause}
use Rattle.inc_pp.specs.declared.causes.Cause.TheVariants.{BadPragma}
use Rattle.inc_pp.specs.Poison.{poison_all}
use Rattle.inc_pp.specs.StateViews.{state_of}
use Rattle.inc_pp.specs.Tasks.{State}
use Rattle.inc_pp.proofs.PoisonSteps.{poisoned-by}
use Rattle.inc_pp.proofs.states.State.obey_poison.Goals as goal

pub returns-then-not-are_poisonable-clause-stop : goal.returns-then-not-are_poisonable-clause-stop
returns-then-not-are_poisonable-clause-stop c =
    let s = state_of c.args.self.now in
    let none : c.are_poisonable.result ≡ false = search rules in (
      refl,
      poisoned-by c.language.result c.args.tokens.now s c.are_poisonable.result c.language.ensures c.are_poisonable.ensures
          ∙ ap (λ b. cond {A = Result State Cause} b (Ok (poison_all (map seen c.args.tokens.now) s)) (Err BadPragma)) none,
      refl,
    )

pub returns-clause-done : goal.returns-clause-done
returns-clause-done c =
    let s = state_of c.args.self.now in
    let all : c.are_poisonable.result ≡ true = search rules in
    poisoned-by c.language.result c.args.tokens.now s c.are_poisonable.result c.language.ensures c.are_poisonable.ensures
    ∙ ap (λ b. cond {A = Result State Cause} b (Ok (poison_all (map seen c.args.tokens.now) s)) (Err BadPragma)) all
    ∙ ap (λ (t : State). Ok t) (sym c.in_ok-poison_all.ensures.done)
