use Rattle.std.proofs.Common.{cond, Ok, Err, Result, List, ap, map, ◌∙◌}
use Rattle.inc_token.specs.TokenLines.{Tok}
use Rattle.inc_token.specs.Views.{seen}
use Rattle.inc_pp.specs.declared.causes.Cause.{Cause}
use Rattle.inc_pp.specs.declared.causes.Cause.TheVariants.{Poisoned}
use Rattle.inc_pp.specs.StateViews.{among}
use Rattle.inc_pp.proofs.PoisonSteps.{asked-by}
use Rattle.inc_pp.proofs.states.State.ask.Goals as goal

pub returns-then-has_poisoned-clause-stop : goal.returns-then-has_poisoned-clause-stop
returns-then-has_poisoned-clause-stop c = (
  c.first_line.ensures,
  asked-by (among c.args.self.now.poisoned) c.args.tokens.now c.has_poisoned.result c.has_poisoned.ensures
      ∙ ap (λ b. cond {A = Result (List Tok) Cause} b (Err Poisoned) (Ok (map seen c.args.tokens.now))) c.if-has_poisoned.true,
)

pub returns-clause-done : goal.returns-clause-done
returns-clause-done c =
    asked-by (among c.args.self.now.poisoned) c.args.tokens.now c.has_poisoned.result c.has_poisoned.ensures
    ∙ ap (λ b. cond {A = Result (List Tok) Cause} b (Err Poisoned) (Ok (map seen c.args.tokens.now))) c.if-has_poisoned.false
