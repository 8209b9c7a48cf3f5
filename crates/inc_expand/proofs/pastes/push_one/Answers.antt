use Rattle.std.proofs.Common.{◌++◌, ap, sym, ◌∙◌, option_to_list}
use Rattle.inc_expand.specs.Joins.{tokens_in}
use Rattle.inc_expand.proofs.JoinSteps.{tokens_in-pushed}
use Rattle.inc_expand.proofs.pastes.push_one.Goals as goal

pub returns-in_ok-push-in-Some-clause-tokens : goal.returns-in_ok-push-in-Some-clause-tokens
returns-in_ok-push-in-Some-clause-tokens c =
    tokens_in-pushed _ _ _ c.in_ok-push-in-Some.ensures.items ∙ ap (λ o. tokens_in c.args.done.now.items ++ option_to_list o) (sym c.in-Some.is)
