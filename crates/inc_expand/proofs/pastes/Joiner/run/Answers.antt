use Rattle.std.proofs.Common.{◌-◌, ◌++◌, ap, sym, ◌∙◌, subst, arith}
use Rattle.inc_expand.specs.Carriers.{AreKnown}
use Rattle.inc_expand.specs.Joins.{tokens_in}
use Rattle.inc_expand.specs.Lent.{lent_tokens}
use Rattle.inc_expand.proofs.CallSteps.{known-append}
use Rattle.inc_expand.proofs.JoinSteps.{tokens_in-pushed, run-with, known-take, known-with}
use Rattle.inc_expand.proofs.pastes.Joiner.run.Goals as goal

pub returns-clause-rest : goal.returns-clause-rest
returns-clause-rest c s parts =
    run-with _ _ s _ _ _ _ _ _ (lent_tokens c.args.tokens) (c.len-len.result - 1) c.at.result parts c.in_ok-settle.ensures.rule c.in_ok-settle.ensures.joins c.requires.joins
    (tokens_in-pushed _ _ _ c.in_ok-push.ensures.items ∙ ap (λ ts. tokens_in c.settle.new.self.done.items ++ ts) c.front.ensures)
    (c.in_ok-settle.ensures.done s) (omega (arith, c.if-len-eq0.false, c.len-len.ensures.len)) (c.at.ensures c.at.result)

pub returns-clause-known : goal.returns-clause-known
returns-clause-known c n h k = (
  subst (AreKnown n) (sym (tokens_in-pushed _ _ _ c.in_ok-push.ensures.items))
      (known-append n _ _ (c.in_ok-settle.ensures.known n h).0 (subst (AreKnown n) (sym c.front.ensures) (known-take n _ _ k))),
  known-with n (c.len-len.result - 1) c.at.result (lent_tokens c.args.tokens) (omega (arith, c.if-len-eq0.false, c.len-len.ensures.len)) (c.at.ensures c.at.result) k,
)
