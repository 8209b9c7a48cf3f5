use Rattle.std.proofs.Common.{ap, ◌∙◌}
use Rattle.inc_expand.specs.Carriers.{carriers}
use Rattle.inc_expand.specs.Joins.{tokens_in}
use Rattle.inc_expand.proofs.JoinSteps.{same-carriers, joined-at}
use Rattle.inc_expand.proofs.pastes.Joiner.token.Goals as goal

pub returns-then-self-clause-rest : goal.returns-then-self-clause-rest
returns-then-self-clause-rest c parts =
    joined-at _ _ _ _ _ _ _ _ _ parts c.in_ok-join.ensures.rule c.in_ok-join.ensures.joins c.if-self.true
    (ap (λ d. carriers c.join.new.sets (tokens_in d.items)) c.in_ok-join.ensures.done ∙ same-carriers _ _ c.join.ensures.keeps _ c.requires.known.0)
    c.in_ok-join.ensures.pasted

pub returns-clause-known : goal.returns-clause-known
returns-clause-known c = ((c.in_ok-settle.ensures.known _ c.requires.known).0, c.requires.token)
