use Rattle.std.proofs.Common.{ap}
use Rattle.inc_answers.specs.Refusals.{Blocked, refusal_for}
use Rattle.inc_answers.proofs.WritingLemmas.{prints_one}
use Rattle.inc_answers.proofs.limits.refuse_blocked.Goals as goal

pub returns-clause-sent : goal.returns-clause-sent
returns-clause-sent g c =
    prints_one _ _ _ _ _ (ap (λ reasons. refusal_for reasons (Blocked c.args.project.now c.args.blockers.now)) c.in_ok-reasons.ensures) c.send_blocked.ensures
