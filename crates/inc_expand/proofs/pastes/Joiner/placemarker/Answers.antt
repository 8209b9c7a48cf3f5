use Rattle.std.proofs.Common.{ap}
use Rattle.inc_expand.specs.Joins.{before_of}
use Rattle.inc_expand.proofs.JoinSteps.{plain-at}
use Rattle.inc_expand.proofs.pastes.Joiner.placemarker.Goals as goal

pub returns-clause-rest : goal.returns-clause-rest
returns-clause-rest c s parts =
    plain-at _ _ _ _ _ _ _ _ _ parts c.in_ok-settle.ensures.rule c.in_ok-settle.ensures.joins c.if-self.false (c.in_ok-settle.ensures.done s) (ap (before_of s _) c.in_ok-settle.ensures.before)
