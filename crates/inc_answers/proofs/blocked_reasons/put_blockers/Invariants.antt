use Rattle.std.proofs.Common.{◌≡◌, ◌++◌, take}
use Rattle.std.specs.Prelude.{flat_map}
use Rattle.inc_answers.specs.BlockedReasons.{blocker_reason}
use Rattle.inc_answers.proofs.blocked_reasons.put_blockers.Given as goal

-- those so far are added
abbrev pub invariant-loop-blocker : goal.invariant-loop-blocker
invariant-loop-blocker l = l.text.items ≡ l.initial.text.items ++ flat_map (blocker_reason l.project) (take l.blocker-index l.blockers)
