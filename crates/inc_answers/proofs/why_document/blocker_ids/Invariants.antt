use Rattle.std.proofs.Common.{◌≡◌, take}
use Rattle.inc_answers.specs.WhyDocument.{blocker_ids}
use Rattle.inc_answers.proofs.why_document.blocker_ids.Given as goal

-- those among the blockers so far
abbrev pub invariant-loop-blocker : goal.invariant-loop-blocker
invariant-loop-blocker l = l.ids.items ≡ blocker_ids l.kind (take l.blocker-index l.blockers)
