use Rattle.std.proofs.Common.{take}
use Rattle.std.specs.Prelude.{flat_map}
use Rattle.inc_answers.specs.MarkTexts.{blocker_text}
use Rattle.inc_answers.specs.Sending.{Sends}
use Rattle.inc_answers.proofs.edges.send_blockers.Given as goal

-- the lines so far are sent
abbrev pub invariant-loop-blocker : goal.invariant-loop-blocker
invariant-loop-blocker g l = Sends l.initial.out l.out
    (flat_map (blocker_text l.project) (take l.blocker-index l.blockers))
