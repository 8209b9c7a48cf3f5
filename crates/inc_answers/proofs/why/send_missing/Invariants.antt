use Rattle.std.proofs.Common.{take, map}
use Rattle.inc_check.specs.Texts.{marks_text}
use Rattle.inc_answers.specs.MarkTexts.{missing_mark}
use Rattle.inc_answers.specs.Sending.{Sends}
use Rattle.inc_answers.proofs.why.send_missing.Given as goal

-- the lines so far are sent
abbrev pub invariant-loop-place : goal.invariant-loop-place
invariant-loop-place g l = Sends l.initial.out l.out
    (marks_text (map (missing_mark l.project) (take l.place l.missing)))
