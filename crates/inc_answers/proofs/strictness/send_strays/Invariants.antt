use Rattle.std.proofs.Common.{map, take}
use Rattle.inc_check.specs.Texts.{marks_text}
use Rattle.inc_graph.specs.MissingLists.{missing_at}
use Rattle.inc_answers.specs.MarkTexts.{missing_mark}
use Rattle.inc_answers.specs.Sending.{Sends}
use Rattle.inc_answers.proofs.strictness.send_strays.Given as goal

-- the lines so far are sent
abbrev pub invariant-loop-place : goal.invariant-loop-place
invariant-loop-place g l = Sends l.initial.out l.out (marks_text (map (missing_mark l.project) (map (missing_at l.missing) (take l.place-index l.strays))))
