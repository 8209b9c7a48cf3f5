use Rattle.std.proofs.Common.{take}
use Rattle.std.specs.Prelude.{flat_map}
use Rattle.inc_answers.specs.BlankText.{file_text}
use Rattle.inc_answers.specs.Sending.{Sends}
use Rattle.inc_answers.proofs.blank.send_files.Given as goal

-- how many there are and the first of them are sent
abbrev pub invariant-loop-change : goal.invariant-loop-change
invariant-loop-change g l =
    Sends l.initial.out l.out (flat_map file_text (take l.change-index l.changes))
