use Rattle.std.proofs.Common.{take}
use Rattle.inc_answers.specs.PatchText.{patch_text}
use Rattle.inc_answers.specs.Sending.{Sends}
use Rattle.inc_answers.proofs.patch.send_patch.Given as goal

-- the diffs so far are sent
abbrev pub invariant-loop-change : goal.invariant-loop-change
invariant-loop-change g l = Sends l.initial.out l.out (patch_text (take l.change-index l.changes))
