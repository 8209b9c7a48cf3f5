use Rattle.std.proofs.Common.{take}
use Rattle.inc_answers.specs.Sending.{Sends}
use Rattle.inc_answers.specs.TreeText.{more_names}
use Rattle.inc_answers.proofs.trees.send_more_names.Given as goal

-- the names of the files so far are sent
abbrev pub invariant-loop-file : goal.invariant-loop-file
invariant-loop-file g l = Sends l.initial.out l.out (more_names l.project (take l.file-index l.way))
