use Rattle.std.proofs.Common.{take}
use Rattle.std.specs.Prelude.{flat_map}
use Rattle.inc_answers.specs.Sending.{Sends}
use Rattle.inc_answers.specs.TreeText.{branch_line}
use Rattle.inc_answers.proofs.trees.send_each_branch.Given as goal

-- the files so far are sent
abbrev pub invariant-loop-branch : goal.invariant-loop-branch
invariant-loop-branch g l = Sends l.initial.out l.out (flat_map (branch_line l.project) (take l.branch-index l.branches))
