use Rattle.std.proofs.Common.{◌≡◌, ◌++◌, map, take}
use Rattle.inc_answers.specs.TreeDocument.{branch_block}
use Rattle.inc_answers.proofs.tree_document.add_branches.Given as goal

-- those so far are added
abbrev pub invariant-loop-branch : goal.invariant-loop-branch
invariant-loop-branch l = l.document ≡ l.initial.document ++ map (branch_block l.project) (take l.branch-index l.branches)
