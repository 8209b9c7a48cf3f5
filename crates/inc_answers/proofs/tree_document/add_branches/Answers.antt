use Rattle.inc_answers.specs.TreeDocument.{branch_block}
use Rattle.inc_answers.proofs.TreeBlocks.{block_added}
use Rattle.inc_answers.proofs.tree_document.add_branches.Goals as goal

pub loop-branch-preserved : goal.loop-branch-preserved
loop-branch-preserved c =
    block_added (branch_block c.args.project.now) c.args.branches.now c.loop-branch.branch-index c.branch-item.result c.args.document.now c.loop-branch.document c.add_branch.new.document
    c.loop-branch-test.true c.branch-item.is c.in_ok-add_branch.ensures c.loop-branch.invariant
