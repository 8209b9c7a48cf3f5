use Rattle.std.proofs.lemmas.List.{take_all}
use Rattle.inc_answers.specs.TreeText.{branch_line}
use Rattle.inc_answers.proofs.SendingLemmas.{sends_then}
use Rattle.inc_answers.proofs.WhyLemmas.{flat_map-more}
use Rattle.inc_answers.proofs.trees.send_each_branch.Goals as goal

pub loop-branch-preserved : goal.loop-branch-preserved
loop-branch-preserved g c =
    rw (flat_map-more (branch_line c.args.project.now) c.args.branches.now c.loop-branch.branch-index _ c.loop-branch-test.true c.branch-item.is)
    (sends_then _ _ _ _ _ c.loop-branch.invariant c.send_branch.ensures)

pub returns : goal.returns
returns g c = rw (take_all c.loop-branch.branch-index c.args.branches.now c.loop-branch-test.false) at c.loop-branch.invariant
