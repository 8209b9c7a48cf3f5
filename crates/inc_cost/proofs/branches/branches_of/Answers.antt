use Rattle.std.proofs.Common.{drop, arith}
use Rattle.inc_cost.proofs.BranchLemmas.{next_held}
use Rattle.inc_cost.proofs.branches.branches_of.Goals as goal

pub loop-place-preserved : goal.loop-place-preserved
loop-place-preserved c =
    let rest = drop c.loop-place.place c.args.nodes.now in
    let so_far = c.loop-place.invariant in
    next_held c.args.weights.now c.args.nodes.now c.loop-place.place c.index-nodes-place.result c.loop-place.held c.branch-held.new.self c.in_ok-branch.field-0 c.loop-place.found.items c.push.new.self.items
    (omega arith) so_far.0 c.index-nodes-place.is so_far.1 so_far.2 (c.in_ok-branch.ensures.branch rest so_far.1) (c.in_ok-branch.ensures.held rest so_far.1) c.in_ok-push.ensures.items
