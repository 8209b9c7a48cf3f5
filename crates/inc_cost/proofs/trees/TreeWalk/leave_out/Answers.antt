use Rattle.std.proofs.Common.{◌+◌, length, refl, take}
use Rattle.inc_cost.proofs.TreeRooms.{left_out}
use Rattle.inc_cost.proofs.trees.TreeWalk.leave_out.Goals as goal

pub returns : goal.returns
returns c =
    let w = c.self.inside in
    left_out (length w.flags.items) (length w.waiting.items) w.first (w.first + 1) (take w.count w.tree.items) w.waiting.items c.args.self.now c.self.view_is refl
