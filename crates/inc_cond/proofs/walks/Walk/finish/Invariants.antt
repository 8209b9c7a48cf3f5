use Rattle.std.proofs.Common.{◌≡◌, [], ◌++◌}
use Rattle.inc_cond.specs.Frames.{answer, turns_left}
use Rattle.inc_cond.specs.Walks.{left_to_read}
use Rattle.inc_cond.proofs.walks.Walk.finish.Given as goal

-- the walk gives from here what it gives from the start
abbrev pub invariant-loop-left : goal.invariant-loop-left
invariant-loop-left l = answer l.self.turn l.self.frames (l.left ++ []) ≡ left_to_read l.fn.self []

abbrev pub decreases-loop-left : goal.decreases-loop-left
decreases-loop-left l = turns_left l.self.turn l.self.frames (l.left ++ [])
