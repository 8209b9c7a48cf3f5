use Rattle.std.proofs.Common.{◌≡◌, take}
use Rattle.inc_graph.proofs.naming.is_same_path.Given as goal

-- the bytes so far are the same
abbrev pub invariant-loop-index : goal.invariant-loop-index
invariant-loop-index l = take l.index l.a ≡ take l.index l.b
