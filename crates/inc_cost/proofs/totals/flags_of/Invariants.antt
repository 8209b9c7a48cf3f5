use Rattle.std.proofs.Common.{◌≡◌, length, take}
use Rattle.inc_graph.specs.FileSets.{AreFlags}
use Rattle.inc_cost.proofs.totals.flags_of.Given as goal

-- the edges so far have their flags
abbrev pub invariant-loop-edge : goal.invariant-loop-edge
invariant-loop-edge l = AreFlags (take l.edge-index l.edges) l.flags.items × (length l.flags.items ≡ l.count)
