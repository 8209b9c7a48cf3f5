use Rattle.std.proofs.Common.{◌≡◌, take}
use Rattle.inc_graph.specs.Nexts.{nexts_among}
use Rattle.inc_graph.proofs.building.directs.Directs.nexts.Given as goal

-- those of the directives so far
abbrev pub invariant-loop-place : goal.invariant-loop-place
invariant-loop-place l = l.nexts.items ≡ nexts_among l.lookup l.file (take l.place l.self)
