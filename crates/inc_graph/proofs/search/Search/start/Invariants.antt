use Rattle.std.proofs.Common.{◌≡◌, take}
use Rattle.inc_graph.specs.Search.{started}
use Rattle.inc_graph.proofs.search.Search.start.Given as goal

-- the starts so far are reached
abbrev pub invariant-loop-start : goal.invariant-loop-start
invariant-loop-start g l = l.search ≡ started l.files (take l.start-index l.starts)
