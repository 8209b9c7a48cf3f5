use Rattle.std.proofs.Common.{◌≡◌, take}
use Rattle.inc_graph.specs.Search.{first_of}
use Rattle.inc_graph.proofs.search.Search.first_of.Given as goal

-- the first of the ends so far
abbrev pub invariant-loop-end : goal.invariant-loop-end
invariant-loop-end g l = l.first ≡ first_of l.self (take l.end-index l.ends)
