use Rattle.std.proofs.Common.{◌≡◌, take}
use Rattle.inc_graph.proofs.edge_numbers.words_of.Given as goal

-- the numbers so far
abbrev pub invariant-loop-number : goal.invariant-loop-number
invariant-loop-number l = l.words.items ≡ take l.number-index l.bytes
