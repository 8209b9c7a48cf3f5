use Rattle.std.proofs.Common.{◌≡◌, take}
use Rattle.inc_graph.specs.Cuts.{directives_of}
use Rattle.inc_answers.proofs.changes.directives_of.Given as goal

-- those of the first edges
abbrev pub invariant-loop-edge : goal.invariant-loop-edge
invariant-loop-edge l = l.ids.items ≡ directives_of l.graph (take l.edge-index l.edges)
