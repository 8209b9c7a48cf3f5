use Rattle.std.proofs.Common.{◌≡◌, drop}
use Rattle.inc_graph.specs.GraphLists.{bad_states}
use Rattle.inc_graph.proofs.building.gathering.first_bad.Given as goal

-- no file before is bad
abbrev pub invariant-loop-place : goal.invariant-loop-place
invariant-loop-place l = bad_states l.place (drop l.place l.states) ≡ bad_states 0 l.states
