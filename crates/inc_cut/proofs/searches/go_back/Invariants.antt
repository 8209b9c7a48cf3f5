use Rattle.std.proofs.Common.{◌≡◌, map, take}
use Rattle.inc_graph.specs.Search.{with_candidates}
use Rattle.inc_cut.specs.NextSteps.{back_of}
use Rattle.inc_cut.specs.Searches.{step_next}
use Rattle.inc_cut.proofs.searches.go_back.Given as goal

-- the steps so far are taken
abbrev pub invariant-loop-edge : goal.invariant-loop-edge
invariant-loop-edge g l =
    l.search ≡ with_candidates (step_next l.graph (g.T.StepTest.passes l.test)) l.place l.initial.search (take l.edge-index (map back_of l.edge-items))
