use Rattle.std.proofs.Common.{◌≡◌, length}
use Rattle.inc_cut.specs.Phases.{IsWay, left_over}
use Rattle.inc_cut.proofs.searches.scaled_dinic.PhaseSearch.climb.Given as goal

abbrev pub invariant-loop-self : goal.invariant-loop-self
invariant-loop-self g l =
    (length l.self.tried.items ≡ l.graph.files) × IsWay l.graph (g.T.StepTest.passes l.test) l.self.levels.items l.way.steps.items l.way.file

abbrev pub decreases-loop-self : goal.decreases-loop-self
decreases-loop-self g l = left_over l.self.levels.items l.way.file
