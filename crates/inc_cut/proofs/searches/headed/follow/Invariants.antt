use Rattle.inc_cut.specs.Phases.{IsWay}
use Rattle.inc_cut.proofs.searches.headed.follow.Given as goal

abbrev pub invariant-loop-step : goal.invariant-loop-step
invariant-loop-step g l = IsWay l.graph (g.T.StepTest.passes l.test) l.levels l.way.steps.items l.way.file
