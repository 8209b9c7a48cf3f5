use Rattle.inc_graph.specs.ClosureSearch.{AreGivenSearched}
use Rattle.inc_graph.proofs.building.closures.read_closure.Given as goal

-- the include paths so far are searched
abbrev pub invariant-loop-path : goal.invariant-loop-path
invariant-loop-path g l = AreGivenSearched g.S.Sources.gives l.initial.sources l.sources l.setting l.project l.from l.headers l.path l.known.states l.known.directs
