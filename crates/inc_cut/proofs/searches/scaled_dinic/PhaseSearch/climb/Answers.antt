use Rattle.std.proofs.Common.{sym, ◌∙◌}
use Rattle.inc_cut.proofs.PhaseLemmas.{way_path}
use Rattle.inc_cut.proofs.searches.scaled_dinic.PhaseSearch.climb.Goals as goal

pub returns-clause-path : goal.returns-clause-path
returns-clause-path g c =
    way_path c.args.graph.now (g.T.StepTest.passes c.args.test.now) c.loop-self.self.levels.items c.loop-self.way.steps.items c.loop-self.way.file c.loop-self.invariant.1
    (sym c.is_header.ensures ∙ c.loop-self-test.false)
