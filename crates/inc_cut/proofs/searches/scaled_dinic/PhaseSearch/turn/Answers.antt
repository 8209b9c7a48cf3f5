use Rattle.std.proofs.Common.{ℕ, List, sym, subst}
use Rattle.inc_cut.specs.Phases.{IsWay}
use Rattle.inc_cut.proofs.PhaseLemmas.{way_push}
use Rattle.inc_cut.proofs.searches.scaled_dinic.PhaseSearch.turn.Goals as goal

pub returns-in_ok-push-in-Some-clause-way : goal.returns-in_ok-push-in-Some-clause-way
returns-in_ok-push-in-Some-clause-way g c =
    let graph = c.args.graph.now in
    let passes = g.T.StepTest.passes c.args.test.now in
    let P : List ℕ → Type 0 = λ levels. IsWay graph passes levels c.push.new.self.items c.in-Some.next.to in
    subst P (sym c.in-Some.ensures.levels)
    (way_push graph passes c.args.self.now.levels.items c.args.way.now.steps.items c.push.new.self.items c.args.way.now.file c.in-Some.next c.requires.way c.in-Some.ensures.next c.in_ok-push-in-Some.ensures.items)
