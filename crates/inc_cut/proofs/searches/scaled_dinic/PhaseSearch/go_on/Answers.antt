use Rattle.std.proofs.Common.{length, refl}
use Rattle.std.proofs.lemmas.Option.{slice_get_read}
use Rattle.inc_cut.proofs.PhaseLemmas.{way_begun}
use Rattle.inc_cut.proofs.searches.scaled_dinic.PhaseSearch.go_on.Goals as goal

pub climb-requires-clause-way : goal.climb-requires-clause-way
climb-requires-clause-way g c =
    let sources = c.sources-sources.result.now in
    let at = slice_get_read sources (length sources) c.loop-next.next c.index-sources-next.result refl c.loop-next-test.true c.index-sources-next.is in
    way_begun c.args.graph.now (g.T.StepTest.passes c.args.test.now) c.loop-next.self.levels.items c.clear-in-loop-next.new.self.items sources c.loop-next.next c.index-sources-next.result
    c.files.ensures.sound c.loop-next.invariant.0 c.sources-sources.ensures.sources at c.clear-in-loop-next.ensures.items
