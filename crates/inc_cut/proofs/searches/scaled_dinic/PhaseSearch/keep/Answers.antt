use Rattle.std.proofs.Common.{List, refl, sym, ap, ◌∙◌, arith}
use Rattle.std.specs.Prelude.{slice_get}
use Rattle.std.proofs.lemmas.Option.{slice_get_read}
use Rattle.inc_graph.specs.declared.search.Visit.{Visit}
use Rattle.inc_cut.specs.declared.flows.Step.{Step}
use Rattle.inc_cut.proofs.LevelSearches.{visit_inside}
use Rattle.inc_cut.proofs.searches.scaled_dinic.PhaseSearch.keep.Goals as goal

pub index_mut-requires : goal.index_mut-requires
index_mut-requires c =
    let r = c.requires in
    let at = slice_get_read c.visits-visit-items.result.now _ c.loop-visit.visit-index c.visit-item.result refl c.loop-visit-test.true c.visit-item.is in
    let there = ap (λ (l : List (Visit Step)). slice_get l c.loop-visit.visit-index) (sym c.visits-visit-items.ensures) ∙ at in
    let inside = visit_inside c.args.graph.now r.0 c.args.search.now r.1 c.loop-visit.visit-index c.visit-item.result there in
    omega (arith, c.index.ensures, c.loop-visit.invariant, c.loop-visit.self.levels.ok.0)
