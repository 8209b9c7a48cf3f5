use Rattle.std.proofs.Common.{ℕ, List, sym, ap, ◌∙◌}
use Rattle.std.specs.Prelude.{slice_set}
use Rattle.inc_cut.specs.declared.flows.Step.{Step}
use Rattle.inc_cut.specs.Flows.{is_walk_by}
use Rattle.inc_cut.proofs.PhaseLemmas.{walk_last, way_pop, less_pop}
use Rattle.inc_cut.proofs.searches.scaled_dinic.PhaseSearch.go_back.Goals as goal

pub step_source-way-requires : goal.step_source-way-requires
step_source-way-requires c =
    let g = c.args.graph.now in
    let w = c.requires.1 in
    (walk_last g c.requires.0 w.source c.args.way.now.file c.pop.new.self.items c.in-Some.step
    (ap (λ (l : List Step). is_walk_by g c.requires.0 w.source l c.args.way.now.file) (sym c.in-Some.ensures.items) ∙ w.walk)).1

pub returns-clause-way : goal.returns-clause-way
returns-clause-way c = λ test w.
    let levels = c.args.self.now.levels.items in
    way_pop c.args.graph.now test levels (slice_set levels c.index.result 0) c.args.way.now.steps.items c.pop.new.self.items c.args.way.now.file c.step_source-way.result c.in-Some.step
    w c.in-Some.ensures.items (ap (λ (i : ℕ). slice_set levels i 0) c.index.ensures) c.step_source-way.ensures

pub returns-clause-less : goal.returns-clause-less
returns-clause-less c =
    let levels = c.args.self.now.levels.items in
    less_pop c.args.graph.now c.requires.0 levels (slice_set levels c.index.result 0) c.args.way.now.steps.items c.pop.new.self.items c.args.way.now.file c.step_source-way.result c.in-Some.step
    c.requires.1 c.in-Some.ensures.items (ap (λ (i : ℕ). slice_set levels i 0) c.index.ensures)
