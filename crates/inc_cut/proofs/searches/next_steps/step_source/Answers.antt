use Rattle.std.proofs.Common.{sym, ap, ◌∙◌}
use Rattle.inc_graph.specs.Chains.{target}
use Rattle.inc_cut.specs.Flows.{source_of}
use Rattle.inc_cut.proofs.EdgeLemmas.{edge_at, index_within, begins_ahead, begins_back}
use Rattle.inc_cut.proofs.searches.next_steps.step_source.Goals as goal

pub bounds-edges-index : goal.bounds-edges-index
bounds-edges-index c = index_within c.args.graph.now c.args.step.edge c.index.result c.edges.result.now c.requires c.index.ensures c.edges.ensures.edges

pub returns-then-step : goal.returns-then-step
returns-then-step c =
    let g = c.args.graph.now in
    let low = index_within g c.args.step.edge c.index.result c.edges.result.now c.requires c.index.ensures c.edges.ensures.edges in
    let e = edge_at g c.edges.result.now c.index.result c.index-edges-index.result c.edges.ensures.sound c.edges.ensures.edges low c.index-edges-index.is in
    sym (begins_ahead g c.args.step c.if-step.true ∙ ap (source_of g) (sym c.index.ensures) ∙ e.from)

pub returns-else-step : goal.returns-else-step
returns-else-step c =
    let g = c.args.graph.now in
    let low = index_within g c.args.step.edge c.index.result c.edges.result.now c.requires c.index.ensures c.edges.ensures.edges in
    let e = edge_at g c.edges.result.now c.index.result c.index-edges-index.result c.edges.ensures.sound c.edges.ensures.edges low c.index-edges-index.is in
    sym (begins_back g c.args.step c.if-step.false ∙ ap (target g) (sym c.index.ensures) ∙ e.to)
