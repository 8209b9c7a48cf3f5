use Rattle.std.proofs.Common.{◌∙◌, ◌||◌, sym, ap}
use Rattle.std.specs.Prelude.{◌==◌, ◌&&◌}
use Rattle.std.specs.List.{list_any}
use Rattle.inc_graph.specs.MissingLists.{Missing}
use Rattle.inc_graph.proofs.NamedEdges.{edge_stands}
use Rattle.inc_graph.proofs.fixing.is_directive_at.Goals as goal

pub returns-then-is_some : goal.returns-then-is_some
returns-then-is_some c =
    c.if-is_some.true
    ∙ sym (ap (λ b. b || list_any (λ (d : Missing). (d.file == c.args.file) && (d.line == c.args.line)) c.args.graph.now.missing)
    (edge_stands c.args.graph.now c.args.file c.args.line c.edge_at.result _ c.edge_at.ensures (sym c.is_some.ensures ∙ c.if-is_some.true)))

pub returns-else-is_some : goal.returns-else-is_some
returns-else-is_some c =
    c.is_missing_at.ensures
    ∙ sym (ap (λ b. b || list_any (λ (d : Missing). (d.file == c.args.file) && (d.line == c.args.line)) c.args.graph.now.missing)
    (edge_stands c.args.graph.now c.args.file c.args.line c.edge_at.result _ c.edge_at.ensures (sym c.is_some.ensures ∙ c.if-is_some.false)))
