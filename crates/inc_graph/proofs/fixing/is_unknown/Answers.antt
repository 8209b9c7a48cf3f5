use Rattle.std.proofs.Common.{is_some, sym, ap, ◌∙◌}
use Rattle.inc_graph.proofs.NamedEdges.{named_known}
use Rattle.inc_graph.proofs.fixing.is_unknown.Goals as goal

pub returns-then-is_some-clause-unknown : goal.returns-then-is_some-clause-unknown
returns-then-is_some-clause-unknown c =
    sym (named_known c.args.project.now c.args.graph.now c.args.mark.now (ap is_some (sym c.edge_named.ensures.edge) ∙ sym c.is_some.ensures ∙ c.if-is_some.true))
