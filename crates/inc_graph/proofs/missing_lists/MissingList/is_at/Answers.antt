use Rattle.std.proofs.Common.{◌∙◌, ap, sym}
use Rattle.std.specs.Prelude.{◌==◌, ◌&&◌}
use Rattle.std.specs.List.{list_any}
use Rattle.inc_graph.specs.IncludeGraph.{are_in_order}
use Rattle.inc_graph.specs.MissingLists.{Missing}
use Rattle.inc_graph.proofs.NumberedNames.{any_named, order_named}
use Rattle.inc_graph.proofs.missing_lists.MissingList.is_at.Goals as goal

pub is_missing_at-requires : goal.is_missing_at-requires
is_missing_at-requires c =
    ap are_in_order c.deref.ensures.value ∙ sym (order_named c.self.inside.names c.self.inside.directives.items) ∙ ap are_in_order c.self.view_is ∙ c.requires

pub returns : goal.returns
returns c =
    c.is_missing_at.ensures ∙ ap (list_any (λ d. (d.file == c.args.file) && (d.line == c.args.line))) c.deref.ensures.value
    ∙ sym (any_named c.self.inside.names c.args.file c.args.line c.self.inside.directives.items)
    ∙ ap (list_any (λ (d : Missing). (d.file == c.args.file) && (d.line == c.args.line))) c.self.view_is
