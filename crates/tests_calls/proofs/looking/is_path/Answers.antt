use Rattle.std.proofs.Common.{◌≡◌, ◌&&◌, ◌∙◌, ap, sym, subst, true, nat_lt, length}
use Rattle.std.specs.List.{list_all}
use Rattle.inc_graph.proofs.NumberedEdges.{length-numbered_from}
use Rattle.inc_cut.specs.declared.flows.Step.{Step}
use Rattle.tests_calls.proofs.looking.is_path.Goals as goal

pub is_way-requires-clause-ahead : goal.is_way-requires-clause-ahead
is_way-requires-clause-ahead c =
    let long : length c.edges.result.now ≡ length c.args.graph.now.edges = ap length c.edges.ensures.edges ∙ length-numbered_from 0 c.args.graph.now.edges in
    subst (λ n. list_all (λ (s : Step). s.forward && nat_lt s.edge n) c.args.path.now ≡ true) long (sym c.are_ahead.ensures ∙ c.if-are_ahead.true)
