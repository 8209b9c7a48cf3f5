use Rattle.std.proofs.Common.{rules, ◌≡◌, ◌<◌, length, true, [], ◌∷◌, ◌++◌, sym, subst, ◌∙◌}
use Rattle.std.specs.List.{All}
use Rattle.std.proofs.lemmas.List.Elements.{All-nil, All-cons, All-append}
use Rattle.inc_graph.specs.declared.fixed.Counted.{Counted}
use Rattle.tests_calls.proofs.EdgeLemmas.{edges_within}
use Rattle.tests_calls.proofs.cuts.add_counted.Goals as goal

pub returns : goal.returns
returns c =
    let graph = c.args.graph.now in
    let P : Counted → Type 0 = λ d. All (λ i. i < length graph.edges) d.chain.edges in
    let passed : c.are_edges.result ≡ true = search rules in
    let known = edges_within graph.edges c.edges.result.now c.as_slice.result.now c.edges.ensures.edges (sym c.are_edges.ensures ∙ passed) in
    let items : c.push.new.self.items ≡ c.args.list.now.items ++ c.args.counted ∷ [] = search rules in
    λ old. subst (All P) (sym items)
    (All-append P c.args.list.now.items (c.args.counted ∷ []) old
    (All-cons P c.args.counted [] (subst (All (λ i. i < length graph.edges)) c.as_slice.ensures known) (All-nil P)))
