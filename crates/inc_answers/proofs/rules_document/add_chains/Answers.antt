use Rattle.std.proofs.Common.{◌∙◌, ◌<◌, List, [], ℕ, ap, arith, length, subst, sym}
use Rattle.std.specs.List.{All}
use Rattle.std.proofs.lemmas.List.{get_or-map, length-map}
use Rattle.inc_answers.proofs.rules_document.add_chains.Goals as goal

pub add_edges-requires : goal.add_edges-requires
add_edges-requires c =
    subst (λ (l : List ℕ). All (λ i. i < length c.args.graph.now.edges) l)
    (sym (c.deref.ensures.value ∙ ap (λ v. v.items) c.chain-item.is
    ∙ sym (get_or-map (λ v. v.items) c.args.chains.now c.loop-chain.chain-index c.chain-item.result [] c.loop-chain-test.true)))
    (c.requires c.loop-chain.chain-index [] (omega (arith, c.loop-chain-test.true, length-map c.args.chains.now (λ v. v.items))))
