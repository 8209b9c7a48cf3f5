use Rattle.std.proofs.Common.{◌≡◌, ℕ, ◌+◌, ◌<◌, ◌++◌, ◌∙◌, List, ap, append-nil, drop, length, subst, sym, take, arith}
use Rattle.std.specs.List.{All}
use Rattle.std.proofs.lemmas.List.{drop_all, get_or-take, length-take-le}
use Rattle.std.proofs.lemmas.Option.{get_or_from_slice_get}
use Rattle.inc_graph.specs.Cuts.{Counted}
use Rattle.inc_answers.specs.CutDocument.{chain_blocks, chains_from}
use Rattle.inc_answers.proofs.ChainBlocks.{next_chain}
use Rattle.inc_answers.proofs.CutLemmas.{chain_at, chain_is}
use Rattle.inc_answers.proofs.cut_document.add_first_chains.Goals as goal

pub add_chain-requires-clause-edges : goal.add_chain-requires-clause-edges
add_chain-requires-clause-edges c =
    let chains = c.args.chains.now in
    let i = c.loop-index.index in
    let low : i < length chains = omega (arith, c.loop-index-test.true, c.requires.shown) in
    let x = chain_at chains i low in
    let P : Counted → Type 0 = λ k. All (λ (j : ℕ). j < length c.args.graph.now.edges) k.chain in
    let Q : List ℕ → Type 0 = λ es. All (λ (j : ℕ). j < length c.args.graph.now.edges) es in
    subst Q (sym (c.edges.ensures x.0 x.1)) (subst P (get_or_from_slice_get chains i x.0 x.0 x.1) (c.requires.chains i x.0 low))

pub loop-index-preserved : goal.loop-index-preserved
loop-index-preserved c =
    let graph = c.args.graph.now in
    let chains = c.args.chains.now in
    let shown = c.args.shown in
    let i = c.loop-index.index in
    let low : i < length chains = omega (arith, c.loop-index-test.true, c.requires.shown) in
    let x = chain_at chains i low in
    let there : i < length (take shown chains) = omega (arith, c.loop-index-test.true, length-take-le shown chains c.requires.shown) in
    let at = sym (get_or-take shown chains i x.0 c.loop-index-test.true ∙ get_or_from_slice_get chains i x.0 x.0 x.1) in
    let same = chain_is c.edges.result.now c.count.result x.0 (c.edges.ensures x.0 x.1) (c.count.ensures x.0 x.1) in
    let added =
    c.in_ok-add_chain.ensures ∙ ap (λ (k : Counted). c.loop-index.document ++ chain_blocks graph (i + 1) c.len.result k) same
    ∙ ap (λ (n : ℕ). c.loop-index.document ++ chain_blocks graph (i + 1) n x.0) c.len.ensures in
    next_chain graph (length chains) (take shown chains) i x.0 c.loop-index.document c.add_chain.new.document _ there at added c.loop-index.invariant
