use Rattle.std.proofs.Common.{ℕ, ◌<◌, ◌≤◌, List, [], ◌∷◌, ◌++◌, length, get_or, take, refl, sym, ap, ◌∙◌, arith}
use Rattle.std.proofs.lemmas.List.{take_more, take_all}
use Rattle.inc_graph.proofs.naming.is_same_path.Goals as goal

pub loop-index-init : goal.loop-index-init
loop-index-init c = refl

pub loop-index-preserved : goal.loop-index-preserved
loop-index-preserved c =
    let a : List ℕ = c.args.a.now in
    let b : List ℕ = c.args.b.now in
    let i : ℕ = c.loop-index.index in
    let low : c.loop-index.index < length c.args.b.now = omega (arith, c.loop-index-test.true, c.if-a-b.false) in
    take_more a i 0 c.loop-index-test.true ∙ ap (λ (ns : List ℕ). ns ++ get_or a i 0 ∷ []) c.loop-index.invariant
    ∙ ap (λ (n : ℕ). take i b ++ n ∷ []) c.if-a-index.false ∙ sym (take_more b i 0 low)

pub returns : goal.returns
returns c =
    let low : length c.args.b.now ≤ c.loop-index.index = omega (arith, c.loop-index-test.false, c.if-a-b.false) in
    sym (take_all c.loop-index.index c.args.a.now c.loop-index-test.false) ∙ c.loop-index.invariant ∙ take_all c.loop-index.index c.args.b.now low
