use Rattle.std.proofs.Common.{◌≡◌, List, [], ◌∷◌, ◌++◌, take, refl, sym, ap, ◌∙◌, subst, arith}
use Rattle.std.proofs.lemmas.List.{nil_from_length, take_more, length-take-le}
use Rattle.std.proofs.lemmas.Bool.{eqb-true}
use Rattle.inc_graph.specs.EdgeCosts.{AreCostsOf}
use Rattle.inc_graph.specs.Marks.{Cost}
use Rattle.inc_graph.proofs.AmountLists.{ones}
use Rattle.inc_graph.proofs.fixed.Fixed.with_costs.Goals as goal

pub returns-then-is_empty-3-clause-fixed : goal.returns-then-is_empty-3-clause-fixed
returns-then-is_empty-3-clause-fixed c =
    let layout = c.args.project.now in
    let g = c.args.graph.now in
    let kept : c.args.kept.now ≡ [] = nil_from_length c.args.kept.now (eqb-true _ 0 (sym c.is_empty.ensures ∙ c.if-is_empty.true)) in
    let marks : c.args.marks.now ≡ [] = nil_from_length c.args.marks.now (eqb-true _ 0 (sym c.is_empty-then-is_empty.ensures ∙ c.if-is_empty-2.true)) in
    let costs : c.args.costs.now ≡ [] = nil_from_length c.args.costs.now (eqb-true _ 0 (sym c.is_empty-then-is_empty-2.ensures ∙ c.if-is_empty-3.true)) in
    let are = ones g c.edges.result.now c.ones.result c.edges.ensures.edges c.ones.ensures in
    rw (kept, marks, costs) (are.0, refl)

pub loop-index-preserved : goal.loop-index-preserved
loop-index-preserved c =
    let layout = c.args.project.now in
    let g = c.args.graph.now in
    let costs = c.args.costs.now in
    let i = c.loop-index.index in
    let cost = c.index-costs-index.result in (
      c.take.ensures.fitted,
      subst (λ (cs : List Cost). AreCostsOf layout g cs c.take.new.self) (ap (λ (x : Cost). take i costs ++ x ∷ []) c.index-costs-index.is ∙ sym (take_more costs i cost c.loop-index-test.true))
          (c.in_ok-take.ensures.taken (take i costs) (length-take-le i costs (omega (arith, c.loop-index-test.true))) c.loop-index.invariant.1),
    )
