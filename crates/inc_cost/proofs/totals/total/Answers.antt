use Rattle.std.proofs.Common.{length, sym, ap, ◌∙◌, subst, arith}
use Rattle.inc_graph.specs.FileSets.{AreFlags}
use Rattle.inc_graph.proofs.NumberedEdges.{length-numbered_from}
use Rattle.inc_cost.specs.Costs.{no_source}
use Rattle.inc_cost.proofs.TotalSums.{total_more, few_sources}
use Rattle.inc_cost.proofs.totals.total.Goals as goal

pub flags_of-requires : goal.flags_of-requires
flags_of-requires c = λ k d low.
    let under = c.requires k d low in
    let long = ap (λ l. length l) c.edges.ensures.edges ∙ length-numbered_from 0 c.args.graph.now.edges in
    omega arith

pub loop-source-init : goal.loop-source-init
loop-source-init c = (no_source, omega arith)

pub weigh_from-requires-clause-flags : goal.weigh_from-requires-clause-flags
weigh_from-requires-clause-flags c =
    ap (λ l. length l) c.deref.ensures.value ∙ c.in_ok-flags.ensures.long ∙ ap (λ l. length l) c.edges.ensures.edges ∙ length-numbered_from 0 c.args.graph.now.edges

pub overflow_add-total : goal.overflow_add-total
overflow_add-total c =
    let few = few_sources c.args.graph.now c.edges.ensures.sound in
    let long = ap (λ l. length l) c.sources-source-items.ensures.sources in
    let before = c.loop-source.invariant.1 in
    let more = c.in_ok-total.ensures.most in
    let low = c.loop-source-test.true in
    omega (arith, few, long, before, more, low)

pub loop-source-preserved : goal.loop-source-preserved
loop-source-preserved c =
    let before = c.loop-source.invariant.1 in
    let more = c.in_ok-total.ensures.most in
    let flags = subst (λ l. AreFlags c.args.removed.now l) (sym c.deref.ensures.value) c.in_ok-flags.ensures.flags in (
      total_more c.args.graph.now c.args.weights.now c.args.removed.now c.args.graph.now.sources c.sources-source-items.result.now c.loop-source.source-index c.loop-source.total c.source-item.result c.in_ok-total.field-0
          c.sources-source-items.ensures.sources c.loop-source-test.true c.source-item.is c.loop-source.invariant.0 (c.in_ok-total.ensures.weight c.args.removed.now flags),
      omega (arith, before, more),
    )
