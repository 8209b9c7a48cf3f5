use Rattle.std.proofs.Common.{◌≡◌, ◌<◌, List, All, length, sym, ap, subst, ◌∙◌, arith}
use Rattle.std.proofs.lemmas.List.Elements.{All-append}
use Rattle.inc_cost.specs.declared.trees.Node.{Node}
use Rattle.inc_cost.proofs.TreeFiles.{forest_more}
use Rattle.inc_cost.proofs.trees.forest.Goals as goal

pub loop-source-preserved : goal.loop-source-preserved
loop-source-preserved c =
    let g = c.args.graph.now in
    let so_far = c.loop-source.invariant in
    let sources = c.sources-source-items.result.now in
    let long : length sources ≡ length g.sources = ap length c.sources-source-items.ensures.sources in
    let low : All (λ (n : Node). n.file < g.files) c.nodes.result.now =
    subst (λ (ns : List Node). All (λ (n : Node). n.file < g.files) ns) (sym c.nodes.ensures.nodes) c.walk.ensures.within in (
      c.walk.ensures.sized,
      forest_more g g.sources sources c.loop-source.source-index c.source-item.result c.loop-source.nodes.items c.extend_from_slice.new.self.items c.nodes.result.now
          c.sources-source-items.ensures.sources (omega (arith, c.loop-source-test.true, long)) c.source-item.is so_far.1 (c.nodes.ensures.nodes ∙ c.walk.ensures.tree)
          c.in_ok-extend_from_slice.ensures.items,
      subst (λ (ns : List Node). All (λ (n : Node). n.file < g.files) ns) (sym c.in_ok-extend_from_slice.ensures.items)
          (All-append (λ (n : Node). n.file < g.files) c.loop-source.nodes.items c.nodes.result.now so_far.2 low),
    )
