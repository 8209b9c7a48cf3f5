use Rattle.std.proofs.Common.{◌≡◌, ◌<◌, Bool, false, length, replicate, true, ap, ◌∙◌, subst, arith, length-set, rules}
use Rattle.std.proofs.lemmas.List.{length-replicate, take_all}
use Rattle.inc_graph.specs.FileSets.{AreFlags}
use Rattle.inc_graph.proofs.Members.{flags_none, flags_more}
use Rattle.inc_cost.proofs.totals.flags_of.Goals as goal

pub loop-edge-init : goal.loop-edge-init
loop-edge-init c =
    let none : c.in_ok-flags.flags.items ≡ replicate c.args.count false = c.in_ok-flags.ensures.items_if_clones_equal (search rules) in
    (flags_none c.args.count c.in_ok-flags.flags.items none, ap (λ l. length l) none ∙ length-replicate {A = Bool} c.args.count false)

pub loop-edge-preserved : goal.loop-edge-preserved
loop-edge-preserved c =
    let low = c.requires c.loop-edge.edge-index c.edge-item.result c.loop-edge-test.true in
    let within : c.edge-item.result < length c.loop-edge.flags.items = omega (arith, low, c.edge-item.is, c.loop-edge.invariant.1) in
    rw c.index.ensures (
      flags_more c.args.edges.now c.loop-edge.edge-index c.edge-item.result c.loop-edge.flags.items c.loop-edge-test.true c.edge-item.is within c.loop-edge.invariant.0,
      length-set c.loop-edge.flags.items c.edge-item.result true ∙ c.loop-edge.invariant.1,
    )

pub returns-clause-flags : goal.returns-clause-flags
returns-clause-flags c = subst (λ l. AreFlags l c.loop-edge.flags.items) (take_all c.loop-edge.edge-index c.args.edges.now (omega arith)) c.loop-edge.invariant.0
