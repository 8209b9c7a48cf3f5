use Rattle.std.proofs.Common.{◌≡◌, true, false, rules, arith}
use Rattle.inc_graph.specs.Members.{is_member}
use Rattle.inc_graph.proofs.BetweenLemmas.{falls_turn, stays_turn}
use Rattle.inc_graph.proofs.between.edges_before.Goals as goal
use Rattle.inc_graph.proofs.between.edges_before.Goals.{then-not-contains+in_ok-keep_edge, else-not-contains}

pub loop-edge-preserved : goal.loop-edge-preserved
loop-edge-preserved c = elim c.if-not-contains.branch [
  | then-not-contains+in_ok-keep_edge w ↦
      let apart : is_member c.edge-item.result.from c.args.headers.now ≡ false = search rules in
      let turn = stays_turn c.args.headers.now c.args.edges.now c.loop-edge.edge-index c.edge-item.result c.loop-edge.kept.items w.keep_edge.new.kept.items c.loop-edge.numbers.items w.keep_edge.new.numbers.items
      c.loop-edge-test.true c.edge-item.is apart c.loop-edge.invariant.are c.loop-edge.invariant.numbers w.in_ok-keep_edge.ensures.edges w.in_ok-keep_edge.ensures.numbers in
      rw (w.kept-is, w.numbers-is) (record { are = turn.0; few = omega (arith, turn.1, c.loop-edge.invariant.few); numbers = turn.2 })
  | else-not-contains w ↦
      let member : is_member c.edge-item.result.from c.args.headers.now ≡ true = search rules in
      let turn = falls_turn c.args.headers.now c.args.edges.now c.loop-edge.edge-index c.edge-item.result c.loop-edge.kept.items c.loop-edge.numbers.items c.loop-edge-test.true c.edge-item.is member
      c.loop-edge.invariant.are c.loop-edge.invariant.numbers in
      rw (w.kept-is, w.numbers-is) (record { are = turn.0; few = omega (arith, c.loop-edge.invariant.few); numbers = turn.1 })
]
