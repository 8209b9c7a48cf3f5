use Rattle.std.proofs.Common.{◌≡◌, ◌+◌, ◌-◌, ℕ, List, take, drop, arith}
use Rattle.inc_answers.proofs.EdgeParts.{take-part, take-left, sent_both}
use Rattle.inc_answers.proofs.edges.send_edges.Goals as goal

pub loop-at-preserved : goal.loop-at-preserved
loop-at-preserved g c =
    let edges : List ℕ = c.args.edges.now in
    let at : ℕ = c.loop-at.at in
    let n : ℕ = c.min.result in
    let many : at + n - at ≡ n = omega arith in
    let sent = rw many at c.send_together.ensures.sent in
    let small = rw many at c.send_together.ensures.small in
    record {
      within = omega (arith, c.loop-at.invariant.within, c.loop-at-test.true, c.min.ensures);
      sent = sent_both c.args.project.now c.args.graph.now _ _ _ (take at edges) (take n (drop at edges)) (take (at + n) edges) (take-part edges at n) c.loop-at.invariant.sent (sent, small);
    }

pub returns-clause-sent : goal.returns-clause-sent
returns-clause-sent g c =
    let edges : List ℕ = c.args.edges.now in
    (sent_both c.args.project.now c.args.graph.now _ _ _ (take c.loop-at.at edges) _ edges (take-left edges c.loop-at.at) c.loop-at.invariant.sent (c.send_apart.ensures.sent, c.send_apart.ensures.small)).0

pub returns-clause-small : goal.returns-clause-small
returns-clause-small g c =
    let edges : List ℕ = c.args.edges.now in
    (sent_both c.args.project.now c.args.graph.now _ _ _ (take c.loop-at.at edges) _ edges (take-left edges c.loop-at.at) c.loop-at.invariant.sent (c.send_apart.ensures.sent, c.send_apart.ensures.small)).1
