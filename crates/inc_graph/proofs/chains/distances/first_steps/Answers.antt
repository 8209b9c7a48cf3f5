use Rattle.std.proofs.Common.{◌≡◌, ◌+◌, ◌-◌, ◌<◌, length, arith, rules, sym, subst, ◌∙◌}
use Rattle.std.proofs.lemmas.List.{length-set}
use Rattle.inc_graph.specs.Distances.{AreStepsFrom}
use Rattle.inc_graph.proofs.FirstSteps.{edge_read, no_steps, step_taken, step_skipped}
use Rattle.inc_graph.proofs.chains.distances.first_steps.Goals as goal

pub loop-first-init : goal.loop-first-init
loop-first-init c = record {
  long = search rules;
  within = omega arith;
  steps = no_steps c.args.graph.now c.args.distances.now c.edges-edges.result.now c.in_ok-steps.steps.items c.edges-edges.ensures.edges;
}

pub is_nearer-requires-clause-from : goal.is_nearer-requires-clause-from
is_nearer-requires-clause-from c =
    let low : c.loop-first.first - 1 < length c.edges-edges.result.now = omega (arith, c.loop-first.invariant.within, c.loop-first-test.true) in
    let r = edge_read c.args.graph.now (c.loop-first.first - 1) c.edges-edges.result.now c.index-edges-first.result c.edges-edges.ensures.sound c.edges-edges.ensures.edges low c.index-edges-first.is in
    omega (arith, r.from_within, c.requires)

pub is_nearer-requires-clause-to : goal.is_nearer-requires-clause-to
is_nearer-requires-clause-to c =
    let low : c.loop-first.first - 1 < length c.edges-edges.result.now = omega (arith, c.loop-first.invariant.within, c.loop-first-test.true) in
    let r = edge_read c.args.graph.now (c.loop-first.first - 1) c.edges-edges.result.now c.index-edges-first.result c.edges-edges.ensures.sound c.edges-edges.ensures.edges low c.index-edges-first.is in
    omega (arith, r.to_within, c.requires)

pub loop-first-preserved-then-is_nearer : goal.loop-first-preserved-then-is_nearer
loop-first-preserved-then-is_nearer c =
    let low : c.loop-first.first - 1 < length c.edges-edges.result.now = omega (arith, c.loop-first.invariant.within, c.loop-first-test.true) in
    let r = edge_read c.args.graph.now (c.loop-first.first - 1) c.edges-edges.result.now c.index-edges-first.result c.edges-edges.ensures.sound c.edges-edges.ensures.edges low c.index-edges-first.is in
    let next : c.loop-first.first ≡ c.loop-first.first - 1 + 1 = omega (arith, c.loop-first-test.true) in
    let so_far = subst (λ n. AreStepsFrom c.args.graph.now c.args.distances.now n c.loop-first.steps.items) next c.loop-first.invariant.steps in
    let inside : c.index.result < length c.loop-first.steps.items = omega (arith, r.from_within, c.loop-first.invariant.long, c.index.ensures) in
    record {
      long = length-set c.loop-first.steps.items c.index.result c.index-edges-first.result.id ∙ c.loop-first.invariant.long;
      within = omega (arith, low);
      steps = step_taken c.args.graph.now c.args.distances.now c.loop-first.steps.items (c.loop-first.first - 1) c.index-edges-first.result r so_far c.index.result c.index.ensures inside
          (sym c.is_nearer.ensures ∙ c.if-is_nearer.true);
    }

pub loop-first-preserved : goal.loop-first-preserved
loop-first-preserved c =
    let low : c.loop-first.first - 1 < length c.edges-edges.result.now = omega (arith, c.loop-first.invariant.within, c.loop-first-test.true) in
    let r = edge_read c.args.graph.now (c.loop-first.first - 1) c.edges-edges.result.now c.index-edges-first.result c.edges-edges.ensures.sound c.edges-edges.ensures.edges low c.index-edges-first.is in
    let next : c.loop-first.first ≡ c.loop-first.first - 1 + 1 = omega (arith, c.loop-first-test.true) in
    let so_far = subst (λ n. AreStepsFrom c.args.graph.now c.args.distances.now n c.loop-first.steps.items) next c.loop-first.invariant.steps in
    record {
      long = c.loop-first.invariant.long;
      within = omega (arith, low);
      steps = step_skipped c.args.graph.now c.args.distances.now c.loop-first.steps.items (c.loop-first.first - 1) c.index-edges-first.result r so_far (sym c.is_nearer.ensures ∙ c.if-is_nearer.false);
    }
