use Rattle.std.proofs.Common.{◌≡◌, ◌+◌, length, arith, rules, ◌∙◌}
use Rattle.std.proofs.lemmas.List.{length-set}
use Rattle.inc_graph.proofs.BackSearch.{all_so_far, distance_low, distances_are, next_distance, path_long, so_far_more, so_far_none, visit_read}
use Rattle.inc_graph.proofs.chains.distances.distances_of.Goals as goal

pub loop-visit-init : goal.loop-visit-init
loop-visit-init c = record {
  long = search rules;
  so_far = so_far_none c.args.graph.now c.args.search.now c.requires c.files.result c.in_ok-distances.distances.items (c.in_ok-distances.ensures.items_if_clones_equal (search rules));
}

pub overflow_add-before : goal.overflow_add-before
overflow_add-before c =
    let v = visit_read c.args.search.now c.visits-visit-items.result.now c.loop-visit.visit-index c.visit-item.result c.visits-visit-items.ensures c.loop-visit-test.true c.visit-item.is in
    let is = next_distance c.args.graph.now c.args.search.now c.requires c.loop-visit.visit-index c.visit-item.result c.loop-visit.distances.items c.parent_distance-before.result v.0 c.loop-visit.invariant.so_far
    (search rules) in
    let short = path_long c.args.graph.now c.args.search.now c.requires c.loop-visit.visit-index c.visit-item.result v.0 in
    omega (arith, is, short, v.1, c.len-few.ensures.few, c.len-few.ensures.visits)

pub index_mut-requires : goal.index_mut-requires
index_mut-requires c =
    let v = visit_read c.args.search.now c.visits-visit-items.result.now c.loop-visit.visit-index c.visit-item.result c.visits-visit-items.ensures c.loop-visit-test.true c.visit-item.is in
    let inside = c.requires.search.reached.inside c.loop-visit.visit-index c.visit-item.result v.0 in
    let long : length c.loop-visit.distances.items ≡ c.loop-visit.distances.len = search rules in
    omega (arith, inside, long, c.requires.search.sized, c.loop-visit.invariant.long, c.index.ensures)

pub loop-visit-preserved : goal.loop-visit-preserved
loop-visit-preserved c =
    let v = visit_read c.args.search.now c.visits-visit-items.result.now c.loop-visit.visit-index c.visit-item.result c.visits-visit-items.ensures c.loop-visit-test.true c.visit-item.is in
    let is = next_distance c.args.graph.now c.args.search.now c.requires c.loop-visit.visit-index c.visit-item.result c.loop-visit.distances.items c.parent_distance-before.result v.0 c.loop-visit.invariant.so_far
    (search rules) in
    let inside = c.requires.search.reached.inside c.loop-visit.visit-index c.visit-item.result v.0 in
    record {
      long = length-set c.loop-visit.distances.items c.index.result (c.parent_distance-before.result + 1) ∙ c.loop-visit.invariant.long;
      so_far = rw c.index.ensures (so_far_more c.args.graph.now c.args.search.now c.requires c.loop-visit.visit-index c.visit-item.result c.loop-visit.distances.items (c.parent_distance-before.result + 1) v.0
          (omega (arith, inside, c.requires.search.sized, c.loop-visit.invariant.long)) is c.loop-visit.invariant.so_far);
    }

pub returns-clause-distances : goal.returns-clause-distances
returns-clause-distances c =
    distances_are c.args.graph.now c.args.search.now c.requires c.loop-visit.distances.items c.loop-visit.invariant.long
    (all_so_far c.args.graph.now c.args.search.now c.requires c.visits-visit-items.result.now c.loop-visit.visit-index c.loop-visit.distances.items c.visits-visit-items.ensures c.loop-visit.auto.visit-index-end c.loop-visit-test.false c.loop-visit.invariant.so_far)

pub returns-clause-most : goal.returns-clause-most
returns-clause-most c f =
    distance_low c.args.graph.now c.args.search.now c.requires f c.loop-visit.distances.items
    (all_so_far c.args.graph.now c.args.search.now c.requires c.visits-visit-items.result.now c.loop-visit.visit-index c.loop-visit.distances.items c.visits-visit-items.ensures c.loop-visit.auto.visit-index-end c.loop-visit-test.false c.loop-visit.invariant.so_far)
