use Rattle.std.proofs.Common.{◌≡◌, ◌<◌, ◌-◌, length, arith, rules, ◌∙◌}
use Rattle.std.proofs.lemmas.List.{length-set}
use Rattle.inc_graph.specs.Distances.{distance}
use Rattle.inc_graph.proofs.NearestWalks.{walk_begun, walk_more, walk_made, step_low, step_read, step_room}
use Rattle.inc_graph.proofs.chains.by_source.put_walk.Goals as goal

pub loop-place-init : goal.loop-place-init
loop-place-init c = record {
  walking = walk_begun c.args.graph.now c.args.distances.now c.args.steps.now _ c.requires.ways c.args.start c.args.edges.now.items c.requires.start;
  long = search rules;
}

pub bounds-steps-index : goal.bounds-steps-index
bounds-steps-index c = omega (arith, c.index.ensures, c.loop-place.invariant.walking.within, c.requires.ways.steps_long)

pub index_mut-requires : goal.index_mut-requires
index_mut-requires c =
    let low : c.loop-place.place < distance c.args.distances.now c.args.start - 1 = omega (arith, c.loop-place-test.true, c.from-place-end.ensures, c.steps_from.ensures) in
    let room = step_room c.args.graph.now c.args.distances.now c.args.steps.now _ c.requires.ways c.args.start c.loop-place.place low in
    let long : length c.loop-place.edges.items ≡ c.loop-place.edges.len = search rules in
    omega (arith, room, long, c.loop-place.invariant.long)

pub target_of-file-requires : goal.target_of-file-requires
target_of-file-requires c =
    let low : c.loop-place.place < distance c.args.distances.now c.args.start - 1 = omega (arith, c.loop-place-test.true, c.from-place-end.ensures, c.steps_from.ensures) in
    let within : c.index.result < length c.args.steps.now = omega (arith, c.index.ensures, c.loop-place.invariant.walking.within, c.requires.ways.steps_long) in
    let is = step_read c.args.steps.now c.index.result c.loop-place.file c.index-steps-index.result within c.index.ensures c.index-steps-index.is in
    rw is (step_low c.args.graph.now c.args.distances.now c.args.steps.now _ c.requires.ways c.args.start c.loop-place.place c.loop-place.file c.loop-place.edges.items low c.loop-place.invariant.walking)

pub loop-place-preserved : goal.loop-place-preserved
loop-place-preserved c =
    let low : c.loop-place.place < distance c.args.distances.now c.args.start - 1 = omega (arith, c.loop-place-test.true, c.from-place-end.ensures, c.steps_from.ensures) in
    let within : c.index.result < length c.args.steps.now = omega (arith, c.index.ensures, c.loop-place.invariant.walking.within, c.requires.ways.steps_long) in
    let is = step_read c.args.steps.now c.index.result c.loop-place.file c.index-steps-index.result within c.index.ensures c.index-steps-index.is in
    let room = step_room c.args.graph.now c.args.distances.now c.args.steps.now _ c.requires.ways c.args.start c.loop-place.place low in
    let inside : c.loop-place.place < length c.loop-place.edges.items = omega (arith, room, c.loop-place.invariant.long) in
    record {
      walking = walk_more c.args.graph.now c.args.distances.now c.args.steps.now _ c.requires.ways c.args.start c.loop-place.place c.loop-place.file c.index-steps-index.result c.target_of-file.result
          c.loop-place.edges.items low inside is c.target_of-file.ensures.target c.target_of-file.ensures.within c.loop-place.invariant.walking;
      long = length-set c.loop-place.edges.items c.loop-place.place c.index-steps-index.result ∙ c.loop-place.invariant.long;
    }

pub returns-clause-walk : goal.returns-clause-walk
returns-clause-walk c =
    let over : c.loop-place.place ≡ distance c.args.distances.now c.args.start - 1 = omega (arith, c.loop-place-test.false, c.loop-place.auto.place-end, c.from-place-end.ensures, c.steps_from.ensures) in
    walk_made c.args.graph.now c.args.distances.now c.args.steps.now _ c.requires.ways c.args.start c.loop-place.place c.loop-place.file c.loop-place.edges.items over c.loop-place.invariant.walking
