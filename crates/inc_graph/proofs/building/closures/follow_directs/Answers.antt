use Rattle.std.proofs.Common.{◌<◌, ◌∙◌, List, length, rules}
use Rattle.inc_graph.specs.Nexts.{Direct, seen_placed}
use Rattle.inc_graph.proofs.ReadingLemmas.{directs_lead, directs_reach}
use Rattle.inc_graph.proofs.building.closures.follow_directs.Goals as goal

pub loop-place-preserved : goal.loop-place-preserved
loop-place-preserved c =
    let layout = c.args.lookup.now in
    let at = c.args.at.now in
    let ds : List Direct = c.args.directs.now in
    let i = c.loop-place.place in
    let d : Direct = seen_placed c.at.result in
    let low : i < length ds = search rules in
    let followed = c.in_ok-follow_direct.ensures in
    let so_far = c.loop-place.invariant in
    record {
      files = followed.files ∙ so_far.files;
      places = directs_reach layout at ds i d c.args.places.now.found c.loop-place.places.found c.follow_direct.new.places.found low c.at.ensures so_far.places followed.places;
      states = directs_lead layout at ds i d c.args.states.now c.loop-place.states c.follow_direct.new.states low c.at.ensures c.requires.file so_far.states followed.states;
    }
