use Rattle.std.proofs.Common.{◌<◌, length, arith}
use Rattle.inc_graph.specs.Distances.{LeadsBack}
use Rattle.inc_graph.proofs.BackSearch.{back_begun, back_more}
use Rattle.inc_graph.proofs.SearchLemmas.{search_within}
use Rattle.inc_graph.proofs.chains.distances.search_back.Goals as goal

pub loop-taken-init : goal.loop-taken-init
loop-taken-init c =
    back_begun c.args.graph.now c.files.result c.headers.result.now c.in_ok-search.search c.files.ensures.sound c.files.ensures.files c.headers.ensures.headers c.in_ok-search.ensures

pub follow_back-requires-clause-file : goal.follow_back-requires-clause-file
follow_back-requires-clause-file c =
    let low : c.loop-taken.taken < length c.loop-taken.search.visits = omega arith in
    rw c.in_ok-two_way.ensures (search_within (LeadsBack c.args.graph.now) c.args.graph.now.files c.args.graph.now.headers c.loop-taken.search c.loop-taken.taken c.loop-taken.taken c.loop-taken.invariant.search low)

pub loop-taken-preserved : goal.loop-taken-preserved
loop-taken-preserved c =
    let low : c.loop-taken.taken < length c.loop-taken.search.visits = omega arith in
    back_more c.args.graph.now c.loop-taken.search c.follow_back.new.search c.loop-taken.taken low (rw (← c.in_ok-two_way.ensures) c.in_ok-follow_back.ensures) c.loop-taken.invariant
