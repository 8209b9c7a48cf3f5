use Rattle.std.proofs.Common.{◌<◌, ◌≤◌, length, arith}
use Rattle.inc_graph.proofs.SearchLemmas.{search_within}
use Rattle.inc_check.specs.Checking.{LeadsPast}
use Rattle.inc_check.proofs.ReachLemmas.{reach_begun, reach_more, answer_is}
use Rattle.inc_check.proofs.checking.reaching.is_header_reached.Goals as goal

pub loop-taken-init : goal.loop-taken-init
loop-taken-init c =
    reach_begun c.args.graph.now c.args.set.now c.files.result c.sources.result.now c.in_ok-search.search c.files.ensures.sound c.files.ensures.files c.sources.ensures.sources c.in_ok-search.ensures

pub follow-requires-clause-file : goal.follow-requires-clause-file
follow-requires-clause-file c =
    let low : c.loop-taken.taken < length c.loop-taken.search.visits = omega arith in
    search_within (LeadsPast c.args.graph.now c.args.set.now) c.args.graph.now.files c.args.graph.now.sources c.loop-taken.search c.loop-taken.taken c.loop-taken.taken c.loop-taken.invariant low

pub loop-taken-preserved : goal.loop-taken-preserved
loop-taken-preserved c =
    let low : c.loop-taken.taken < length c.loop-taken.search.visits = omega arith in
    reach_more c.args.graph.now c.args.set.now c.loop-taken.search c.follow.new.search c.loop-taken.taken c.files.ensures.sound low c.in_ok-follow.ensures c.loop-taken.invariant

pub returns : goal.returns
returns c =
    let end : length c.loop-taken.search.visits ≤ c.loop-taken.taken = omega arith in
    answer_is c.args.graph.now c.args.set.now c.loop-taken.search c.loop-taken.taken c.headers.result.now c.first_of.result c.is_some.result c.loop-taken.invariant end
    c.headers.ensures.headers c.first_of.ensures c.is_some.ensures
