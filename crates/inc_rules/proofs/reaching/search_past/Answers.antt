use Rattle.std.proofs.Common.{◌<◌, length, arith}
use Rattle.inc_graph.proofs.SearchLemmas.{search_within}
use Rattle.inc_rules.specs.Reaching.{LeadsPast}
use Rattle.inc_rules.proofs.ReachingLemmas.{reach_begun, reach_more}
use Rattle.inc_rules.proofs.reaching.search_past.Goals as goal

pub loop-taken-init : goal.loop-taken-init
loop-taken-init c = reach_begun c.args.graph.now c.args.flags.now c.files.result c.args.from.now c.in_ok-search.search c.files.ensures.files c.requires c.in_ok-search.ensures

pub follow-requires-clause-file : goal.follow-requires-clause-file
follow-requires-clause-file c =
    let low : c.loop-taken.taken < length c.loop-taken.search.visits = omega arith in
    search_within (LeadsPast c.args.graph.now c.args.flags.now) c.args.graph.now.files c.args.from.now c.loop-taken.search c.loop-taken.taken c.loop-taken.taken c.loop-taken.invariant low

pub loop-taken-preserved : goal.loop-taken-preserved
loop-taken-preserved c =
    let low : c.loop-taken.taken < length c.loop-taken.search.visits = omega arith in
    reach_more c.args.graph.now c.args.flags.now c.args.from.now c.loop-taken.search c.follow.new.search c.loop-taken.taken c.files.ensures.sound low c.in_ok-follow.ensures c.loop-taken.invariant
