use Rattle.std.proofs.Common.{◌<◌, length, arith}
use Rattle.inc_graph.specs.BreadthFirst.{EdgeLeads}
use Rattle.inc_graph.proofs.FirstWalks.{paths_begun, paths_more}
use Rattle.inc_graph.proofs.SearchLemmas.{search_within}
use Rattle.inc_graph.proofs.chains.breadth_first.search_first_paths.Goals as goal

pub loop-taken-init : goal.loop-taken-init
loop-taken-init c =
    paths_begun c.args.graph.now c.files.result c.sources.result.now c.in_ok-search.search c.files.ensures.sound c.files.ensures.files c.sources.ensures.sources c.in_ok-search.ensures

pub follow_edges-requires-clause-file : goal.follow_edges-requires-clause-file
follow_edges-requires-clause-file c =
    let low : c.loop-taken.taken < length c.loop-taken.search.visits = omega arith in
    search_within (EdgeLeads c.args.graph.now) c.args.graph.now.files c.args.graph.now.sources c.loop-taken.search c.loop-taken.taken c.loop-taken.taken c.loop-taken.invariant.search low

pub loop-taken-preserved : goal.loop-taken-preserved
loop-taken-preserved c =
    let low : c.loop-taken.taken < length c.loop-taken.search.visits = omega arith in
    paths_more c.args.graph.now c.loop-taken.search c.follow_edges.new.search c.loop-taken.taken low c.in_ok-follow_edges.ensures c.loop-taken.invariant
