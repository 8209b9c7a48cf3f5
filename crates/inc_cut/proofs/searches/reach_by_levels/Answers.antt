use Rattle.std.proofs.Common.{◌<◌, length, map, ◌∙◌, arith}
use Rattle.inc_graph.specs.Indexes.{edges_leaving}
use Rattle.inc_graph.proofs.SearchLemmas.{candidates_room}
use Rattle.inc_cut.specs.NextSteps.{ahead_of}
use Rattle.inc_cut.specs.Searches.{step_next}
use Rattle.inc_cut.proofs.LevelSearches.{levels_begun, levels_within, levels_more}
use Rattle.inc_cut.proofs.searches.reach_by_levels.Goals as goal

pub loop-taken-init : goal.loop-taken-init
loop-taken-init top c =
    levels_begun c.args.graph.now (top.T.StepTest.passes c.args.test.now) c.files.result c.sources.result.now c.in_ok-search.search c.files.ensures.sound c.files.ensures.files c.sources.ensures.sources c.in_ok-search.ensures

pub go_ahead-requires-clause-file : goal.go_ahead-requires-clause-file
go_ahead-requires-clause-file top c =
    let low : c.loop-taken.taken < length c.loop-taken.search.visits = omega arith in
    levels_within c.args.graph.now (top.T.StepTest.passes c.args.test.now) c.loop-taken.search c.loop-taken.taken c.loop-taken.taken c.file-file.result c.loop-taken.invariant low c.file-file.ensures

pub go_back-requires-clause-place : goal.go_back-requires-clause-place
go_back-requires-clause-place top c =
    let g = c.args.graph.now in
    let low : c.loop-taken.taken < length c.loop-taken.search.visits = omega arith in
    (candidates_room (step_next g (top.T.StepTest.passes c.args.test.now)) c.loop-taken.taken c.loop-taken.search c.go_ahead.new.search (map ahead_of (edges_leaving g.edges c.file-file.result)) c.in_ok-go_ahead.ensures low).0

pub go_back-requires-clause-files : goal.go_back-requires-clause-files
go_back-requires-clause-files top c =
    let g = c.args.graph.now in
    let low : c.loop-taken.taken < length c.loop-taken.search.visits = omega arith in
    (candidates_room (step_next g (top.T.StepTest.passes c.args.test.now)) c.loop-taken.taken c.loop-taken.search c.go_ahead.new.search (map ahead_of (edges_leaving g.edges c.file-file.result)) c.in_ok-go_ahead.ensures low).1
    ∙ c.loop-taken.invariant.search.sized

pub loop-taken-preserved : goal.loop-taken-preserved
loop-taken-preserved top c =
    let low : c.loop-taken.taken < length c.loop-taken.search.visits = omega arith in
    levels_more c.args.graph.now (top.T.StepTest.passes c.args.test.now) c.loop-taken.search c.go_ahead.new.search c.go_back.new.search c.loop-taken.taken c.file-file.result low c.file-file.ensures
    c.in_ok-go_ahead.ensures c.in_ok-go_back.ensures c.loop-taken.invariant
