use Rattle.std.proofs.Common.{◌≡◌, List, length, reverse}
use Rattle.inc_lookup.specs.Given.{Given}
use Rattle.inc_macro.specs.Macros.{Table}
use Rattle.inc_pp.specs.StateViews.{state_of}
use Rattle.inc_pp.specs.Tasks.{begun}
use Rattle.inc_pp.specs.WalkJobs.{AreSharedIn, job_in, walk_left}
use Rattle.inc_pp.specs.WalkStates.{IsWalk}
use Rattle.inc_pp.proofs.walks.Job.walk.Given as goal

-- the files that are open are what is left
abbrev pub invariant-loop-frame : goal.invariant-loop-frame
invariant-loop-frame g l =
    (origin : g.row.S.Denot) (table : Table) (earlier : List Given) → state_of l.fn.state ≡ begun table
    → AreSharedIn g.S.Sources.gives origin l.fn.sources l.self l.fn.files earlier
    → IsWalk g.S.Sources.gives origin l.sources (job_in l.self l.fn.source table earlier) l.files (reverse l.frames.items) (state_of l.state)

abbrev pub decreases-loop-frame : goal.decreases-loop-frame
decreases-loop-frame g l = walk_left l.files (reverse l.frames.items) (length l.state.reads)
