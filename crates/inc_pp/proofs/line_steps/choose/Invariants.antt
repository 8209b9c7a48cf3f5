use Rattle.std.proofs.Common.{◌-◌, length}
use Rattle.inc_pp.proofs.ChoiceReads.{IsChoosing}
use Rattle.inc_pp.specs.StateViews.{state_of}
use Rattle.inc_pp.specs.Stops.{IsSearched}
use Rattle.inc_pp.proofs.line_steps.choose.Given as goal

abbrev pub invariant-loop-fault : goal.invariant-loop-fault
invariant-loop-fault l = IsChoosing (IsSearched l.settings l.headers) l.lines l.part (state_of l.initial.state) l.here l.at (state_of l.state)

abbrev pub decreases-loop-fault : goal.decreases-loop-fault
decreases-loop-fault l = length l.lines - l.at
