use Rattle.std.proofs.Common.{◌-◌}
use Rattle.inc_pp.specs.StateViews.{state_of}
use Rattle.inc_pp.proofs.ReadLines.{IsOn}
use Rattle.inc_pp.proofs.held_files.HeldFile.read.Given as goal

abbrev pub invariant-loop-frame : goal.invariant-loop-frame
invariant-loop-frame l = IsOn l.self l.project l.settings l.nests l.fn.frame (state_of l.fn.state) l.frame (state_of l.state)

abbrev pub decreases-loop-frame : goal.decreases-loop-frame
decreases-loop-frame l = l.count - l.frame.part
