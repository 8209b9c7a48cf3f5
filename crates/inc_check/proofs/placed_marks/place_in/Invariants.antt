use Rattle.std.proofs.Common.{◌≡◌, ◌-◌, ◌≤◌, length, drop}
use Rattle.inc_check.specs.Reading.{place_from}
use Rattle.inc_check.proofs.placed_marks.place_in.Given as goal

-- the first place is in what is left
abbrev pub invariant-loop-colon : goal.invariant-loop-colon
invariant-loop-colon l = record {
  within : l.at ≤ length l.line;
  left : place_from 0 l.line ≡ place_from l.at (drop l.at l.line);
}

abbrev pub decreases-loop-colon : goal.decreases-loop-colon
decreases-loop-colon l = length l.line - l.at
