use Rattle.std.proofs.Common.{◌≡◌, ◌≤◌, ◌-◌, drop, length}
use Rattle.inc_inputs.specs.ListNotes.{has_octal}
use Rattle.inc_inputs.proofs.list_notes.has_octal.Given as goal

-- what is asked of the rest is asked of the whole
abbrev pub invariant-loop-at : goal.invariant-loop-at
invariant-loop-at l = record {
  within : l.at ≤ length l.path;
  left : has_octal (drop l.at l.path) ≡ has_octal l.path;
}

abbrev pub decreases-loop-at : goal.decreases-loop-at
decreases-loop-at l = length l.path - l.at
