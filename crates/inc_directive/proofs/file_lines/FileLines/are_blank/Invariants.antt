use Rattle.std.proofs.Common.{◌≡◌, ◌≤◌, ◌-◌, [], slice_range}
use Rattle.inc_directive.specs.Parts.{lines_of_parts}
use Rattle.inc_directive.specs.Runs.{run_tokens}
use Rattle.inc_directive.proofs.file_lines.FileLines.are_blank.Given as goal

abbrev pub invariant-loop-i : goal.invariant-loop-i
invariant-loop-i l = record {
  after : l.from ≤ l.i;
  within : l.i ≤ l.to;
  blank : run_tokens (lines_of_parts (slice_range l.self l.from l.i)) ≡ [];
}

abbrev pub decreases-loop-i : goal.decreases-loop-i
decreases-loop-i l = l.to - l.i
