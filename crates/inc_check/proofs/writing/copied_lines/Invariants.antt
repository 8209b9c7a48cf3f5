use Rattle.std.proofs.Common.{◌≡◌, ◌≤◌, ◌-◌, ◌++◌, length, drop}
use Rattle.inc_check.specs.Texts.{without_returns}
use Rattle.inc_check.proofs.writing.copied_lines.Given as goal

abbrev pub invariant-loop-passed : goal.invariant-loop-passed
invariant-loop-passed l = record {
  within : l.at ≤ length l.text;
  lines : l.lines.items ++ without_returns (drop l.at l.text) ≡ without_returns l.text;
}

abbrev pub decreases-loop-passed : goal.decreases-loop-passed
decreases-loop-passed l = length l.text - l.at
