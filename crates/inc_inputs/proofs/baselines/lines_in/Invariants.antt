use Rattle.std.proofs.Common.{◌≡◌, ◌+◌, ◌-◌, ◌≤◌, length, drop, map}
use Rattle.inc_inputs.specs.Baselines.{named_from, with_more}
use Rattle.inc_inputs.specs.MarkLists.{lines_of}
use Rattle.inc_inputs.specs.Views.{named_line_in}
use Rattle.inc_inputs.proofs.baselines.lines_in.Given as goal

-- the lines so far, and then those of what is left, are those of the text
abbrev pub invariant-loop-end : goal.invariant-loop-end
invariant-loop-end l = record {
  within : l.at ≤ length l.text;
  lines : l.line ≤ l.at + 1;
  named : named_from 1 (lines_of l.text) ≡ with_more (map named_line_in l.lines.items) (named_from l.line (lines_of (drop l.at l.text)));
}

abbrev pub decreases-loop-end : goal.decreases-loop-end
decreases-loop-end l = length l.text - l.at
