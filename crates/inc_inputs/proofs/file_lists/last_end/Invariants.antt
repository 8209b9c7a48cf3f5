use Rattle.std.proofs.Common.{length, ◌-◌, ◌≡◌, ◌+◌, ◌≤◌, drop}
use Rattle.std.specs.List.{prefix_len}
use Rattle.inc_inputs.specs.Lists.{is_inside}
use Rattle.inc_inputs.proofs.file_lists.last_end.Given as goal

abbrev pub invariant-loop-at : goal.invariant-loop-at
invariant-loop-at l = record {
  within : l.at ≤ length l.text;
  rest : l.at + prefix_len (is_inside l.end) (drop l.at l.text) ≡ l.fn.at + prefix_len (is_inside l.end) (drop l.fn.at l.text);
}

abbrev pub decreases-loop-at : goal.decreases-loop-at
decreases-loop-at l = length l.text - l.at
