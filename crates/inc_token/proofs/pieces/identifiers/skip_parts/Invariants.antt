use Rattle.std.proofs.Common.{length, ◌-◌, ◌≡◌, ◌+◌, ◌≤◌, drop}
use Rattle.std.specs.List.{prefix_len}
use Rattle.inc_token.specs.Scanning.{is_row_byte}
use Rattle.inc_token.proofs.pieces.identifiers.skip_parts.Given as goal

abbrev pub invariant-loop-at : goal.invariant-loop-at
invariant-loop-at l = record {
  within : l.at ≤ length l.text;
  rest : l.at + prefix_len is_row_byte (drop l.at l.text) ≡ l.fn.at + prefix_len is_row_byte (drop l.fn.at l.text);
}

abbrev pub decreases-loop-at : goal.decreases-loop-at
decreases-loop-at l = length l.text - l.at
