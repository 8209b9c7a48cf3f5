use Rattle.std.proofs.Common.{length, ◌≡◌, ◌≤◌, drop}
use Rattle.inc_token.specs.Spellings.{begins_with_hex}
use Rattle.inc_token.proofs.pieces.identifiers.is_hex_row.Given as goal

abbrev pub invariant-loop-left : goal.invariant-loop-left
invariant-loop-left l = record {
  within : l.at ≤ length l.text;
  rest : begins_with_hex l.left (drop l.at l.text) ≡ begins_with_hex l.fn.count (drop l.fn.at l.text);
}

abbrev pub decreases-loop-left : goal.decreases-loop-left
decreases-loop-left l = l.left
