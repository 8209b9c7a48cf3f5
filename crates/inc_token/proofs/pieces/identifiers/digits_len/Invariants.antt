use Rattle.std.proofs.Common.{length, ◌≡◌, ◌+◌, ◌-◌, ◌≤◌, drop}
use Rattle.inc_token.specs.Spellings.{number_part}
use Rattle.inc_token.specs.Scanning.{row_len}
use Rattle.inc_token.proofs.pieces.identifiers.digits_len.Given as goal

abbrev pub invariant-loop-end : goal.invariant-loop-end
invariant-loop-end l = record {
  begun : l.at ≤ l.end;
  within : l.end ≤ length l.text;
  rest : l.end + row_len (number_part l.fn.language) 0 (drop l.end l.text) ≡ l.at + row_len (number_part l.fn.language) 0 (drop l.at l.text);
}

abbrev pub decreases-loop-end : goal.decreases-loop-end
decreases-loop-end l = length l.text - l.end
