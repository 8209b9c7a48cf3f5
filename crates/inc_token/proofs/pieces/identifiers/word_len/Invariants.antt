use Rattle.std.proofs.Common.{length, ◌≡◌, ◌+◌, ◌-◌, ◌<◌, ◌≤◌, drop, get_or, false}
use Rattle.inc_token.specs.Spellings.{identifier_part}
use Rattle.inc_token.specs.Scanning.{is_row_byte, row_len}
use Rattle.inc_token.proofs.pieces.identifiers.word_len.Given as goal

abbrev pub invariant-loop-end : goal.invariant-loop-end
invariant-loop-end l = record {
  begun : l.at ≤ l.end;
  within : l.end ≤ length l.text;
  rest : l.end + row_len (identifier_part l.fn.language) 0 (drop l.end l.text) ≡ l.at + row_len (identifier_part l.fn.language) 0 (drop l.at l.text);
  bare : l.end < length l.text → is_row_byte (get_or l.text l.end 0) ≡ false;
}

abbrev pub decreases-loop-end : goal.decreases-loop-end
decreases-loop-end l = length l.text - l.end
