use Rattle.std.proofs.Common.{length, ◌-◌, ◌≡◌, ◌≤◌, drop}
use Rattle.inc_token.specs.Skipping.{further, line_rest}
use Rattle.inc_token.specs.UnmatchedQuotes.{AreUnmatched}
use Rattle.inc_token.proofs.pieces.skipping.skip_line_parts.Given as goal

abbrev pub invariant-loop-at : goal.invariant-loop-at
invariant-loop-at l = record {
  within : l.at ≤ length l.text;
  rest : further l.at (line_rest l.language 0 (drop l.at l.text)) ≡ further l.fn.at (line_rest l.language 0 (drop l.fn.at l.text));
  unmatched : AreUnmatched l.unmatched l.at l.text;
}

abbrev pub decreases-loop-at : goal.decreases-loop-at
decreases-loop-at l = length l.text - l.at
