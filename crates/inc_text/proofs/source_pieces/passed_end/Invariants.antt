use Rattle.std.proofs.Common.{length, ◌-◌, ◌≡◌, ◌+◌, ◌≤◌, drop}
use Rattle.std.specs.List.{prefix_len}
use Rattle.inc_text.specs.PhaseText.{is_passed}
use Rattle.inc_text.proofs.source_pieces.passed_end.Given as goal

abbrev pub invariant-loop-at : goal.invariant-loop-at
invariant-loop-at l = record {
  within : l.at ≤ length l.source;
  rest : l.at + prefix_len (is_passed l.fn.language) (drop l.at l.source) ≡ l.fn.at + prefix_len (is_passed l.fn.language) (drop l.fn.at l.source);
}

abbrev pub decreases-loop-at : goal.decreases-loop-at
decreases-loop-at l = length l.source - l.at
