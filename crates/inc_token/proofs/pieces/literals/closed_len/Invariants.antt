use Rattle.std.proofs.Common.{length, ◌≡◌, ◌-◌, ◌≤◌, drop, false}
use Rattle.inc_token.specs.Scanning.{closed_at}
use Rattle.inc_token.proofs.pieces.literals.closed_len.Given as goal

abbrev pub invariant-loop-plain : goal.invariant-loop-plain
invariant-loop-plain l = record {
  begun : l.start ≤ l.at;
  within : l.at ≤ length l.text;
  rest : closed_at l.quote false (l.at - l.start) (drop l.at l.text) ≡ closed_at l.quote false (l.fn.at - l.start) (drop l.fn.at l.text);
}

abbrev pub decreases-loop-plain : goal.decreases-loop-plain
decreases-loop-plain l = length l.text - l.at
