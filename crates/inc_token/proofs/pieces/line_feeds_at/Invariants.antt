use Rattle.std.proofs.Common.{length, ◌+◌, ◌-◌, ◌≡◌, ◌≤◌}
use Rattle.std.specs.List.{AllWithin}
use Rattle.inc_token.proofs.pieces.line_feeds_at.Given as goal

abbrev pub invariant-loop-count : goal.invariant-loop-count
invariant-loop-count l = record {
  few : l.count ≤ l.most;
  line_feeds : AllWithin (λ b. b ≡ 10) l.text l.at (l.at + l.count);
  within : l.at + l.count ≤ length l.text;
}

abbrev pub decreases-loop-count : goal.decreases-loop-count
decreases-loop-count l = l.most - l.count
