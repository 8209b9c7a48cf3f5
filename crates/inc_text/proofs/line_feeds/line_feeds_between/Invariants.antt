use Rattle.std.proofs.Common.{◌≡◌, ◌+◌, ◌-◌, ◌≤◌, ◌==◌, take, count_by}
use Rattle.inc_text.proofs.line_feeds.line_feeds_between.Given as goal

abbrev pub invariant-loop-at : goal.invariant-loop-at
invariant-loop-at l = record {
  after : l.from ≤ l.at;
  order : l.at ≤ l.to;
  before : count_by (λ b. b == 10) (take l.from l.bytes) + l.count ≡ count_by (λ b. b == 10) (take l.at l.bytes);
}

abbrev pub decreases-loop-at : goal.decreases-loop-at
decreases-loop-at l = l.to - l.at
