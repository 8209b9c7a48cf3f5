use Rattle.std.proofs.Common.{length, ◌-◌, ◌≡◌, ◌+◌, ◌≤◌, drop}
use Rattle.std.specs.List.{prefix_len}
use Rattle.inc_text.specs.LineFeeds.{is_inside}
use Rattle.inc_text.proofs.line_feeds.last_line_len.Given as goal

abbrev pub invariant-loop-at : goal.invariant-loop-at
invariant-loop-at l = record {
  within : l.at ≤ length l.bytes;
  rest : l.at + prefix_len is_inside (drop l.at l.bytes) ≡ l.fn.at + prefix_len is_inside (drop l.fn.at l.bytes);
}

abbrev pub decreases-loop-at : goal.decreases-loop-at
decreases-loop-at l = length l.bytes - l.at
