use Rattle.std.proofs.Common.{◌≡◌, ℕ, ◌*◌, ◌==◌, ◌<◌, length, take, count_by, get_or}
use Rattle.inc_text.proofs.line_feeds.count_blocks.Given as goal

abbrev pub invariant-loop-block : goal.invariant-loop-block
invariant-loop-block l = record {
  all : length l.counts.items ≡ l.block;
  each : (k : ℕ) → k < l.block → get_or l.counts.items k 0 ≡ count_by (λ b. b == 10) (take (k * 512) l.bytes);
  before : l.passed ≡ count_by (λ b. b == 10) (take (l.block * 512) l.bytes);
}
