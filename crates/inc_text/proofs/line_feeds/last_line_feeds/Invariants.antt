use Rattle.std.proofs.Common.{◌≡◌, ◌==◌, take, count_by}
use Rattle.inc_text.proofs.line_feeds.last_line_feeds.Given as goal

abbrev pub invariant-loop-b : goal.invariant-loop-b
invariant-loop-b l = l.count ≡ count_by (λ b. b == 10) (take l.b-index l.bytes)
