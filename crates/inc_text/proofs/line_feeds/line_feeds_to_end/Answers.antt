use Rattle.std.proofs.Common.{sym, arith}
use Rattle.std.proofs.lemmas.List.Sums.{prefix_len-le-length}
use Rattle.inc_text.specs.LineFeeds.{is_inside}
use Rattle.inc_text.proofs.LineFeedLemmas.{none_before, one_at}
use Rattle.inc_text.proofs.line_feeds.line_feeds_to_end.Goals as goal

pub returns-then-len-bytes-clause-count : goal.returns-then-len-bytes-clause-count
returns-then-len-bytes-clause-count c = one_at c.args.bytes.now c.line_len-len.result c.line_len-len.ensures (omega arith)

pub returns-then-len-bytes-clause-none : goal.returns-then-len-bytes-clause-none
returns-then-len-bytes-clause-none c =
    λ i lt. none_before c.args.bytes.now c.line_len-len.result (omega (arith, c.line_len-len.ensures)) i (omega (arith, lt))

pub returns-else-len-bytes-clause-within : goal.returns-else-len-bytes-clause-within
returns-else-len-bytes-clause-within c = omega (arith, c.line_len-len.ensures, prefix_len-le-length is_inside c.args.bytes.now)

pub returns-else-len-bytes-clause-count : goal.returns-else-len-bytes-clause-count
returns-else-len-bytes-clause-count c = sym (none_before c.args.bytes.now c.line_len-len.result (omega (arith, c.line_len-len.ensures)) c.line_len-len.result (omega arith))

pub returns-else-len-bytes-clause-none : goal.returns-else-len-bytes-clause-none
returns-else-len-bytes-clause-none c =
    λ i lt. none_before c.args.bytes.now c.line_len-len.result (omega (arith, c.line_len-len.ensures)) i (omega (arith, lt))
