use Rattle.std.proofs.Common.{◌+◌, ◌≤◌, length, arith, rules}
use Rattle.inc_text.proofs.LineFeedLemmas.{vector_count, rest_count, count_short}
use Rattle.inc_text.proofs.line_feeds.line_feeds.Goals as goal

pub overflow_add-count : goal.overflow_add-count
overflow_add-count c =
    let bytes = c.args.bytes.now in
    let next = vector_count bytes c.loop-at.at c.loop-at.count c.line_feeds_of-count.result (omega arith) c.loop-at.invariant.before c.line_feeds_of-count.ensures in
    let few : c.loop-at.count + c.line_feeds_of-count.result ≤ length bytes = omega (arith, next, count_short (c.loop-at.at + 16) bytes) in
    search (rules, few)

pub loop-at-preserved : goal.loop-at-preserved
loop-at-preserved c =
    record {
      within = omega arith;
      before = vector_count c.args.bytes.now c.loop-at.at c.loop-at.count c.line_feeds_of-count.result (omega arith) c.loop-at.invariant.before c.line_feeds_of-count.ensures;
    }

pub returns : goal.returns
returns c = rest_count c.args.bytes.now c.loop-at.at c.loop-at.count c.last_line_feeds.result c.loop-at.invariant.before c.last_line_feeds.ensures
