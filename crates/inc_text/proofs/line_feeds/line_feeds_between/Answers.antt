use Rattle.std.proofs.Common.{◌+◌, ◌≤◌, length, arith, rules}
use Rattle.inc_text.proofs.LineFeedLemmas.{all_between, vector_between, count_short}
use Rattle.inc_text.proofs.line_feeds.line_feeds_between.Goals as goal

pub overflow_add-count : goal.overflow_add-count
overflow_add-count c =
    let bytes = c.args.bytes.now in
    let h = c.loop-at.invariant in
    let next = vector_between bytes c.args.from c.loop-at.at c.loop-at.count c.line_feeds_of-count.result (omega (arith, c.requires.within)) h.before c.line_feeds_of-count.ensures in
    let few : c.loop-at.count + c.line_feeds_of-count.result ≤ length bytes = omega (arith, next, count_short (c.loop-at.at + 16) bytes) in
    search (rules, few)

pub loop-at-preserved : goal.loop-at-preserved
loop-at-preserved c =
    let h = c.loop-at.invariant in
    record {
      after = omega (arith, h.after);
      order = omega arith;
      before = vector_between c.args.bytes.now c.args.from c.loop-at.at c.loop-at.count c.line_feeds_of-count.result (omega (arith, c.requires.within)) h.before c.line_feeds_of-count.ensures;
    }

pub returns : goal.returns
returns c =
    let h = c.loop-at.invariant in
    all_between c.args.bytes.now c.args.from c.loop-at.at c.args.to c.loop-at.count c.few_line_feeds.result h.after h.order h.before c.few_line_feeds.ensures
