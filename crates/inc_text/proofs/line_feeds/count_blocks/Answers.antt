use Rattle.std.proofs.Common.{◌*◌, ◌==◌, ◌≤◌, length, count_by, ap, ◌∙◌, arith, rules}
use Rattle.std.proofs.lemmas.List.{length_push}
use Rattle.inc_text.proofs.LineFeedLemmas.{whole_block, next_block, pushed_count}
use Rattle.inc_text.proofs.line_feeds.count_blocks.Goals as goal

pub loop-block-preserved : goal.loop-block-preserved
loop-block-preserved c =
    let bytes = c.args.bytes.now in
    let k = c.loop-block.block in
    let before = c.loop-block.invariant in
    let low : k * 512 ≤ c.min-end.result = search rules in
    record {
      all = ap length c.in_ok-push.ensures.items ∙ length_push _ _ ∙ omega (arith, before.all);
      each = pushed_count bytes _ _ k c.loop-block.passed before.all c.in_ok-push.ensures.items before.each before.before;
      before = next_block bytes k c.loop-block.passed c.line_feeds.result before.before (c.line_feeds.ensures ∙ ap (count_by (λ b. b == 10)) (whole_block bytes (k * 512) c.min-end.result low (omega (arith, c.min-end.ensures)) (λ lt. omega (arith, lt, c.min-end.ensures)) (omega (arith, c.min-end.ensures))));
    }
