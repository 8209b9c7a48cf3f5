use Rattle.std.proofs.Common.{◌≡◌, suc, length, sym, ap, ◌∙◌, arith}
use Rattle.inc_answers.specs.PatchText.{hunk_of, is_deleted}
use Rattle.inc_answers.proofs.PatchLemmas.{count_step, new_when, since_few}
use Rattle.inc_answers.proofs.patch.count_hunk.Goals as goal

pub loop-left-preserved : goal.loop-left-preserved
loop-left-preserved c =
    let so_far = c.loop-left.invariant in
    let row = c.in-Some.row in
    let rest = c.next.new.self in
    let long : length c.loop-left.left ≡ suc (length rest) = ap length c.in-Some.ensures.next in
    let counted = count_step c.loop-left.unchanged c.since_after-unchanged.result c.loop-left.left rest (hunk_of c.args.since c.args.rows.now) row
    c.loop-left.counts.old c.loop-left.counts.new c.with_row-counts.result.old c.with_row-counts.result.new
    (sym c.is_near.ensures ∙ c.loop-left-test.true) c.in-Some.ensures.next c.since_after-unchanged.ensures c.with_row-counts.ensures.old c.with_row-counts.ensures.new so_far.0 so_far.1 in (
      counted.0,
      counted.1,
      omega (arith, long, so_far.2, c.with_row-counts.ensures.old),
      omega (arith, new_when (is_deleted row) c.loop-left.counts.new c.loop-left.counts.old so_far.3, c.with_row-counts.ensures.new, c.with_row-counts.ensures.old),
      omega (arith, long, so_far.4, c.since_after-unchanged.ensures, since_few c.loop-left.unchanged row),
    )
