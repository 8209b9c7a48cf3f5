use Rattle.std.proofs.Common.{◌≡◌, ◌+◌, ℕ, List, suc, length, ap, arith}
use Rattle.inc_answers.specs.PatchText.{first_place, hunks_from, place_after, since_after}
use Rattle.inc_answers.specs.declared.patch.Place.{Place}
use Rattle.inc_answers.proofs.PatchLemmas.{hunks_more, place_few, since_few}
use Rattle.inc_answers.proofs.SendingLemmas.{sends_then}
use Rattle.inc_answers.proofs.patch.send_hunks.Goals as goal

pub loop-row-preserved : goal.loop-row-preserved
loop-row-preserved g c =
    let so_far = c.loop-row.invariant in
    let place : Place = c.loop-row.place in
    let near = c.is_near-near.result in
    let row = c.in-Some.row in
    let rest = c.next.new.self in
    let all : List ℕ = hunks_from first_place c.args.rows.now in
    let is : c.place_after-place.result ≡ place_after place row near = c.place_after-place.ensures in
    let long : length c.loop-row.left ≡ suc (length rest) = ap length c.in-Some.ensures.next in
    let more = hunks_more place c.loop-row.left rest row near so_far.0.0 all c.is_near-near.ensures c.in-Some.ensures.next so_far.0.2 in
    let old : c.place_after-place.result.old ≡ place.old + 1 = ap (λ (p : Place). p.old) is in
    let new : c.place_after-place.result.new ≡ (place_after place row near).new = ap (λ (p : Place). p.new) is in
    let since : c.place_after-place.result.since ≡ since_after place.since row = ap (λ (p : Place). p.since) is in (
      (
        _,
        sends_then _ _ _ _ _ (sends_then _ _ _ _ _ so_far.0.1 c.send_head_before.ensures) c.send_row_in.ensures,
        rw is more,
      ),
      omega (arith, long, old, so_far.1),
      omega (arith, old, new, place_few place row near so_far.2),
      omega (arith, long, since, since_few place.since row, so_far.3),
    )
