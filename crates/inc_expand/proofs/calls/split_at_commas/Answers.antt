use Rattle.std.proofs.Common.{◌<◌, ◌≤◌, length, refl, sym, ap, ◌∙◌, arith}
use Rattle.inc_expand.specs.Lent.{lent_tokens}
use Rattle.inc_expand.proofs.CallSteps.{split-none, split-next-at, split-more-at, split-all, split-end, split-known, between-none, between-more, between-rest, written-is}
use Rattle.inc_expand.proofs.calls.split_at_commas.Goals as goal
use Rattle.inc_expand.proofs.calls.split_at_commas.Goals.{then-splits+in_ok-push_slot, else-splits}

pub loop-i-init : goal.loop-i-init
loop-i-init c = (rw c.new-done.ensures.items (split-none c.args.most (lent_tokens c.args.inside)), omega arith, omega arith)

pub loop-i-preserved : goal.loop-i-preserved
loop-i-preserved c =
    let inside = lent_tokens c.args.inside in
    let i = c.loop-i.i in
    let deep = c.loop-i.invariant.1 in
    let begun = c.loop-i.invariant.2 in
    let within : i < length inside = omega (arith, c.loop-i-test.true, c.len-i-end.ensures.len) in
    let there = c.at.ensures c.at.result in
    elim c.if-splits.branch [
      | then-splits+in_ok-push_slot w ↦
          rw (ap (λ v. v.items) w.done-is, w.in_ok-push_slot.ensures.values inside, w.begun-is, w.left-is) (
            written-is (between-none inside i)
                (split-next-at c.args.most inside _ _ _ c.loop-i.deep i c.at.result c.loop-i.invariant.0 within there _ c.depth_after-deep.ensures.depth
                _ refl refl refl (λ s. sym (c.splits.ensures.splits s) ∙ w.if-splits.true)),
            omega (arith, c.depth_after-deep.ensures.more, deep),
            omega arith,
          )
      | else-splits w ↦
          rw (ap (λ v. v.items) w.done-is, w.begun-is, w.left-is) (
            written-is (between-more inside c.loop-i.begun i c.at.result begun within there)
                (split-more-at c.args.most inside _ _ _ c.loop-i.deep i c.at.result c.loop-i.invariant.0 within there _ c.depth_after-deep.ensures.depth
                (λ s. sym (c.splits.ensures.splits s) ∙ w.if-splits.false)),
            omega (arith, c.depth_after-deep.ensures.more, deep),
            omega (arith, begun),
          )
    ]

pub returns-clause-split : goal.returns-clause-split
returns-clause-split c =
    let inside = lent_tokens c.args.inside in
    let over : length inside ≤ c.loop-i.i = omega (arith, c.loop-i-test.false, c.len-i-end.ensures.len) in
    rw (c.in_ok-push_slot-2.ensures.values inside, c.len.ensures.len)
    (split-end c.args.most inside _ _ _ _ (split-all c.args.most inside _ _ _ _ _ over c.loop-i.invariant.0) _ (sym (between-rest inside c.loop-i.begun c.loop-i.i over)) refl refl)

pub returns-clause-known : goal.returns-clause-known
returns-clause-known c =
    let inside = lent_tokens c.args.inside in
    let over : length inside ≤ c.loop-i.i = omega (arith, c.loop-i-test.false, c.len-i-end.ensures.len) in
    rw (c.in_ok-push_slot-2.ensures.values inside, c.len.ensures.len)
    (split-known c.args.most inside _ _ _ _ (split-all c.args.most inside _ _ _ _ _ over c.loop-i.invariant.0) _ (sym (between-rest inside c.loop-i.begun c.loop-i.i over)) refl refl)
