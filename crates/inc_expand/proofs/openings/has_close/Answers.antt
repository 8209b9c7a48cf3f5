use Rattle.std.proofs.Common.{◌≡◌, ◌<◌, ◌∙◌, sym, drop, length, arith}
use Rattle.std.proofs.lemmas.List.{length-drop}
use Rattle.inc_expand.proofs.CallSteps.{passed-none, lent-more, lent-found, lent-open}
use Rattle.inc_expand.proofs.OpenSteps.{close-found, close-missing, not-there, there}
use Rattle.inc_expand.proofs.openings.has_close.Goals as goal

pub loop-i-init : goal.loop-i-init
loop-i-init c = (passed-none (drop 1 c.args.list.now), omega arith)

pub returns-in_default : goal.returns-in_default
returns-in_default c s =
    absurd (not-there c.args.list.now c.loop-i.i c.saturating_sub-count.result (rw (← c.len.ensures) c.saturating_sub-count.ensures) c.loop-i-test.true (sym c.get.ensures ∙ c.in_default.is))

pub returns-then-ends_call : goal.returns-then-ends_call
returns-then-ends_call c s =
    let at = there c.args.list.now c.loop-i.i c.in-Some.token (sym c.get.ensures ∙ c.in-Some.is) in
    close-found s c.args.list.now _
    (lent-found (drop 1 c.args.list.now) c.loop-i.i c.loop-i.deep c.in-Some.token at.0 at.1 c.loop-i.invariant.0 s (sym (c.ends_call.ensures s) ∙ c.if-ends_call.true))

pub loop-i-preserved : goal.loop-i-preserved
loop-i-preserved c =
    let at = there c.args.list.now c.loop-i.i c.in-Some.token (sym c.get.ensures ∙ c.in-Some.is) in
    let deep = c.loop-i.invariant.1 in (
      lent-more (drop 1 c.args.list.now) c.loop-i.i c.loop-i.deep c.in-Some.token at.0 at.1 c.loop-i.invariant.0
          (λ s. sym (c.ends_call.ensures s)
          ∙ c.if-ends_call.false) c.depth_after-deep.result c.depth_after-deep.ensures.depth c.depth_after-deep.ensures.more,
      omega (arith, c.depth_after-deep.ensures.more, deep),
    )

pub returns : goal.returns
returns c s =
    let k = length-drop 1 c.args.list.now in
    close-missing s c.args.list.now
    (lent-open (drop 1 c.args.list.now) c.loop-i.i c.loop-i.deep (omega (arith, k, c.loop-i-test.false, c.saturating_sub-count.ensures, c.len.ensures)) c.loop-i.invariant.0 s)
