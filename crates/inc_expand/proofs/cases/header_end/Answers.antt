use Rattle.std.proofs.Common.{◌≡◌, ◌∙◌, ℕ, suc, ◌+◌, ◌<◌, arith, ap, drop, length, refl, sym}
use Rattle.std.proofs.lemmas.Bool.{cond-false, cond-true}
use Rattle.inc_expand.specs.Expansion.{through_close}
use Rattle.inc_expand.specs.Carriers.{carriers}
use Rattle.inc_expand.proofs.CaseSteps.{through-front}
use Rattle.inc_expand.proofs.cases.header_end.Goals as goal

pub loop-at-init : goal.loop-at-init
loop-at-init c = λ s. refl

pub returns-then-is_spelled_at : goal.returns-then-is_spelled_at
returns-then-is_spelled_at c = λ s.
    let low : c.loop-at.at < length c.args.list.now = omega (arith, c.loop-at-test.true, c.len-end.ensures) in
    let one : through_close (carriers s (drop c.loop-at.at c.args.list.now)) ≡ 1 =
    through-front s c.args.list.now c.loop-at.at low ∙ cond-true _ _ _ (sym c.is_spelled_at.ensures ∙ c.if-is_spelled_at.true) in
    let so_far = c.loop-at.invariant s in
    omega (arith, one, so_far)

pub loop-at-preserved : goal.loop-at-preserved
loop-at-preserved c = λ s.
    let low : c.loop-at.at < length c.args.list.now = omega (arith, c.loop-at-test.true, c.len-end.ensures) in
    let next : suc c.loop-at.at ≡ c.loop-at.at + 1 = omega arith in
    let more : through_close (carriers s (drop c.loop-at.at c.args.list.now)) ≡ 1 + through_close (carriers s (drop (c.loop-at.at + 1) c.args.list.now)) =
    through-front s c.args.list.now c.loop-at.at low ∙ cond-false _ _ _ (sym c.is_spelled_at.ensures ∙ c.if-is_spelled_at.false)
    ∙ ap (λ (k : ℕ). 1 + through_close (carriers s (drop k c.args.list.now))) next in
    let so_far = c.loop-at.invariant s in
    omega (arith, more, so_far)
