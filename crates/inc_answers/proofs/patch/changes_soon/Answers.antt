use Rattle.std.proofs.Common.{◌≡◌, ◌+◌, ◌-◌, suc, take, sym, ap, ◌∙◌, arith}
use Rattle.std.specs.List.{list_any}
use Rattle.inc_answers.specs.PatchText.{context, is_changed}
use Rattle.inc_answers.proofs.PatchLemmas.{soon_past}
use Rattle.inc_answers.proofs.patch.changes_soon.Goals as goal

pub loop-preserved : goal.loop-preserved
loop-preserved c =
    let n = context + 1 - (c.loop.counter + 1) in
    let k = context + 1 - c.loop.counter in
    let more : k ≡ suc n = omega (arith, c.loop-test.true) in
    sym (soon_past k n c.in-Some.row c.next.new.self more (sym c.is_changed.ensures ∙ c.if-is_changed.false))
    ∙ ap (λ rs. list_any is_changed (take k rs)) (sym c.in-Some.ensures.next)
    ∙ c.loop.invariant
