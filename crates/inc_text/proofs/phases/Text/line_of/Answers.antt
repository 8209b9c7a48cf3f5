use Rattle.std.proofs.Common.{◌≡◌, ◌+◌, Some, ap, ◌∙◌, sym, arith}
use Rattle.inc_text.proofs.CursorLemmas.{line_read, splices_upto-passed, place_short, place_inside}
use Rattle.inc_text.proofs.phases.Text.line_of.Goals as goal

pub overflow_cast-at : goal.overflow_cast-at
overflow_cast-at c = omega (arith, place_short _ _ _ _ _ c.self.view_is c.requires c.self.invariant.parts.short)

pub returns : goal.returns
returns c =
    let splices = splices_upto-passed _ _ _ c.splices_to-splices.ensures in
    let before = rw c.deref-2.ensures.value at c.line_feeds_before-line_feeds.ensures in
    line_read _ _ _ _ _ _ _ c.self.view_is c.requires (sym before) (rw c.deref.ensures.value at splices)
    ∙ (let e : 1 + (c.line_feeds_before-line_feeds.result + c.splices_to-splices.result) ≡ 1 + c.line_feeds_before-line_feeds.result + c.splices_to-splices.result = omega arith in ap (λ n. Some n) e)

pub line_feeds_before-line_feeds-requires-clause-within : goal.line_feeds_before-line_feeds-requires-clause-within
line_feeds_before-line_feeds-requires-clause-within c =
    rw c.deref-2.ensures.value (omega (arith, place_inside _ _ _ _ _ c.self.view_is c.requires))
