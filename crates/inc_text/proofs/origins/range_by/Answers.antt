use Rattle.std.proofs.Common.{arith}
use Rattle.inc_text.proofs.CursorLemmas.{origin_ranges}
use Rattle.inc_text.proofs.origins.range_by.Goals as goal
use Rattle.inc_text.proofs.origins.range_by.Goals.{then-place-origin, else-place-origin}

pub overflow_add-last : goal.overflow_add-last
overflow_add-last c =
    let ranges = origin_ranges _ _ _ c.origin_at-origin.ensures c.requires.fits in
    omega (arith, ranges.ahead)

pub overflow_sub-result : goal.overflow_sub-result
overflow_sub-result c =
    let ranges = origin_ranges _ _ _ c.origin_at-origin.ensures c.requires.fits in
    elim c.if-place-origin.branch [
      | then-place-origin w ↦ omega (arith, ranges.here)
      | else-place-origin w ↦ omega (arith, ranges.behind)
    ]
