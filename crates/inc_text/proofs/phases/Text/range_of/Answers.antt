use Rattle.std.proofs.Common.{arith}
use Rattle.inc_text.proofs.CursorLemmas.{range_read, place_short}
use Rattle.inc_text.proofs.phases.Text.range_of.Goals as goal

pub overflow_cast-place : goal.overflow_cast-place
overflow_cast-place c = omega (arith, place_short _ _ _ _ _ c.self.view_is c.requires c.self.invariant.parts.short)

pub range_by-requires-clause-short : goal.range_by-requires-clause-short
range_by-requires-clause-short c = omega (arith, place_short _ _ _ _ _ c.self.view_is c.requires c.self.invariant.parts.short)

pub returns : goal.returns
returns c =
    let first = rw c.deref.ensures.value at c.range_by.ensures.first in
    let last = rw c.deref.ensures.value at c.range_by.ensures.last in
    range_read _ _ _ _ _ _ _ c.self.view_is c.requires first last
