use Rattle.std.proofs.Common.{sym}
use Rattle.inc_text.proofs.CursorLemmas.{bytes_of-cells, length-cells_at}
use Rattle.inc_text.proofs.phases.Text.bytes.Goals as goal

pub returns-clause-bytes : goal.returns-clause-bytes
returns-clause-bytes c = rw (← c.self.view_is, c.deref.ensures.value) (sym (bytes_of-cells _ _ 0 0 _))

pub returns-clause-len : goal.returns-clause-len
returns-clause-len c = rw (← c.self.view_is, c.deref.ensures.value) (sym (length-cells_at _ _ 0 0 _))

pub returns-clause-short : goal.returns-clause-short
returns-clause-short c = rw (← c.self.view_is, length-cells_at) c.self.invariant.parts.short
