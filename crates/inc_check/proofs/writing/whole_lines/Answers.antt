use Rattle.std.proofs.Common.{sym, arith}
use Rattle.inc_check.proofs.ReturnLemmas.{no_return}
use Rattle.inc_check.proofs.writing.whole_lines.Goals as goal

pub ended_lines-requires : goal.ended_lines-requires
ended_lines-requires c =
    let none = rw c.deref.ensures.value at c.in-None.ensures in
    sym (no_return c.args.text.items (λ k low is. none k (omega arith) low is))
