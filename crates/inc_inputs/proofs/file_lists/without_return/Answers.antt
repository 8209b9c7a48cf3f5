use Rattle.std.proofs.Common.{◌≡◌, ◌<◌, length, sym, rules, arith}
use Rattle.std.proofs.lemmas.Bool.{eqb-true}
use Rattle.inc_inputs.proofs.ListLemmas.{return_dropped, no_return}
use Rattle.inc_inputs.proofs.file_lists.without_return.Goals as goal
use Rattle.inc_inputs.proofs.file_lists.without_return.Goals.{else-not-is_empty-via-then-not-is_empty+else-line-eq13, else-not-is_empty-via-else-not-is_empty}

pub returns-then-line-eq13 : goal.returns-then-line-eq13
returns-then-line-eq13 c =
    let some : 0 < length c.args.line.now = search rules in
    return_dropped c.args.line.now some c.if-line-eq13.true

pub returns-else-not-is_empty : goal.returns-else-not-is_empty
returns-else-not-is_empty c = no_return c.args.line.now (λ some. elim c.else-not-is_empty.branch [
  | else-not-is_empty-via-then-not-is_empty+else-line-eq13 w ↦ w.if-line-eq13.false
  | else-not-is_empty-via-else-not-is_empty w ↦ let none : length c.args.line.now ≡ 0 = eqb-true _ 0 (sym w.if-not-is_empty.ensures) in absurd (omega (arith, some, none))
])
