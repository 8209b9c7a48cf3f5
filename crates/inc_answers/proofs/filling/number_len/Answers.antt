use Rattle.std.proofs.Common.{◌≤◌, length, arith}
use Rattle.std.specs.Prelude.{decimal}
use Rattle.std.proofs.lemmas.Fmt.{length-decimal-le}
use Rattle.inc_answers.proofs.FillingLemmas.{length_by_fours}
use Rattle.inc_answers.proofs.filling.number_len.Goals as goal

pub overflow_add-passed : goal.overflow_add-passed
overflow_add-passed c =
    let few : length (decimal c.args.n) ≤ 20 = length-decimal-le 20 c.args.n (omega arith) (omega arith) (omega arith) in
    omega (arith, few, c.loop-left.invariant)

pub loop-left-preserved : goal.loop-left-preserved
loop-left-preserved c =
    let four = length_by_fours c.loop-left.left (omega (arith, c.loop-left-test.true)) (omega arith) in
    omega (arith, four, c.loop-left.invariant)

pub overflow_add-result : goal.overflow_add-result
overflow_add-result c =
    let few : length (decimal c.args.n) ≤ 20 = length-decimal-le 20 c.args.n (omega arith) (omega arith) (omega arith) in
    omega (arith, few, c.loop-left.invariant, c.short_len.ensures)

pub returns-clause-few : goal.returns-clause-few
returns-clause-few c =
    let few : length (decimal c.args.n) ≤ 20 = length-decimal-le 20 c.args.n (omega arith) (omega arith) (omega arith) in
    omega (arith, few, c.loop-left.invariant, c.short_len.ensures)
