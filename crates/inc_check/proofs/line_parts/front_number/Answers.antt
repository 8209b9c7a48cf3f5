use Rattle.std.proofs.Common.{arith}
use Rattle.inc_check.proofs.DigitLemmas.{front_is}
use Rattle.inc_check.proofs.line_parts.front_number.Goals as goal

pub returns-then-text-number-eq32 : goal.returns-then-text-number-eq32
returns-then-text-number-eq32 c =
    let most = c.front_digits-number.ensures.most in
    front_is c.args.text.now c.args.end c.front_digits-number.result.digits c.front_digits-number.result.value c.requires (omega (arith, most, c.few_of-most.ensures.within)) (omega (arith, most, c.few_of-most.ensures.few))
    c.front_digits-number.ensures.digits c.front_digits-number.ensures.value (omega arith) c.if-text-eq48.false c.if-text-number-eq32.true
