use Rattle.std.proofs.Common.{take, get_or, sym, ◌∙◌, arith}
use Rattle.std.specs.Char.{digit_value}
use Rattle.std.specs.Str.Parse.{digits_value}
use Rattle.std.proofs.lemmas.Int.Digits.{digits_more, digits_value_more}
use Rattle.inc_check.proofs.DigitLemmas.{digit_is, few_low, more_value}
use Rattle.inc_check.proofs.line_parts.front_digits.Goals as goal

pub overflow_mul-value : goal.overflow_mul-value
overflow_mul-value c =
    let low = few_low c.args.text.now c.loop-digits.digits c.loop-digits.invariant.digits (omega (arith, c.loop-digits-test.true, c.requires.few)) (omega (arith, c.loop-digits-test.true, c.requires.within)) in
    let is = c.loop-digits.invariant.value in omega arith

pub overflow_add-value : goal.overflow_add-value
overflow_add-value c =
    let low = few_low c.args.text.now c.loop-digits.digits c.loop-digits.invariant.digits (omega (arith, c.loop-digits-test.true, c.requires.few)) (omega (arith, c.loop-digits-test.true, c.requires.within)) in
    let is = c.loop-digits.invariant.value in
    let more = c.from.ensures in
    let digit = digit_is c.args.text.now c.loop-digits.digits (sym c.is_ascii_digit.ensures.value ∙ c.if-is_ascii_digit.true) in omega arith

pub loop-digits-preserved : goal.loop-digits-preserved
loop-digits-preserved c =
    let text = c.args.text.now in
    let at = c.loop-digits.digits in
    let digit = digit_is c.args.text.now c.loop-digits.digits (sym c.is_ascii_digit.ensures.value ∙ c.if-is_ascii_digit.true) in record {
      few = omega (arith, c.loop-digits-test.true);
      digits = digits_more 10 text at (omega (arith, c.loop-digits-test.true, c.requires.within)) c.loop-digits.invariant.digits digit.1;
      value = rw (digits_value_more 10 text at (omega (arith, c.loop-digits-test.true, c.requires.within)))
          (more_value c.loop-digits.value (digits_value 10 (take at text)) (digit_value (get_or text at 0)) (get_or text at 0) c.from.result c.loop-digits.invariant.value digit.0 c.from.ensures);
    }
