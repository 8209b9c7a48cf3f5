use Rattle.std.proofs.Common.{sym, ◌∙◌}
use Rattle.inc_pp.proofs.DecimalSteps.{refused-at}
use Rattle.inc_pp.proofs.line_numbers.decimal.Goals as goal

pub returns-in_err-number : goal.returns-in_err-number
returns-in_err-number c =
    c.from_residual.ensures
    ∙ sym (refused-at c.args.most c.args.text.now c.loop-byte.byte-index c.loop-byte.number c.loop-byte-test.true c.loop-byte.invariant.1 (sym c.with_digit.ensures ∙ c.in_err-number.was))
