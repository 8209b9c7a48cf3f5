use Rattle.std.proofs.Common.{◌==◌, refl, sym, ap, ◌∙◌, arith}
use lib.Count.{count_trailing_zeros}
use Rattle.inc_check.specs.Reading.{is_in_line}
use Rattle.inc_token.proofs.Vectors.{run_through, run_stops}
use Rattle.inc_check.proofs.lines.line_end.Goals as goal

pub returns-then-ends-ne0 : goal.returns-then-ends-ne0
returns-then-ends-ne0 c =
    let ends = c.line_feeds-ends in
    let run = run_stops is_in_line (λ b. b == 10) (λ x. refl) c.args.text.now c.loop-at.at 16 (omega arith) (omega arith) (omega (arith, ends.ensures)) ∙ ap (count_trailing_zeros 64) (sym ends.ensures) in
    omega (arith, run, c.loop-at.invariant.rest)

pub loop-at-preserved : goal.loop-at-preserved
loop-at-preserved c =
    let run = run_through is_in_line (λ b. b == 10) (λ x. refl) c.args.text.now c.loop-at.at 16 (omega arith) (omega (arith, c.line_feeds-ends.ensures)) in
    record { within = omega arith; rest = omega (arith, run, c.loop-at.invariant.rest) }
