use Rattle.std.proofs.Common.{◌==◌, refl, sym, ap, ◌∙◌, arith}
use lib.Count.{count_trailing_zeros}
use Rattle.inc_check.specs.Reading.{is_in_word}
use Rattle.inc_token.proofs.Vectors.{run_through, run_stops}
use Rattle.inc_check.proofs.lines.word_end.Goals as goal

pub returns-then-blanks-ne0 : goal.returns-then-blanks-ne0
returns-then-blanks-ne0 c =
    let blanks = c.blanks-blanks in
    let run = run_stops is_in_word (λ b. b == 32) (λ x. refl) c.args.text.now c.loop-at.at 16 (omega arith) (omega arith) (omega (arith, blanks.ensures)) ∙ ap (count_trailing_zeros 64) (sym blanks.ensures) in
    omega (arith, run, c.loop-at.invariant.rest)

pub loop-at-preserved : goal.loop-at-preserved
loop-at-preserved c =
    let run = run_through is_in_word (λ b. b == 32) (λ x. refl) c.args.text.now c.loop-at.at 16 (omega arith) (omega (arith, c.blanks-blanks.ensures)) in
    record { within = omega arith; rest = omega (arith, run, c.loop-at.invariant.rest) }
