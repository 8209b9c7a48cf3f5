use Rattle.std.proofs.Common.{◌==◌, refl, sym, ap, ◌∙◌, arith}
use lib.Count.{count_trailing_zeros}
use Rattle.inc_text.proofs.Vectors.{run_through, run_stops}
use Rattle.inc_inputs.specs.Lists.{is_inside}
use Rattle.inc_inputs.proofs.file_lists.end_of.Goals as goal

pub returns-then-ends-ne0 : goal.returns-then-ends-ne0
returns-then-ends-ne0 c =
    let end = c.args.end in
    let ends = c.ends-ends in
    let run = run_stops (is_inside end) (λ b. b == end) (λ x. refl) c.args.text.now c.loop-at.at 16 (omega arith) (omega arith) (omega (arith, ends.ensures)) ∙ ap (count_trailing_zeros 64) (sym ends.ensures) in
    omega (arith, run, c.loop-at.invariant.rest)

pub loop-at-preserved : goal.loop-at-preserved
loop-at-preserved c =
    let end = c.args.end in
    let run = run_through (is_inside end) (λ b. b == end) (λ x. refl) c.args.text.now c.loop-at.at 16 (omega arith) (omega (arith, c.ends-ends.ensures)) in
    record { within = omega arith; rest = omega (arith, run, c.loop-at.invariant.rest) }
