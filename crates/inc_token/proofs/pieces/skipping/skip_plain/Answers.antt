use Rattle.std.proofs.Common.{refl, sym, ap, ◌∙◌, arith}
use lib.Count.{count_trailing_zeros}
use Rattle.inc_token.specs.Skipping.{is_stop, is_plain}
use Rattle.inc_token.proofs.Vectors.{run_through, run_stops}
use Rattle.inc_token.proofs.pieces.skipping.skip_plain.Goals as goal

pub returns-then-stops-ne0 : goal.returns-then-stops-ne0
returns-then-stops-ne0 c =
    let stops = c.stops-stops in
    let run = run_stops is_plain is_stop (λ x. refl) c.args.text.now c.loop-at.at 16 (omega arith) (omega arith) (omega (arith, stops.ensures)) ∙ ap (count_trailing_zeros 64) (sym stops.ensures) in
    omega (arith, run, c.loop-at.invariant.rest)

pub loop-at-preserved : goal.loop-at-preserved
loop-at-preserved c =
    let run = run_through is_plain is_stop (λ x. refl) c.args.text.now c.loop-at.at 16 (omega arith) (omega (arith, c.stops-stops.ensures)) in
    record { within = omega arith; rest = omega (arith, run, c.loop-at.invariant.rest) }
