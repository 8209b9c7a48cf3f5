use Rattle.std.proofs.Common.{sym, ap, ◌∙◌, arith}
use lib.Count.{count_trailing_zeros}
use Rattle.inc_token.specs.Scanning.{is_row_byte, is_other_byte}
use Rattle.inc_token.proofs.Vectors.{run_through, run_stops, twice}
use Rattle.inc_token.proofs.pieces.identifiers.skip_parts.Goals as goal

pub returns-then-others-ne0 : goal.returns-then-others-ne0
returns-then-others-ne0 c =
    let others = c.other_bytes-others in
    let run = run_stops is_row_byte is_other_byte (λ x. twice (is_row_byte x)) c.args.text.now c.loop-at.at 16 (omega arith) (omega arith) (omega (arith, others.ensures)) ∙ ap (count_trailing_zeros 64) (sym others.ensures) in
    omega (arith, run, c.loop-at.invariant.rest)

pub loop-at-preserved : goal.loop-at-preserved
loop-at-preserved c =
    let run = run_through is_row_byte is_other_byte (λ x. twice (is_row_byte x)) c.args.text.now c.loop-at.at 16 (omega arith) (omega (arith, c.other_bytes-others.ensures)) in
    record { within = omega arith; rest = omega (arith, run, c.loop-at.invariant.rest) }
