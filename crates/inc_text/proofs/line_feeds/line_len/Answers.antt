use Rattle.std.proofs.Common.{◌==◌, refl, sym, ap, ◌∙◌, arith}
use lib.Count.{count_trailing_zeros}
use Rattle.inc_text.specs.Ascii.{line_feed}
use Rattle.inc_text.specs.LineFeeds.{is_inside}
use Rattle.inc_text.proofs.Vectors.{run_through, run_stops}
use Rattle.inc_text.proofs.line_feeds.line_len.Goals as goal

pub returns-then-line_feeds-ne0 : goal.returns-then-line_feeds-ne0
returns-then-line_feeds-ne0 c =
    let bits = c.line_feed_bits-line_feeds in
    let run = run_stops is_inside (λ b. b == line_feed) (λ x. refl) c.args.bytes.now c.loop-at.at 16 (omega arith) (omega arith) (omega (arith, bits.ensures)) ∙ ap (count_trailing_zeros 64) (sym bits.ensures) in
    omega (arith, run, c.loop-at.invariant.rest)

pub loop-at-preserved : goal.loop-at-preserved
loop-at-preserved c =
    let run = run_through is_inside (λ b. b == line_feed) (λ x. refl) c.args.bytes.now c.loop-at.at 16 (omega arith) (omega (arith, c.line_feed_bits-line_feeds.ensures)) in
    record { within = omega arith; rest = omega (arith, run, c.loop-at.invariant.rest) }
