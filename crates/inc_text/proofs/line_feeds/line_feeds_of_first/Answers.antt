use Rattle.std.proofs.Common.{◌%◌, eqb, ap, ap₂, ◌∙◌, arith}
use Rattle.std.proofs.lemmas.Nat.{one_shl}
use Rattle.std.specs.Int.RustNames.{count_ones}
use Rattle.inc_text.proofs.LineFeedLemmas.{ones_of_first}
use Rattle.inc_text.proofs.line_feeds.line_feeds_of_first.Goals as goal

pub returns : goal.returns
returns c =
    ap count_ones (ap₂ (λ m k. m % k) c.line_feed_bits.ensures (one_shl c.args.len 64 (omega (arith, c.requires))))
    ∙ ones_of_first (λ b. eqb b 10) c.args.len c.args.v
