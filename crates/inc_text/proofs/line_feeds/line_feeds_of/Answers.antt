use Rattle.std.proofs.Common.{eqb, ap, ◌∙◌}
use Rattle.std.proofs.lemmas.Simd.{ones-mask_l}
use Rattle.std.specs.Int.RustNames.{count_ones}
use Rattle.inc_text.proofs.line_feeds.line_feeds_of.Goals as goal

pub returns : goal.returns
returns c = ap count_ones c.line_feed_bits.ensures ∙ ones-mask_l (λ b. eqb b 10) c.args.v
