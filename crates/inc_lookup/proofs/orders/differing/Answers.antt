use Rattle.std.proofs.Common.{◌%◌, ◌^◌, ap, sym, ◌∙◌, arith, w8}
use Rattle.std.proofs.lemmas.Simd.{length-zip2, mask_l-mod, tops_compared}
use lib.Lanes.{mask_l, zip2}
use Rattle.inc_lookup.proofs.OrderLemmas.{differs}
use Rattle.inc_lookup.proofs.orders.differing.Goals as goal

pub returns : goal.returns
returns c =
    let v = c.args.v in
    let w = c.args.w in
    let size = length-zip2 differs v w (c.fits-v.0 ∙ sym c.fits-w.0) ∙ c.fits-v.0 in
    ap (λ l. mask_l l % 2 ^ 64) (tops_compared w8 differs v w) ∙ mask_l-mod (zip2 differs v w) 64 (omega (arith, size))
