use Rattle.std.proofs.Common.{ℕ, bit_or, refl, arith}
use Rattle.std.proofs.lemmas.Simd.{zip2_splat}
use Rattle.inc_token.specs.Skipping.{is_stop}
use Rattle.inc_token.proofs.Vectors.{joined, masked}
use Rattle.inc_token.proofs.pieces.skipping.stops.Goals as goal

pub returns : goal.returns
returns c =
    let v = c.args.v in
    let long = c.fits-v.0 in
    let quotes = joined bit_or _ _ v (joined bit_or _ _ v (zip2_splat {Y = ℕ} _ v 16 10 long) (zip2_splat {Y = ℕ} _ v 16 34 long)) (zip2_splat {Y = ℕ} _ v 16 39 long) in
    masked _ is_stop v _ (omega arith) c.fits-v.1 (joined bit_or _ _ v quotes (zip2_splat {Y = ℕ} _ v 16 47 long)) refl
