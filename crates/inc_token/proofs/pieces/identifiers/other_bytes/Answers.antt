use Rattle.std.proofs.Common.{ℕ, leb, cond, bit_and, refl, arith}
use Rattle.std.proofs.lemmas.Simd.{zip2_splat}
use Rattle.inc_token.specs.Scanning.{is_other_byte}
use Rattle.inc_token.proofs.Vectors.{joined, one_byte, masked}
use Rattle.inc_token.proofs.pieces.identifiers.other_bytes.Goals as goal

pub returns : goal.returns
returns c =
    let v = c.args.v in
    let long = c.fits-v.0 in
    let letters = joined (λ a b. cond (leb a b) 255 0) _ _ v (one_byte v 16 26 long) (joined _ _ _ v (zip2_splat {Y = ℕ} _ v 16 32 long) (one_byte v 16 97 long)) in
    let digits = joined (λ a b. cond (leb a b) 255 0) _ _ v (one_byte v 16 10 long) (zip2_splat {Y = ℕ} _ v 16 48 long) in
    masked _ is_other_byte v _ (omega arith) c.fits-v.1
    (joined bit_and _ _ v (joined bit_and _ _ v (joined bit_and _ _ v letters digits) (zip2_splat {Y = ℕ} _ v 16 95 long)) (zip2_splat {Y = ℕ} _ v 16 128 long)) refl
