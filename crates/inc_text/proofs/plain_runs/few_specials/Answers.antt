use Rattle.std.proofs.Common.{ℕ, bit_or, refl, arith}
use Rattle.std.proofs.lemmas.Simd.{zip2_splat}
use Rattle.inc_text.specs.Origins.{is_special}
use Rattle.inc_text.proofs.Vectors.{joined, masked}
use Rattle.inc_text.proofs.plain_runs.few_specials.Goals as goal

pub returns : goal.returns
returns c =
    let v = c.args.v in
    let long = c.fits-v.0 in
    let ends = joined bit_or _ _ v (zip2_splat {Y = ℕ} _ v 16 13 long) (zip2_splat {Y = ℕ} _ v 16 63 long) in
    masked _ is_special v _ (omega arith) c.fits-v.1 (joined bit_or _ _ v ends (zip2_splat {Y = ℕ} _ v 16 92 long)) refl
