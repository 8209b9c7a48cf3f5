use Rattle.std.proofs.Common.{ℕ, ◌==◌, refl, arith}
use Rattle.std.proofs.lemmas.Simd.{zip2_splat}
use Rattle.inc_token.proofs.Vectors.{masked}
use Rattle.inc_check.proofs.lines.line_feeds.Goals as goal

pub returns : goal.returns
returns c =
    let v = c.args.v in masked _ (λ b. b == 10) v _ (omega arith) c.fits-v.1 (zip2_splat {Y = ℕ} _ v 16 10 c.fits-v.0) refl
