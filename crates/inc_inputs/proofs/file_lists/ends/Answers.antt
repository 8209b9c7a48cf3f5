use Rattle.std.proofs.Common.{eqb, arith, w8}
use Rattle.std.proofs.lemmas.Simd.{bitmask_splat}
use Rattle.inc_inputs.proofs.file_lists.ends.Goals as goal

pub returns : goal.returns
returns c = bitmask_splat w8 eqb c.args.v 16 c.args.end c.fits-v.0 (omega arith)
