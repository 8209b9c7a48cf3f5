use Rattle.std.proofs.Common.{◌≤◌, ◌||◌, nat_eq, sym, ap, arith}
use Rattle.std.proofs.lemmas.Result.{IfOk-weaker}
use Rattle.inc_expand.proofs.Depths.{deeper-set, has-full, gives-full, below-power}
use Rattle.inc_expand.proofs.shared_sets.with.Goals as goal

pub with_at-requires-clause-fits : goal.with_at-requires-clause-fits
with_at-requires-clause-fits c =
    below-power c.args.number c.bits_of.result c.max-depth.result (omega (arith, c.max-depth.ensures)) c.bits_of.ensures.fits

pub returns-clause-gives : goal.returns-clause-gives
returns-clause-gives c =
    let few : c.max-depth.result ≤ 32 = omega (arith, c.max-depth.ensures, c.depth_of.ensures.deep, c.bits_of.ensures.few) in
    let low : c.depth_of.result ≤ c.max-depth.result = omega (arith, c.max-depth.ensures) in
    IfOk-weaker c.with_at.result _ _
    (λ n gives. gives-full c.with_at.ensures.grows.table _ _ c.max-depth.result n few
    (λ k. ap (λ b. b || nat_eq k c.args.number)
    (sym (has-full c.requires.table c.max-depth.result c.args.set k few (deeper-set _ _ _ low c.depth_of.ensures.set))))
    gives)
    c.with_at.ensures.gives
