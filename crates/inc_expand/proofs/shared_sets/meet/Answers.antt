use Rattle.std.proofs.Common.{◌≤◌, Bool, ◌&&◌, sym, ap₂, arith}
use Rattle.std.proofs.lemmas.Result.{IfOk-weaker}
use Rattle.inc_expand.proofs.Depths.{deeper-set, has-full, gives-full}
use Rattle.inc_expand.proofs.shared_sets.meet.Goals as goal

pub returns-clause-gives : goal.returns-clause-gives
returns-clause-gives c =
    let few : c.max-depth.result ≤ 32 = omega (arith, c.max-depth.ensures, c.depth_of.ensures.deep, c.depth_of-2.ensures.deep) in
    let a_low : c.depth_of.result ≤ c.max-depth.result = omega (arith, c.max-depth.ensures) in
    let b_low : c.depth_of-2.result ≤ c.max-depth.result = omega (arith, c.max-depth.ensures) in
    IfOk-weaker c.meet_at.result _ _
    (λ n gives. gives-full c.meet_at.ensures.grows.table _ _ c.max-depth.result n few
    (λ k. ap₂ (λ (x y : Bool). x && y)
    (sym (has-full c.requires.table c.max-depth.result c.args.a k few (deeper-set _ _ _ a_low c.depth_of.ensures.set)))
    (sym (has-full c.requires.table c.max-depth.result c.args.b k few (deeper-set _ _ _ b_low c.depth_of-2.ensures.set))))
    gives)
    c.meet_at.ensures.gives
