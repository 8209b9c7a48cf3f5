use Rattle.std.proofs.Common.{ap, subst, eqb-true, eq-eqb}
use Rattle.inc_expand.specs.Sets.{holds, IsSound}
use Rattle.inc_expand.proofs.Tables.{same-set}
use Rattle.inc_expand.proofs.hide_sets.HideSets.same.Goals as goal

pub returns-clause-sets : goal.returns-clause-sets
returns-clause-sets c = (
  λ h n. ap (λ m. holds c.args.self.now m n) (eqb-true c.args.a c.args.b h),
  λ h. eq-eqb _ _ (same-set c.args.self.now c.args.a c.args.b (subst IsSound c.self.view_is c.self.invariant.0) c.requires.a c.requires.b h),
)
