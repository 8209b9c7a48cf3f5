-- Sets that are read from less than the full depth.
use Rattle.std.proofs.Common.{◌≡◌, ℕ, ◌<◌, ◌≤◌, Bool, List, ◌∙◌, arith, ◌^◌}
use Rattle.std.proofs.Math.Nat.{pow-le-pow_right}
use Rattle.inc_expand.specs.declared.shared_sets.Node.{Node}
use Rattle.inc_expand.specs.Nodes.{has, IsSet, IsTable, Gives}
use Rattle.inc_expand.specs.Sets.{full_depth}
use Rattle.inc_expand.proofs.Sets.{raise}
use Rattle.inc_expand.proofs.NameNumbers.{full-is}

-- a set is seen from a greater depth
pub deeper-set : {t : List Node} (d e n : ℕ) → d ≤ e → IsSet t d n → IsSet t e n
deeper-set d e n le s = record { known = s.known; depth = let deep = s.depth in omega (arith, le, deep) }

-- and has the same numbers
pub has-full : {t : List Node} → IsTable t → (d n k : ℕ) → d ≤ 32 → IsSet t d n → has t full_depth n k ≡ has t d n k
has-full table d n k le s = raise table d full_depth n k (omega (arith, le, full-is)) s

-- what a set gives at some depth it gives at the full one
pub gives-full : {t : List Node} → IsTable t → (test more : ℕ → Bool) (d n : ℕ) → d ≤ 32 → ((k : ℕ) → test k ≡ more k) →
    Gives test t d n → Gives more t full_depth n
gives-full table test more d n le same gives = record {
  set = deeper-set d full_depth n (omega (arith, le, full-is)) gives.set;
  members = λ k. has-full table d n k le gives.set ∙ gives.members k ∙ same k;
}

-- a number below a power is below each greater one
pub below-power : (k d e : ℕ) → d ≤ e → k < 2 ^ d → k < 2 ^ e
below-power k d e le l = let more : 2 ^ d ≤ 2 ^ e = pow-le-pow_right {n = 2} (omega arith) {i = d} {j = e} le in omega (arith, l, more)
