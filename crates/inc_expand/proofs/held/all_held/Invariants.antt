use Rattle.std.proofs.Common.{◌≡◌, ◌++◌, length, map}
use Rattle.inc_expand.specs.Carriers.{carriers, AreKnown}
use Rattle.inc_expand.specs.HeldTokens.{seen_held}
use Rattle.inc_expand.specs.Openings.{held}
use Rattle.inc_expand.specs.Sets.{size}
use Rattle.inc_expand.proofs.held.all_held.Given as goal

abbrev pub invariant-loop-token : goal.invariant-loop-token
invariant-loop-token l = AreKnown (size l.sets) l.list × (map seen_held l.all.items ++ map held (carriers l.sets l.list) ≡ map held (carriers l.sets l.fn.list))

abbrev pub decreases-loop-token : goal.decreases-loop-token
decreases-loop-token l = length l.list
