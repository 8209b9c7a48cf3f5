use Rattle.std.proofs.Common.{◌≡◌, ◌++◌, ◌≤◌, drop, length, map}
use Rattle.inc_expand.specs.Carriers.{carriers, AreKnown}
use Rattle.inc_expand.specs.HeldTokens.{seen_ref}
use Rattle.inc_expand.specs.Openings.{of_held}
use Rattle.inc_expand.specs.Sets.{size}
use Rattle.inc_expand.proofs.held.push_all_held.Given as goal

abbrev pub invariant-loop-at : goal.invariant-loop-at
invariant-loop-at l =
    AreKnown (size l.sets) l.list × (l.at ≤ length l.tokens)
    × (carriers l.sets l.list ≡ map of_held (map seen_ref (drop l.at l.tokens)) ++ carriers l.fn.sets l.fn.list)

abbrev pub decreases-loop-at : goal.decreases-loop-at
decreases-loop-at l = l.at
