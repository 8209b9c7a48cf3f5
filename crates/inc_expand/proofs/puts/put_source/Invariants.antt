use Rattle.std.proofs.Common.{◌<◌, ◌≤◌, length, map, drop}
use Rattle.inc_expand.specs.Carriers.{carried_of, AreKnown}
use Rattle.inc_expand.specs.declared.rules.Rule.{Rule}
use Rattle.inc_expand.specs.Puts.{IsPut}
use Rattle.inc_expand.specs.Sets.{Sets, size}
use Rattle.inc_expand.proofs.puts.put_source.Given as goal

abbrev pub invariant-loop-i : goal.invariant-loop-i
invariant-loop-i l =
    (l.i ≤ length l.tokens)
    × ((rule : Rule) (sets : Sets) → l.names < size sets → AreKnown (size sets) l.fn.list → IsPut rule sets sets l.line l.names
    (drop l.i (map carried_of l.tokens)) l.fn.list l.list)

abbrev pub decreases-loop-i : goal.decreases-loop-i
decreases-loop-i l = l.i
