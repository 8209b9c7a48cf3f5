use Rattle.std.proofs.Common.{◌≡◌, ◌+◌, ◌≤◌, length}
use Rattle.inc_cond.specs.GnuCharacters.{int_from}
use Rattle.inc_cond.proofs.characters.int_in.Given as goal

-- what the rest comes to after the codes so far, of which there are no more than bytes
abbrev pub invariant-loop-left : goal.invariant-loop-left
invariant-loop-left l = (l.count + length l.left ≤ length l.text) × (int_from l.count l.value 0 l.left ≡ int_from 0 0 0 l.text)

abbrev pub decreases-loop-left : goal.decreases-loop-left
decreases-loop-left l = length l.left
