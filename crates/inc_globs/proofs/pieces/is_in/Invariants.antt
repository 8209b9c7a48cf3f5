use Rattle.std.proofs.Common.{◌≡◌, ◌-◌, length, drop}
use Rattle.inc_globs.specs.Globs.{is_in}
use Rattle.inc_globs.proofs.pieces.is_in.Given as goal

-- the rest decides
abbrev pub invariant-loop-at : goal.invariant-loop-at
invariant-loop-at l = is_in (drop l.at l.members) l.byte ≡ is_in l.members l.byte

abbrev pub decreases-loop-at : goal.decreases-loop-at
decreases-loop-at l = length l.members - l.at
