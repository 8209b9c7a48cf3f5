use Rattle.std.proofs.Common.{◌≡◌, ◌-◌, ◌≤◌, ◌++◌, length, map, drop, option_map}
use Rattle.inc_globs.specs.Globs.{pieces, pieces_from}
use Rattle.inc_globs.specs.Views.{seen_piece}
use Rattle.inc_globs.proofs.globs.Glob.new.Given as goal

-- the pieces so far and those of the rest are all
abbrev pub invariant-loop-at : goal.invariant-loop-at
invariant-loop-at l = (l.at ≤ length l.pattern) × (option_map (λ ps. map seen_piece l.pieces.items ++ ps) (pieces_from 0 l.first (drop l.at l.pattern)) ≡ pieces l.pattern)

abbrev pub decreases-loop-at : goal.decreases-loop-at
decreases-loop-at l = length l.pattern - l.at
