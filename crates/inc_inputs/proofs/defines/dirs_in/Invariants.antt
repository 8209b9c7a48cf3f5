use Rattle.std.proofs.Common.{◌≡◌, ◌++◌, length, map}
use Rattle.std.specs.Prelude.{filter_map}
use Rattle.inc_inputs.specs.Defines.{dir_in}
use Rattle.inc_inputs.proofs.defines.dirs_in.Given as goal

-- the directories so far, and those of the lines that are left, are all
abbrev pub invariant-loop-left : goal.invariant-loop-left
invariant-loop-left l = map (λ d. d.now) l.dirs.items ++ filter_map dir_in (map (λ x. x.now) l.left) ≡ filter_map dir_in (map (λ x. x.now) l.fn.lines)

abbrev pub decreases-loop-left : goal.decreases-loop-left
decreases-loop-left l = length l.left
