use Rattle.std.proofs.Common.{◌≡◌, ◌++◌, map, length}
use Rattle.inc_lookup.specs.IncludePath.{dirs_after, known_after}
use Rattle.inc_lookup.proofs.include_path.new_dirs.Given as goal

-- the directories so far, and those of the words that are left, are all
abbrev pub invariant-loop-left : goal.invariant-loop-left
invariant-loop-left l =
    (l.dirs.items ++ dirs_after l.is_system l.known (map (λ w. w.now) l.left) ≡ dirs_after l.fn.is_system l.fn.known (map (λ w. w.now) l.fn.words))
    × (known_after l.known (map (λ w. w.now) l.left) ≡ known_after l.fn.known (map (λ w. w.now) l.fn.words))

abbrev pub decreases-loop-left : goal.decreases-loop-left
decreases-loop-left l = length l.left
