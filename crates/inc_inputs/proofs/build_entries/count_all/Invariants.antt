use Rattle.std.proofs.Common.{◌≡◌, ◌≤◌, ◌-◌, drop, length}
use Rattle.inc_inputs.specs.BuildProjects.{with_counts}
use Rattle.inc_inputs.proofs.build_entries.count_all.Given as goal

-- the counts so far become those of all options with the rest
abbrev pub invariant-loop-at : goal.invariant-loop-at
invariant-loop-at l =
    (l.at ≤ length l.words) × (with_counts l.counts.entries (drop l.at l.words) ≡ with_counts l.initial.counts.entries l.words)

abbrev pub decreases-loop-at : goal.decreases-loop-at
decreases-loop-at l = length l.words - l.at
