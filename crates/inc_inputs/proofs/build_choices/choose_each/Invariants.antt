use Rattle.std.proofs.Common.{◌≡◌, ◌≤◌, ◌-◌, drop, length, map}
use Rattle.inc_inputs.specs.BuildProjects.{none_chosen, with_each}
use Rattle.inc_inputs.specs.Views.{chosen_in, ground_in}
use Rattle.inc_inputs.proofs.build_choices.choose_each.Given as goal

-- the choice so far becomes that of all words with the rest
abbrev pub invariant-loop-at : goal.invariant-loop-at
invariant-loop-at l =
    (l.at ≤ length l.words.sources.items)
    × (with_each (ground_in l.ground) l.files l.words.has_globs (map (λ s. s.now) (drop l.at l.words.sources.items)) (chosen_in l.choice)
    ≡ with_each (ground_in l.ground) l.files l.words.has_globs (map (λ s. s.now) l.words.sources.items) none_chosen)

abbrev pub decreases-loop-at : goal.decreases-loop-at
decreases-loop-at l = length l.words.sources.items - l.at
