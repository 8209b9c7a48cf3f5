use Rattle.std.proofs.Common.{◌≡◌, ◌≤◌, map, drop, length}
use Rattle.inc_inputs.specs.BuildMacros.{kept_in, undefined_in}
use Rattle.inc_inputs.specs.Views.{macro_of}
use Rattle.inc_inputs.proofs.build_macros.kept_of.Given as goal

-- what is left of the words from this one on is known
abbrev pub invariant-loop-at : goal.invariant-loop-at
invariant-loop-at l =
    (l.at ≤ length l.macros) × (l.undefined.keys ≡ undefined_in (map macro_of (drop l.at l.macros)))
    × (map (λ w. w.now) l.words.items ≡ kept_in (map macro_of (drop l.at l.macros)))

abbrev pub decreases-loop-at : goal.decreases-loop-at
decreases-loop-at l = l.at
