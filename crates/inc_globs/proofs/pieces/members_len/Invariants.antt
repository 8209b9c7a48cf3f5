use Rattle.std.proofs.Common.{◌≡◌, ◌+◌, ◌-◌, ◌≤◌, length, drop, option_map}
use Rattle.inc_globs.specs.Globs.{len_to_bracket, members_len}
use Rattle.inc_globs.proofs.pieces.members_len.Given as goal

-- the end is after these, if there is one. The text may be empty
abbrev pub invariant-loop-at : goal.invariant-loop-at
invariant-loop-at l = (1 ≤ l.at) × (members_len l.text ≡ option_map (λ n. l.at + n) (len_to_bracket (drop l.at l.text)))

abbrev pub decreases-loop-at : goal.decreases-loop-at
decreases-loop-at l = length l.text - l.at
