use Rattle.std.proofs.Common.{◌≡◌, length, map}
use Rattle.inc_expand.specs.HeldTokens.{seen_held}
use Rattle.inc_pp.specs.OpenCalls as spec
use Rattle.inc_pp.proofs.open_calls.open_behind_held.Given as goal

abbrev pub invariant-loop-left : goal.invariant-loop-left
invariant-loop-left l = spec.open_behind l.after (spec.held_spellings (map seen_held l.left)) ≡ spec.open_behind 1 (spec.held_spellings (map seen_held l.tokens))

abbrev pub decreases-loop-left : goal.decreases-loop-left
decreases-loop-left l = length l.left
