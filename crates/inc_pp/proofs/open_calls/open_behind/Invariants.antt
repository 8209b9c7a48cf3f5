use Rattle.std.proofs.Common.{◌≡◌, length, map}
use Rattle.inc_token.specs.Views.{seen}
use Rattle.inc_pp.specs.OpenCalls as spec
use Rattle.inc_pp.proofs.open_calls.open_behind.Given as goal

abbrev pub invariant-loop-left : goal.invariant-loop-left
invariant-loop-left l = spec.open_behind l.after (spec.spellings (map seen l.left)) ≡ spec.open_behind l.deep (spec.spellings (map seen l.tokens))

abbrev pub decreases-loop-left : goal.decreases-loop-left
decreases-loop-left l = length l.left
