use Rattle.std.proofs.Common.{◌≡◌, length}
use Rattle.inc_pp.specs.Pragmas.{after_quote}
use Rattle.inc_pp.proofs.pragmas.after_quote.Given as goal

abbrev pub invariant-loop-left : goal.invariant-loop-left
invariant-loop-left l = after_quote l.left ≡ after_quote l.fn.literal

abbrev pub decreases-loop-left : goal.decreases-loop-left
decreases-loop-left l = length l.left
