use Rattle.std.proofs.Common.{◌≡◌, min}
use Rattle.inc_token.specs.BlankingSteps.{with_blank}
use Rattle.inc_token.proofs.blanking.blank_range.Given as goal

abbrev pub invariant-loop-at : goal.invariant-loop-at
invariant-loop-at l = l.bytes.items ≡ with_blank (record { first = min l.first l.end; last = l.at }) l.fn.bytes.items
