use Rattle.std.proofs.Common.{◌≡◌, ◌<◌, ℕ, false}
use Rattle.inc_check.proofs.SumLemmas.{is_over}
use Rattle.inc_check.proofs.checking.sums.is_any_over.Given as goal

-- no sum so far is over its cost
abbrev pub invariant-loop-index : goal.invariant-loop-index
invariant-loop-index l = (i : ℕ) → i < l.index → is_over l.fixed l.through i ≡ false
