use Rattle.std.proofs.Common.{◌≡◌, ◌+◌, ◌-◌, ℕ, length}
use Rattle.inc_text.specs.Flags.{flag_at}
use Rattle.inc_text.proofs.flags.set_flag.Given as goal

abbrev pub invariant-loop-flags : goal.invariant-loop-flags
invariant-loop-flags l = (j : ℕ) → flag_at l.flags.items j ≡ flag_at l.fn.flags.items j

abbrev pub decreases-loop-flags : goal.decreases-loop-flags
decreases-loop-flags l = l.at + 1 - length l.flags.items
