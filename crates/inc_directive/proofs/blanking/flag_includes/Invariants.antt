use Rattle.std.proofs.Common.{◌≡◌, ℕ, take}
use Rattle.inc_text.specs.Flags.{flag_at}
use Rattle.inc_directive.specs.BlankedSources.{includes_on}
use Rattle.inc_directive.proofs.blanking.flag_includes.Given as goal

abbrev pub invariant-loop-i : goal.invariant-loop-i
invariant-loop-i l = (n : ℕ) → flag_at l.flags.items n ≡ includes_on l.language (take l.i l.lines) n
