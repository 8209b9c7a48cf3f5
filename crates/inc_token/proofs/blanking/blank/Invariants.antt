use Rattle.std.proofs.Common.{◌≡◌, take}
use Rattle.inc_token.specs.Blanking.{blanked}
use Rattle.inc_token.proofs.blanking.blank.Given as goal

abbrev pub invariant-loop-i : goal.invariant-loop-i
invariant-loop-i l = l.bytes.items ≡ blanked l.remove (take l.i l.lines) l.source
