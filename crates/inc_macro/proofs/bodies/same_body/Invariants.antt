use Rattle.std.proofs.Common.{◌≡◌, drop, length}
use Rattle.inc_macro.specs.Macros.{same_body}
use Rattle.inc_macro.proofs.bodies.same_body.Given as goal

abbrev pub invariant-loop-i : goal.invariant-loop-i
invariant-loop-i l =
    (length l.old.tokens ≡ length l.new.tokens) × (same_body l.old.tokens l.new.tokens ≡ same_body (drop l.i l.old.tokens) (drop l.i l.new.tokens))
