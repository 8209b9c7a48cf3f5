use Rattle.std.proofs.Common.{◌≡◌, take}
use Rattle.inc_expand.specs.Carriers.{carriers}
use Rattle.inc_expand.specs.Lent.{lent_tokens}
use Rattle.inc_expand.proofs.ContextSteps.{taken_before}
use Rattle.inc_expand.proofs.contexts.are_taken.Given as goal

abbrev pub invariant-loop-i : goal.invariant-loop-i
invariant-loop-i l = carriers l.sets (take l.i (lent_tokens l.tokens)) ≡ taken_before l.sets l.names (lent_tokens l.tokens) l.i
