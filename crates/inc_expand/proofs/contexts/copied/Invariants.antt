use Rattle.std.proofs.Common.{◌≡◌}
use Rattle.inc_expand.specs.Sets.{size}
use Rattle.inc_expand.specs.Carriers.{carriers, AreKnown}
use Rattle.inc_expand.specs.Lent.{lent_tokens}
use Rattle.inc_expand.proofs.ContextSteps.{taken_before}
use Rattle.inc_expand.proofs.contexts.copied.Given as goal

abbrev pub invariant-loop-i : goal.invariant-loop-i
invariant-loop-i l = (carriers l.sets l.all.items ≡ taken_before l.sets l.names (lent_tokens l.tokens) l.i) × AreKnown (size l.sets) l.all.items
