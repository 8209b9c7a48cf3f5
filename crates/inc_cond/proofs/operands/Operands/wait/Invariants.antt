use Rattle.std.proofs.Common.{◌≡◌, List, ◌∷◌}
use Rattle.inc_expand.specs.Expansion.{Item}
use Rattle.inc_expand.specs.Sinks.{seen_ref}
use Rattle.inc_cond.specs.Operands.{outcome, unread}
use Rattle.inc_cond.proofs.operands.Operands.wait.Given as goal

abbrev pub invariant-loop-self : goal.invariant-loop-self
invariant-loop-self l = (is : List Item) → outcome l.self is ≡ outcome l.fn.self (seen_ref l.token ∷ is)

abbrev pub decreases-loop-self : goal.decreases-loop-self
decreases-loop-self l = unread l.self
