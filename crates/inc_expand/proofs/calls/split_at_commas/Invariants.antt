use Rattle.std.proofs.Common.{◌≤◌, ◌-◌, take, drop}
use Rattle.inc_expand.specs.Lent.{lent_tokens}
use Rattle.inc_expand.specs.Slots.{slot_values}
use Rattle.inc_expand.proofs.CallSteps.{IsSplit}
use Rattle.inc_expand.proofs.calls.split_at_commas.Given as goal

abbrev pub invariant-loop-i : goal.invariant-loop-i
invariant-loop-i l =
    IsSplit l.most (lent_tokens l.inside) (slot_values (lent_tokens l.inside) l.done.items) (take (l.i - l.begun) (drop l.begun (lent_tokens l.inside))) l.left l.deep (drop l.i (lent_tokens l.inside))
    × (l.deep ≤ l.i)
    × (l.begun ≤ l.i)
