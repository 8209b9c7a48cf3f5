use Rattle.std.proofs.Common.{◌≡◌, ◌+◌, ◌≤◌, length, drop}
use Rattle.inc_expand.specs.Arguments.{argument_values}
use Rattle.inc_expand.specs.Elements.{elements_of}
use Rattle.inc_expand.specs.Plain.{IsLaid, plain_tokens}
use Rattle.inc_expand.proofs.plain_bodies.put_places.Given as goal

abbrev pub invariant-loop-i : goal.invariant-loop-i
invariant-loop-i l =
    (l.i ≤ length l.definition.body)
    × IsLaid l.rule l.fn.sets l.sets l.line l.names (plain_tokens (argument_values l.fn.sets l.args) (drop l.i (elements_of l.definition))) l.fn.list l.list
    × (l.units + length (plain_tokens (argument_values l.fn.sets l.args) (drop l.i (elements_of l.definition))) ≡ l.fn.units)

abbrev pub decreases-loop-i : goal.decreases-loop-i
decreases-loop-i l = l.i
