use Rattle.std.proofs.Common.{◌<◌, length, arith}
use Rattle.std.proofs.lemmas.List.{length-map}
use Rattle.inc_expand.specs.Slots.{inside_tokens, slot_value, slot_values}
use Rattle.inc_expand.proofs.SlotSteps.{slot-passes}
use Rattle.inc_expand.proofs.arguments.Arguments.pass.Goals as goal

pub returns : goal.returns
returns c =
    let inside = inside_tokens c.self.inside.inside in
    let l : c.args.i < length (slot_values inside c.self.inside.slots.items) = rw (← c.self.view_is) at c.requires in
    let n = length-map c.self.inside.slots.items (slot_value inside) in
    rw (← c.self.view_is) (λ d. slot-passes inside c.self.inside.slots.items c.args.i c.index_mut.result.now d
    (omega (arith, l, n)) c.index_mut.ensures.value)
