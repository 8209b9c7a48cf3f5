use Rattle.std.proofs.Common.{◌<◌, length, refl, arith}
use Rattle.std.proofs.lemmas.List.{length-map}
use Rattle.inc_expand.specs.Slots.{inside_tokens, slot_value, slot_values}
use Rattle.inc_expand.proofs.SlotSteps.{slot-expands}
use Rattle.inc_expand.proofs.arguments.Arguments.expand.Goals as goal

pub returns : goal.returns
returns c =
    let inside = inside_tokens c.self.inside.inside in
    let l : c.args.i < length (slot_values inside c.self.inside.slots.items) = rw (← c.self.view_is) at c.requires in
    let n = length-map c.self.inside.slots.items (slot_value inside) in
    rw (← c.self.view_is) (λ d. slot-expands inside c.self.inside.slots.items c.args.i c.index_mut-slot.result.now _ d c.args.tokens.items
    (omega (arith, l, n)) c.index_mut-slot.ensures.value refl)
