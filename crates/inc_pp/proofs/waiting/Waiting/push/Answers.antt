use Rattle.std.proofs.Common.{◌++◌, ◌∷◌, [], ap, ◌∙◌, rules}
use Rattle.inc_pp.specs.declared.waiting.Part.{Part}
use Rattle.inc_pp.proofs.WaitingParts.{parts_pushed, are_ends_pushed}
use Rattle.inc_pp.proofs.waiting.Waiting.push.Goals as goal

pub invariant_of-self-2 : goal.invariant_of-self-2
invariant_of-self-2 c =
    let t = c.args.token in
    let p : Part = record { end = c.in_ok-end.end; line = t.line; kind = t.kind; space = t.space; painted = t.painted } in
    are_ends_pushed c.self.inside.bytes.items t.spelling.now c.extend_from_slice.new.self.items c.self.inside.parts.items c.push_reserved.new.self.items p
    c.self.invariant c.in_ok-extend_from_slice.ensures.items (c.push_reserved.ensures.items ∙ ap (λ ps. ps ++ p ∷ []) c.reserve.ensures.items) (search rules)

pub returns : goal.returns
returns c =
    let t = c.args.token in
    let p : Part = record { end = c.in_ok-end.end; line = t.line; kind = t.kind; space = t.space; painted = t.painted } in
    rw (← c.self.view_is) (parts_pushed c.self.inside.bytes.items t.spelling.now c.extend_from_slice.new.self.items c.self.inside.parts.items c.push_reserved.new.self.items p
    c.self.invariant c.in_ok-extend_from_slice.ensures.items (c.push_reserved.ensures.items ∙ ap (λ ps. ps ++ p ∷ []) c.reserve.ensures.items) (search rules))
