use Rattle.std.proofs.Common.{◌++◌, ◌∷◌, [], ap, ◌∙◌, rules}
use Rattle.inc_graph.specs.declared.header_names.NamePart.{NamePart}
use Rattle.inc_graph.proofs.NameParts.{names_pushed}
use Rattle.inc_graph.proofs.header_names.HeaderNames.push.Goals as goal

pub returns-clause-pushed : goal.returns-clause-pushed
returns-clause-pushed c =
    let p : NamePart = record { form = c.args.header.form; begin = c.in_ok-begin.begin; len = c.in_ok-len.len } in
    rw (← c.self.view_is) (names_pushed c.self.inside.bytes.items c.args.header.name.now c.extend_from_slice.new.self.items c.self.inside.parts.items c.push_reserved.new.self.items p
    c.self.invariant c.in_ok-extend_from_slice.ensures.items (c.push_reserved.ensures.items ∙ ap (λ ps. ps ++ p ∷ []) c.reserve.ensures.items) (search rules) (search rules))
