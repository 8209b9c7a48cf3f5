use Rattle.std.proofs.Common.{◌+◌, ◌∙◌, Some, None, ℕ, ap}
use Rattle.inc_expand.proofs.SeenSteps.{looked-up, place-first, place-later}
use Rattle.inc_expand.proofs.seen_names.SeenNames.number_of.Goals as goal

pub returns-in-Some-clause-index : goal.returns-in-Some-clause-index
returns-in-Some-clause-index c =
    place-first c.args.name.now c.self.inside.first.items c.self.inside.more.keys c.args.self.now c.self.view_is c.in-Some.place
    (looked-up c.args.name.now _ c.self.inside.first.items (Some c.in-Some.place) c.deref.ensures.value c.in-Some.ensures.place)

pub returns-in-Some-place_in-clause-index : goal.returns-in-Some-place_in-clause-index
returns-in-Some-place_in-clause-index c =
    let none = looked-up c.args.name.now _ c.self.inside.first.items None c.deref.ensures.value c.in_default.ensures.place in
    ap (λ (n : ℕ). Some (n + c.in-Some-place_in.place)) (c.len.ensures ∙ c.self.inside.first.ok.0)
    ∙ place-later c.args.name.now c.self.inside.first.items c.self.inside.more.keys c.args.self.now c.self.view_is none (Some c.in-Some-place_in.place) c.in-Some-place_in.ensures.place

pub returns-in-None-clause-index : goal.returns-in-None-clause-index
returns-in-None-clause-index c =
    let none = looked-up c.args.name.now _ c.self.inside.first.items None c.deref.ensures.value c.in_default.ensures.place in
    place-later c.args.name.now c.self.inside.first.items c.self.inside.more.keys c.args.self.now c.self.view_is none None c.in-None.ensures.place
