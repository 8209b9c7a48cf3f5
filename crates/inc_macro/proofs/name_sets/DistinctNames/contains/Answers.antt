use Rattle.std.proofs.Common.{◌∙◌, true, false, ap, sym, is_some, bytes_eq, List, ℕ}
use Rattle.inc_macro.specs.Macros.{is_among}
use Rattle.inc_macro.proofs.JoinedNames.{among-found, among-missed, first-by}
use Rattle.inc_macro.proofs.Positions.{is_some-position}
use Rattle.inc_macro.proofs.name_sets.DistinctNames.contains.Goals as goal

pub returns-then-is_some : goal.returns-then-is_some
returns-then-is_some c =
    let name : List ℕ = c.args.name.now in
    let first = first-by name _ c.self.inside.first.items _ _ true c.deref.ensures.value c.place_among.ensures.place c.is_some.ensures c.if-is_some.true in
    sym (ap (is_among name) (sym c.self.view_is) ∙ among-found name c.self.inside.first.items c.self.inside.more first)

pub returns : goal.returns
returns c =
    let name : List ℕ = c.args.name.now in
    let first = first-by name _ c.self.inside.first.items _ _ false c.deref.ensures.value c.place_among.ensures.place c.is_some.ensures c.if-is_some.false in
    c.is_some-2.ensures ∙ ap is_some c.place.ensures.place ∙ is_some-position (bytes_eq name) c.self.inside.more
    ∙ sym (among-missed name c.self.inside.first.items c.self.inside.more first) ∙ ap (is_among name) c.self.view_is
