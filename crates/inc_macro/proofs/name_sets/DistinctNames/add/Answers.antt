use Rattle.std.proofs.Common.{◌≡◌, ◌∙◌, ◌<◌, [], true, false, not, length, ap, sym, arith, List, ℕ}
use Rattle.inc_macro.specs.Macros.{is_among}
use Rattle.inc_macro.proofs.JoinedNames.{among-found, among-missed, first-by}
use Rattle.inc_macro.proofs.name_sets.DistinctNames.add.Goals as goal

pub returns-then-is_some-clause-new : goal.returns-then-is_some-clause-new
returns-then-is_some-clause-new c =
    let name : List ℕ = c.args.name.now in
    let first = first-by name _ c.self.inside.first.items _ _ true c.deref.ensures.value c.place_among.ensures.place c.is_some.ensures c.if-is_some.true in
    sym (ap not (ap (is_among name) (sym c.self.view_is) ∙ among-found name c.self.inside.first.items c.self.inside.more first))

pub returns-then-len-lt-FEW_NAMES-clause-new : goal.returns-then-len-lt-FEW_NAMES-clause-new
returns-then-len-lt-FEW_NAMES-clause-new c =
    let name : List ℕ = c.args.name.now in
    let first = first-by name _ c.self.inside.first.items _ _ false c.deref.ensures.value c.place_among.ensures.place c.is_some.ensures c.if-is_some.false in
    let few : length c.self.inside.first.items < 8 = omega (arith, c.if-len-lt-FEW_NAMES.true, c.len.ensures, c.self.inside.first.ok.0) in
    let none : c.self.inside.more ≡ [] = c.self.invariant.1 few in
    sym (ap not (ap (is_among name) (sym c.self.view_is) ∙ among-missed name c.self.inside.first.items c.self.inside.more first ∙ ap (is_among name) none))

pub returns-clause-new : goal.returns-clause-new
returns-clause-new c =
    let name : List ℕ = c.args.name.now in
    let first = first-by name _ c.self.inside.first.items _ _ false c.deref.ensures.value c.place_among.ensures.place c.is_some.ensures c.if-is_some.false in
    c.in_ok-added.ensures.new ∙ ap not (sym (among-missed name c.self.inside.first.items c.self.inside.more first) ∙ ap (is_among name) c.self.view_is)
