use Rattle.std.proofs.Common.{◌≡◌, ◌+◌, ◌<◌, ◌∙◌, ℕ, List, Some, None, length, refl, rules, sym, ap, arith}
use Rattle.inc_expand.specs.declared.name_keys.Name.{Name}
use Rattle.inc_expand.specs.Sets.{number_of, names_in}
use Rattle.inc_expand.proofs.Tables.{names-stay}
use Rattle.inc_expand.proofs.SeenSteps.{looked-up, number-there, number-more, names-more, names-pushed, place-first, sum-fits}
use Rattle.inc_expand.proofs.seen_names.SeenNames.number_with.Goals as goal

pub returns-in-Some-clause-number : goal.returns-in-Some-clause-number
returns-in-Some-clause-number c =
    let is = place-first c.args.name.now c.self.inside.first.items c.self.inside.more.keys c.args.self.now c.self.view_is c.in-Some.place
    (looked-up c.args.name.now _ c.self.inside.first.items (Some c.in-Some.place) c.deref.ensures.value c.in-Some.ensures.place) in
    sym (number-there c.args.self.now c.args.name.now c.in-Some.place is).1

pub returns-in-Some-clause-names : goal.returns-in-Some-clause-names
returns-in-Some-clause-names c =
    let is = place-first c.args.name.now c.self.inside.first.items c.self.inside.more.keys c.args.self.now c.self.view_is c.in-Some.place
    (looked-up c.args.name.now _ c.self.inside.first.items (Some c.in-Some.place) c.deref.ensures.value c.in-Some.ensures.place) in
    names-stay c.args.self.now c.in-Some.place c.args.name.now (number-there c.args.self.now c.args.name.now c.in-Some.place is)

pub returns-then-count-lt-FEW_NAMES-clause-number : goal.returns-then-count-lt-FEW_NAMES-clause-number
returns-then-count-lt-FEW_NAMES-clause-number c =
    let none = looked-up c.args.name.now _ c.self.inside.first.items None c.deref.ensures.value c.in_default.ensures.place in
    let few : length c.self.inside.first.items < 16 = omega (arith, c.if-count-lt-FEW_NAMES.true, c.len-count.ensures, c.self.inside.first.ok.0) in
    let zero : 0 ≡ number_of (names_in c.self.inside.more.keys) c.args.name.now = sym (ap (λ (ks : List Name). number_of (names_in ks) c.args.name.now) (c.self.invariant.1 few)) in
    let last = number-more c.args.name.now c.self.inside.first.items c.self.inside.more.keys c.args.self.now c.self.view_is none 0 zero in
    let long : c.len-count.result ≡ length c.self.inside.first.items + 0 = omega (arith, c.len-count.ensures, c.self.inside.first.ok.0) in
    long ∙ last

pub returns-then-count-lt-FEW_NAMES-clause-names : goal.returns-then-count-lt-FEW_NAMES-clause-names
returns-then-count-lt-FEW_NAMES-clause-names c =
    let none = looked-up c.args.name.now _ c.self.inside.first.items None c.deref.ensures.value c.in_default.ensures.place in
    let few : length c.self.inside.first.items < 16 = omega (arith, c.if-count-lt-FEW_NAMES.true, c.len-count.ensures, c.self.inside.first.ok.0) in
    names-pushed c.args.name.now c.self.inside.first.items c.self.inside.more.keys c.args.self.now c.self.view_is none (record { bytes = c.args.name }) c.push.new.self.items refl (search rules) (c.self.invariant.1 few)

pub overflow_add-result : goal.overflow_add-result
overflow_add-result c =
    let none = looked-up c.args.name.now _ c.self.inside.first.items None c.deref.ensures.value c.in_default.ensures.place in
    let fits = sum-fits c.args.name.now c.self.inside.first.items c.self.inside.more.keys c.args.self.now c.self.view_is none c.in_ok-place.place c.in_ok-place.ensures.place in
    omega (arith, fits, c.len-count.ensures, c.self.inside.first.ok.0, c.requires.few)

pub overflow_cast-result-2 : goal.overflow_cast-result-2
overflow_cast-result-2 c =
    let none = looked-up c.args.name.now _ c.self.inside.first.items None c.deref.ensures.value c.in_default.ensures.place in
    let fits = sum-fits c.args.name.now c.self.inside.first.items c.self.inside.more.keys c.args.self.now c.self.view_is none c.in_ok-place.place c.in_ok-place.ensures.place in
    omega (arith, fits, c.len-count.ensures, c.self.inside.first.ok.0, c.requires.few)

pub returns-clause-number : goal.returns-clause-number
returns-clause-number c =
    let none = looked-up c.args.name.now _ c.self.inside.first.items None c.deref.ensures.value c.in_default.ensures.place in
    ap (λ (n : ℕ). n + c.in_ok-place.place) (c.len-count.ensures ∙ c.self.inside.first.ok.0)
    ∙ number-more c.args.name.now c.self.inside.first.items c.self.inside.more.keys c.args.self.now c.self.view_is none c.in_ok-place.place c.in_ok-place.ensures.place

pub returns-clause-names : goal.returns-clause-names
returns-clause-names c =
    let none = looked-up c.args.name.now _ c.self.inside.first.items None c.deref.ensures.value c.in_default.ensures.place in
    names-more c.args.name.now c.self.inside.first.items c.self.inside.more.keys c.args.self.now c.self.view_is none (names_in c.add_to.new.names.keys) c.in_ok-place.ensures.names
