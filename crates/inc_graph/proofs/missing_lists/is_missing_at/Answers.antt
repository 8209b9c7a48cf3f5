use Rattle.std.proofs.Common.{◌≡◌, ◌∙◌, true, refl, sym, ap}
use Rattle.std.specs.Prelude.{◌==◌, ◌&&◌}
use Rattle.inc_graph.proofs.MissingPlaces.{missing_at, found_there, none_there}
use Rattle.inc_graph.proofs.missing_lists.is_missing_at.Goals as goal

pub returns-then-eq : goal.returns-then-eq
returns-then-eq c =
    let ds = c.args.missing.now in
    let d = c.in-Some.directive.now in
    let same : (d.file == c.args.file) ≡ true = sym c.eq.ensures ∙ c.if-eq.true in
    found_there ds c.args.file c.args.line c.missing_before-place.result d _ _ c.in-Some.ensures.lookup.3.0 c.in-Some.ensures.lookup.1
    (missing_at ds ds c.args.file c.args.line c.missing_before-place.result c.requires refl c.missing_before-place.ensures.bound c.missing_before-place.ensures.point) (ap (λ b. b && (d.line == c.args.line)) same)

pub returns-else-eq : goal.returns-else-eq
returns-else-eq c =
    let ds = c.args.missing.now in
    let d = c.in-Some.directive.now in
    found_there ds c.args.file c.args.line c.missing_before-place.result d _ _ c.in-Some.ensures.lookup.3.0 c.in-Some.ensures.lookup.1
    (missing_at ds ds c.args.file c.args.line c.missing_before-place.result c.requires refl c.missing_before-place.ensures.bound c.missing_before-place.ensures.point)
    (ap (λ b. b && (d.line == c.args.line)) (sym c.eq.ensures ∙ c.if-eq.false) ∙ sym c.if-eq.false)

pub returns-in-None : goal.returns-in-None
returns-in-None c =
    let ds = c.args.missing.now in
    none_there ds c.args.file c.args.line c.missing_before-place.result _ c.in-None.ensures.lookup.3
    (missing_at ds ds c.args.file c.args.line c.missing_before-place.result c.requires refl c.missing_before-place.ensures.bound c.missing_before-place.ensures.point)
