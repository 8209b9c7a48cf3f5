use Rattle.std.proofs.Common.{◌≡◌, Bool, true, false, refl, sym, ap, ◌∙◌, get_or, take}
use Rattle.std.specs.Prelude.{◌==◌, ◌&&◌, if◌then◌else◌}
use Rattle.std.proofs.lemmas.Bool.{eq-eqb, eqb-true, false_from_ne_true}
use Rattle.inc_inputs.proofs.CommonLemmas.{ends_at, one_more, stopped, stops_apart, stops_first, stops_second}
use Rattle.inc_inputs.proofs.build_paths.common_end.Goals as goal
use Rattle.inc_inputs.proofs.build_paths.common_end.Goals.{then-a-at-eq47, else-a-at-eq47, then-loop-at-test+then-at-b+else-a-at, then-loop-at-test+else-at-b, else-loop-at-test}

pub loop-at-init : goal.loop-at-init
loop-at-init c = refl

pub loop-at-preserved : goal.loop-at-preserved
loop-at-preserved c =
    let a = c.args.a.now in
    let at = c.loop-at.at in
    let end = c.loop-at.end in
    one_more a c.args.b.now at end c.if-a-at-eq47.end c.loop-at-test.true c.if-at-b.true c.if-a-at.true
    (elim c.if-a-at-eq47.branch [
      | then-a-at-eq47 w ↦ w.end-is ∙ sym (ap (λ (b : Bool). if b then at else end) (eq-eqb (get_or a at 0) 47 w.if-a-at-eq47.true))
      | else-a-at-eq47 w ↦ w.end-is ∙ sym (ap (λ (b : Bool). if b then at else end) (false_from_ne_true (get_or a at 0 == 47) (λ is. w.if-a-at-eq47.false (eqb-true _ _ is))))
    ])
    c.loop-at.invariant

pub returns-then-ends_component : goal.returns-then-ends_component
returns-then-ends_component c =
    let a = c.args.a.now in
    let b = c.args.b.now in
    let at = c.loop-at.at in
    let end = c.loop-at.end in
    let ends : (ends_at a at && ends_at b at) ≡ true =
    ap (λ (e : Bool). e && ends_at b at) (sym c.ends_component.ensures) ∙ ap (λ (e : Bool). c.ends_component.result && e) (sym c.ends_component-2.ensures) ∙ c.if-ends_component.true in
    ap (λ (e : Bool). take (if e then at else end) a) (sym ends)
    ∙ stopped a b at end
    (elim c.loop-at-test.branch [
      | then-loop-at-test+then-at-b+else-a-at w ↦ stops_apart a b at end w.loop-at-test.true w.if-at-b.true w.if-a-at.false
      | then-loop-at-test+else-at-b w ↦ stops_second a b at end w.loop-at-test.true w.if-at-b.false
      | else-loop-at-test w ↦ stops_first a b at end w.loop-at-test.false
    ])
    c.loop-at.invariant

pub returns-else-ends_component : goal.returns-else-ends_component
returns-else-ends_component c =
    let a = c.args.a.now in
    let b = c.args.b.now in
    let at = c.loop-at.at in
    let end = c.loop-at.end in
    let ends : (ends_at a at && ends_at b at) ≡ false =
    ap (λ (e : Bool). e && ends_at b at) (sym c.ends_component.ensures) ∙ ap (λ (e : Bool). c.ends_component.result && e) (sym c.ends_component-2.ensures) ∙ c.if-ends_component.false in
    ap (λ (e : Bool). take (if e then at else end) a) (sym ends)
    ∙ stopped a b at end
    (elim c.loop-at-test.branch [
      | then-loop-at-test+then-at-b+else-a-at w ↦ stops_apart a b at end w.loop-at-test.true w.if-at-b.true w.if-a-at.false
      | then-loop-at-test+else-at-b w ↦ stops_second a b at end w.loop-at-test.true w.if-at-b.false
      | else-loop-at-test w ↦ stops_first a b at end w.loop-at-test.false
    ])
    c.loop-at.invariant
