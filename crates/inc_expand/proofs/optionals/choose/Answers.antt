use Rattle.std.proofs.Common.{◌≡◌, ◌∙◌, ◌+◌, [], ap, sym, drop, length, Ok, arith, List}
use Rattle.std.specs.Prelude.{if◌then◌else◌}
use Rattle.std.proofs.lemmas.Result.{err_from_is_err_and}
use Rattle.inc_expand.specs.declared.body_elements.Element.{Element as ElementEnum}
use Rattle.inc_expand.specs.Arguments.{argument_values}
use Rattle.inc_expand.specs.Elements.{Element, elements_of}
use Rattle.inc_expand.specs.ElementValues.{element_value, element_values, place_values}
use Rattle.inc_expand.specs.Expansion.{has_tokens, inside}
use Rattle.inc_expand.specs.Optionals.{after_places}
use Rattle.inc_expand.proofs.OptionalRuns.{optional-next, optional-stands, place-pushed}
use Rattle.inc_expand.proofs.OptionalSteps.{alone-goes, alone-stands, chosen-fault, chosen-passed}
use Rattle.inc_expand.proofs.optionals.choose.Goals as goal

pub returns-in_err-stand-in-Some-clause-fault : goal.returns-in_err-stand-in-Some-clause-fault
returns-in_err-stand-in-Some-clause-fault c =
    let p = err_from_is_err_and c.from_residual-in_err-stand-in-Some.result c.from_residual-in_err-stand-in-Some.ensures.1 in
    let values = argument_values c.args.sets.now c.args.args.now in
    let es = elements_of c.args.definition.now in
    let places = c.in_ok-places-in-Some.places.items in
    let between : element_values places ≡ inside 0 (drop (c.args.i + 2) es) = c.in_ok-places-in-Some.ensures ∙ ap (λ k. inside 0 (drop k es)) c.in_ok-from-in-Some.ensures in
    rw (p.1, p.2) (λ other.
    chosen-fault values es c.args.i (element_value c.element_at-element.result) c.element_at-element.ensures _
    (optional-stands es c.args.i (element_value c.element_at-element.result) c.in-Some.hash c.in-Some.n (sym c.in-Some.ensures) places between values (element_values c.held.result.now)
    (c.held.ensures c.args.sets.now ∙ ap (λ (ps : List ElementEnum). if has_tokens values c.in-Some.n then element_values ps else []) c.deref.ensures.value)
    ∙ c.in_err-stand-in-Some.ensures.fault other))

pub returns-in_ok-next-in-Some-2-clause-chosen : goal.returns-in_ok-next-in-Some-2-clause-chosen
returns-in_ok-next-in-Some-2-clause-chosen c =
    let values = argument_values c.args.sets.now c.args.args.now in
    let es = elements_of c.args.definition.now in
    let places = c.in_ok-places-in-Some.places.items in
    let old = place_values c.args.all.now.items in
    let between : element_values places ≡ inside 0 (drop (c.args.i + 2) es) = c.in_ok-places-in-Some.ensures ∙ ap (λ k. inside 0 (drop k es)) c.in_ok-from-in-Some.ensures in
    let sums : c.in_ok-next-in-Some-2.next ≡ c.args.i + 2 + length places + 1 =
    omega (arith, c.in_ok-next-in-Some-2.ensures, c.in_ok-next-in-Some.ensures, c.in_ok-from-in-Some.ensures, c.len.ensures) in
    chosen-passed values es c.args.i (element_value c.element_at-element.result) c.element_at-element.ensures c.in_ok-next-in-Some-2.next old (place_values c.stand.new.all.items)
    (sums ∙ optional-next es c.args.i (element_value c.element_at-element.result) c.in-Some.hash c.in-Some.n (sym c.in-Some.ensures) places between)
    (ap (after_places old)
    (optional-stands es c.args.i (element_value c.element_at-element.result) c.in-Some.hash c.in-Some.n (sym c.in-Some.ensures) places between values (element_values c.held.result.now)
    (c.held.ensures c.args.sets.now ∙ ap (λ (ps : List ElementEnum). if has_tokens values c.in-Some.n then element_values ps else []) c.deref.ensures.value))
    ∙ c.in_ok-stand-in-Some.ensures.standing)

pub returns-in_ok-next-in-None-clause-chosen : goal.returns-in_ok-next-in-None-clause-chosen
returns-in_ok-next-in-None-clause-chosen c =
    let values = argument_values c.args.sets.now c.args.args.now in
    let es = elements_of c.args.definition.now in
    let e = element_value c.element_at-element.result in
    let old = place_values c.args.all.now.items in
    let goes = alone-goes e (drop (c.args.i + 1) es) (sym c.in-None.ensures) in
    chosen-passed values es c.args.i e c.element_at-element.ensures c.in_ok-next-in-None.next old (place_values c.push.new.self.items)
    (omega (arith, c.in_ok-next-in-None.ensures, goes))
    (ap (after_places old) (alone-stands values e (drop (c.args.i + 1) es) (sym c.in-None.ensures))
    ∙ ap (λ (xs : List Element). Ok xs) (sym (place-pushed c.args.all.now.items c.push.new.self.items _ c.in_ok-push-in-None.ensures.items)))
