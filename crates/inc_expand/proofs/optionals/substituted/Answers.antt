use Rattle.std.proofs.Common.{◌∙◌, ap, sym, None}
use Rattle.std.proofs.lemmas.Result.{err_from_is_err_and}
use Rattle.inc_macro.specs.Roles.{roles_of}
use Rattle.inc_expand.specs.Arguments.{argument_values}
use Rattle.inc_expand.specs.Elements.{elements_of}
use Rattle.inc_expand.specs.ElementValues.{place_values}
use Rattle.inc_expand.specs.Expansion.{joined}
use Rattle.inc_expand.proofs.JoinSteps.{keeps-more}
use Rattle.inc_expand.proofs.OptionalSteps.{chosen-alone, joined-chosen}
use Rattle.inc_expand.proofs.SubstitutionRuns.{known_in-wider, same-arguments}
use Rattle.inc_expand.proofs.optionals.substituted.Goals as goal

pub joined-requires : goal.joined-requires
joined-requires c = known_in-wider _ _ c.in_ok-places.ensures.keeps.more c.args.args.now c.requires

pub returns-in_err-all-clause-fault : goal.returns-in_err-all-clause-fault
returns-in_err-all-clause-fault c =
    let p = err_from_is_err_and c.from_residual-in_err-all.result c.from_residual-in_err-all.ensures.1 in
    let same = same-arguments c.args.sets.now c.chosen.new.sets c.in_ok-places.ensures.keeps c.args.args.now c.requires in
    rw (p.1, p.2) (λ other.
    joined-chosen c.args.rule (argument_values c.args.sets.now c.args.args.now) (elements_of c.args.definition.now) (place_values c.in_ok-places.places.items) _ c.in_ok-places.ensures.chosen
    (ap (λ values. joined c.args.rule values (place_values c.in_ok-places.places.items)) (sym same)
    ∙ ap (λ ps. joined c.args.rule (argument_values c.chosen.new.sets c.args.args.now) (place_values ps)) (sym c.deref.ensures.value)
    ∙ c.in_err-all.ensures.fault other))

pub returns-then-has_optional-clause-keeps : goal.returns-then-has_optional-clause-keeps
returns-then-has_optional-clause-keeps c = keeps-more _ _ _ c.in_ok-places.ensures.keeps c.in_ok-all.ensures.keeps

pub returns-then-has_optional-clause-tokens : goal.returns-then-has_optional-clause-tokens
returns-then-has_optional-clause-tokens c =
    let same = same-arguments c.args.sets.now c.chosen.new.sets c.in_ok-places.ensures.keeps c.args.args.now c.requires in
    joined-chosen c.args.rule (argument_values c.args.sets.now c.args.args.now) (elements_of c.args.definition.now) (place_values c.in_ok-places.places.items) _ c.in_ok-places.ensures.chosen
    (ap (λ values. joined c.args.rule values (place_values c.in_ok-places.places.items)) (sym same)
    ∙ ap (λ ps. joined c.args.rule (argument_values c.chosen.new.sets c.args.args.now) (place_values ps)) (sym c.deref.ensures.value)
    ∙ c.in_ok-all.ensures.tokens)

pub returns-in_err-all-2-clause-fault : goal.returns-in_err-all-2-clause-fault
returns-in_err-all-2-clause-fault c =
    let p = err_from_is_err_and c.from_residual-in_err-all-2.result c.from_residual-in_err-all-2.ensures.1 in
    let d = c.args.definition.now in
    let values = argument_values c.args.sets.now c.args.args.now in
    rw (p.1, p.2) (λ other.
    joined-chosen c.args.rule values (elements_of d) (elements_of d) _ (chosen-alone values None d.body (roles_of d) (sym c.has_optional.ensures ∙ c.if-has_optional.false))
    (c.in_err-all-2.ensures.fault other))

pub returns-clause-tokens : goal.returns-clause-tokens
returns-clause-tokens c =
    let d = c.args.definition.now in
    let values = argument_values c.args.sets.now c.args.args.now in
    joined-chosen c.args.rule values (elements_of d) (elements_of d) _ (chosen-alone values None d.body (roles_of d) (sym c.has_optional.ensures ∙ c.if-has_optional.false))
    c.in_ok-all-2.ensures.tokens
