use Rattle.std.proofs.Common.{◌+◌, false, None, List, ap, sym, ◌∙◌, subst, arith}
use Rattle.std.proofs.lemmas.Result.{err_from_is_err_and}
use Rattle.inc_expand.specs.declared.carried.Carried.{Carried}
use Rattle.inc_expand.specs.Sets.{size}
use Rattle.inc_expand.specs.Elements.{elements_of}
use Rattle.inc_expand.specs.Expansion.{paste_from}
use Rattle.inc_expand.specs.Carriers.{carriers, AreKnown}
use Rattle.inc_expand.specs.Arguments.{argument_values}
use Rattle.inc_expand.specs.Substitutions.{parts_with}
use Rattle.inc_expand.proofs.ElementSteps.{places-of}
use Rattle.inc_expand.proofs.SubstitutionRuns.{IsJoined, known_in-wider, joined-none, joined-more, joined-fault, joined-all, joined-is, strings-fault}
use Rattle.inc_expand.proofs.replacements.joined_body.Goals as goal

pub returns-in_err-strings-clause-fault : goal.returns-in_err-strings-clause-fault
returns-in_err-strings-clause-fault c =
    let p = err_from_is_err_and c.from_residual.result c.from_residual.ensures.1 in
    rw (p.1, p.2) (λ other. strings-fault c.args.rule (argument_values c.args.sets.now c.args.args.now) (elements_of c.args.definition.now) _ (c.in_err-strings.ensures.fault c.args.sets.now other))

pub loop-i-init : goal.loop-i-init
loop-i-init c = joined-none c.args.rule c.args.sets.now c.args.args.now (elements_of c.args.definition.now) c.in_ok-strings.strings.items c.in_ok-joiner.joiner c.in_ok-joiner.ensures.rest c.in_ok-joiner.ensures.known

pub pass_element-requires-clause-args : goal.pass_element-requires-clause-args
pass_element-requires-clause-args c = known_in-wider _ _ c.loop-i.invariant.keeps.more c.args.args.now c.requires

pub pass_element-requires-clause-strings : goal.pass_element-requires-clause-strings
pass_element-requires-clause-strings c = subst (AreKnown (size c.loop-i.sets)) (sym c.deref.ensures.value) (c.in_ok-strings.ensures.known c.loop-i.sets)

pub returns-in_err-at-clause-fault : goal.returns-in_err-at-clause-fault
returns-in_err-at-clause-fault c =
    let p = err_from_is_err_and c.from_residual-in_err-at.result c.from_residual-in_err-at.ensures.1 in
    let q : IsJoined c.args.rule c.args.sets.now c.loop-i.sets c.args.args.now (elements_of c.args.definition.now) c.deref.result.now c.loop-i.i c.loop-i.at c.loop-i.joiner
    = subst (λ (ss : List Carried). IsJoined c.args.rule c.args.sets.now c.loop-i.sets c.args.args.now (elements_of c.args.definition.now) ss c.loop-i.i c.loop-i.at c.loop-i.joiner) (sym c.deref.ensures.value) c.loop-i.invariant in
    rw (p.1, p.2) (λ other.
    joined-is c.args.rule (argument_values c.args.sets.now c.args.args.now) (elements_of c.args.definition.now) (carriers c.args.sets.now c.in_ok-strings.strings.items) (c.in_ok-strings.ensures.strings c.args.sets.now)
    ∙ ap (λ (ss : List Carried). paste_from c.args.rule false None (parts_with (argument_values c.args.sets.now c.args.args.now) (carriers c.args.sets.now ss) (elements_of c.args.definition.now))) (sym c.deref.ensures.value)
    ∙ joined-fault c.args.rule c.args.sets.now c.loop-i.sets c.args.args.now (elements_of c.args.definition.now) c.deref.result.now c.loop-i.i c.loop-i.at c.loop-i.joiner q c.requires
    (λ s. subst (AreKnown (size s)) (sym c.deref.ensures.value) (c.in_ok-strings.ensures.known s)) _ c.element_at-element.ensures _ (λ rest. c.in_err-at.ensures.fault rest other))

pub loop-i-preserved : goal.loop-i-preserved
loop-i-preserved c =
    let q : IsJoined c.args.rule c.args.sets.now c.loop-i.sets c.args.args.now (elements_of c.args.definition.now) c.deref.result.now c.loop-i.i c.loop-i.at c.loop-i.joiner
    = subst (λ (ss : List Carried). IsJoined c.args.rule c.args.sets.now c.loop-i.sets c.args.args.now (elements_of c.args.definition.now) ss c.loop-i.i c.loop-i.at c.loop-i.joiner) (sym c.deref.ensures.value) c.loop-i.invariant in
    subst (λ (ss : List Carried). IsJoined c.args.rule c.args.sets.now c.pass_element.new.sets c.args.args.now (elements_of c.args.definition.now) ss (c.loop-i.i + 1) c.in_ok-at.at c.pass_element.new.joiner) c.deref.ensures.value
    (joined-more c.args.rule c.args.sets.now c.loop-i.sets c.args.args.now (elements_of c.args.definition.now) c.deref.result.now c.loop-i.i c.loop-i.at c.loop-i.joiner q c.requires
    (λ s. subst (AreKnown (size s)) (sym c.deref.ensures.value) (c.in_ok-strings.ensures.known s)) _ c.element_at-element.ensures c.pass_element.new.sets c.in_ok-at.at c.pass_element.new.joiner
    c.pass_element.ensures.keeps c.in_ok-at.ensures.known c.in_ok-at.ensures.within c.in_ok-at.ensures.rest)

pub returns-clause-tokens : goal.returns-clause-tokens
returns-clause-tokens c =
    joined-is c.args.rule (argument_values c.args.sets.now c.args.args.now) (elements_of c.args.definition.now) (carriers c.args.sets.now c.in_ok-strings.strings.items) (c.in_ok-strings.ensures.strings c.args.sets.now)
    ∙ joined-all c.args.rule c.args.sets.now c.loop-i.sets c.args.args.now (elements_of c.args.definition.now) c.in_ok-strings.strings.items c.loop-i.i c.loop-i.at c.loop-i.joiner c.loop-i.invariant
    (omega (arith, c.loop-i-test.false, c.body_len-i-end.ensures, places-of c.args.definition.now)) _ (c.in_ok-all.ensures.tokens c.loop-i.sets)
