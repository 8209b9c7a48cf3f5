use Rattle.std.proofs.Common.{refl, rules, map}
use Rattle.std.proofs.lemmas.Result.{err_from_is_err_and}
use Rattle.inc_rules.proofs.RuleLemmas.{err_on, excepted_bad, no_right, ok_on}
use Rattle.inc_rules.proofs.TextLemmas.{fault_on, told_fault}
use Rattle.inc_rules.proofs.parts.rule_of.Goals as goal

pub returns-in_default-rest-clause-fault : goal.returns-in_default-rest-clause-fault
returns-in_default-rest-clause-fault c = λ l r are.
    told_fault c.fault_at-in_default-rest.result c.args.line _ _ c.fault_at-in_default-rest.ensures
    (no_right (λ w. w.now) c.args.line c.args.words.items c.deref.result.now c.deref.ensures.value l r are c.in-Some.verb (map (λ w. w.now) c.in-Some.rest.now) c.in-Some.ensures
    c.in-Some.rest.now refl c.in_default-rest.len_below c.index.result.now (search rules))

pub returns-in_err-except-clause-fault : goal.returns-in_err-except-clause-fault
returns-in_err-except-clause-fault c =
    let p = err_from_is_err_and c.from_residual.result c.from_residual.ensures.1 in
    rw (p.1, p.2) (λ l r are. fault_on c.in_err-except.field-0.0 c.args.line _ _ c.in_err-except.ensures.fault
    (excepted_bad (λ w. w.now) c.args.line c.args.words.items c.deref.result.now c.deref.ensures.value l r are c.in-Some.verb (map (λ w. w.now) c.in-Some.rest.now) c.in-Some.ensures
    c.in-Some.rest.now refl c.in-len1-up.len_at_least c.index-left.result.now _ _ c.with_first-verb.ensures))

pub returns-clause-rule : goal.returns-clause-rule
returns-clause-rule c =
    ok_on (λ w. w.now) c.args.line c.args.words.items c.deref.result.now c.deref.ensures.value c.in-Some.verb (map (λ w. w.now) c.in-Some.rest.now) c.in-Some.ensures
    c.in-Some.rest.now refl c.in-len1-up.len_at_least _ _ c.with_first-verb.ensures _ c.in_ok-except.ensures.globs c.index-left.result.now (search rules) _ c.checked.result c.checked.ensures.rule

pub returns-clause-fault : goal.returns-clause-fault
returns-clause-fault c =
    err_on (λ w. w.now) c.args.line c.args.words.items c.deref.result.now c.deref.ensures.value c.in-Some.verb (map (λ w. w.now) c.in-Some.rest.now) c.in-Some.ensures
    c.in-Some.rest.now refl c.in-len1-up.len_at_least _ _ c.with_first-verb.ensures _ c.in_ok-except.ensures.globs c.index-left.result.now (search rules) _ c.checked.result c.checked.ensures.fault
