use Rattle.std.proofs.Common.{sym, subst, arith, ◌∙◌}
use Rattle.std.proofs.lemmas.Result.{err_from_is_err_and}
use Rattle.inc_expand.specs.Walks.{IsNotPlaced}
use Rattle.inc_expand.proofs.JoinSteps.{known-wider}
use Rattle.inc_expand.proofs.PlainSteps.{plain-over, plain-over-later, plain-placed}
use Rattle.inc_expand.proofs.SubstitutionRuns.{known_in-wider}
use Rattle.inc_expand.proofs.plain_bodies.replace_plain.Goals as goal

pub returns-in_err-pay_for-clause-fault : goal.returns-in_err-pay_for-clause-fault
returns-in_err-pay_for-clause-fault c =
    let p = err_from_is_err_and c.from_residual.result c.from_residual.ensures.1 in
    let q = c.in_err-pay_for.ensures.over in
    let few = q.1 in
    rw (p.1, p.2) (λ other. subst (IsNotPlaced c.args.rule c.args.macro_.now c.args.args.now c.args.token.now c.args.hidden c.args.work.now c.args.list.now) (sym q.0)
    (plain-over c.args.rule c.args.macro_.now c.args.args.now c.args.token.now c.args.work.now c.args.hidden c.args.list.now c.requires.plain (let left = c.left-units.ensures in omega (arith, few, left))))

pub put_plain-requires-clause-args : goal.put_plain-requires-clause-args
put_plain-requires-clause-args c = known_in-wider _ _ c.with.ensures.keeps.more c.args.args.now c.requires.args

pub put_plain-requires-clause-list : goal.put_plain-requires-clause-list
put_plain-requires-clause-list c = known-wider _ _ c.with.ensures.keeps.more c.args.list.now c.requires.list

pub returns-in_err-put_plain-clause-fault : goal.returns-in_err-put_plain-clause-fault
returns-in_err-put_plain-clause-fault c =
    let p = err_from_is_err_and c.from_residual-in_err-put_plain.result c.from_residual-in_err-put_plain.ensures.1 in
    rw (p.1, p.2) (λ other.
    let q = c.in_err-put_plain.ensures.fault other in
    subst (IsNotPlaced c.args.rule c.args.macro_.now c.args.args.now c.args.token.now c.args.hidden c.args.work.now c.args.list.now) (sym q.0)
    (plain-over-later c.args.rule c.args.macro_.now c.args.args.now c.args.token.now c.args.work.now c.args.hidden c.args.list.now c.requires.plain c.requires.args c.requires.list c.requires.hidden
    c.with.new.self c.with.ensures.keeps c.pay_for.new.units (c.in_ok-pay_for.ensures.paid ∙ c.left-units.ensures) q.1))

pub returns-clause-replaced : goal.returns-clause-replaced
returns-clause-replaced c =
    plain-placed c.args.rule c.args.macro_.now c.args.args.now c.args.token.now c.args.work.now c.args.hidden c.args.list.now c.requires.plain c.requires.args c.requires.list c.requires.hidden
    c.with.new.self c.with.ensures.keeps _ c.in_ok-names.names c.pay_for.new.units c.put_plain.new.units c.put_plain.new.list (rw c.name.ensures at c.in_ok-names.ensures.members)
    c.in_ok-put_plain.ensures.keeps c.in_ok-put_plain.ensures.put c.in_ok-put_plain.ensures.known (c.in_ok-pay_for.ensures.paid ∙ c.left-units.ensures) c.in_ok-put_plain.ensures.paid c.set_left.ensures
