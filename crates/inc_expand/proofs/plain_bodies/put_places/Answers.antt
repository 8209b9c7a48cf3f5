use Rattle.std.proofs.Common.{◌≡◌, ◌-◌, [], drop, length, sym, ap, subst, arith}
use Rattle.std.proofs.lemmas.List.{drop_all}
use Rattle.std.proofs.lemmas.Result.{err_from_is_err_and}
use Rattle.inc_expand.specs.Elements.{elements_of}
use Rattle.inc_expand.specs.Arguments.{argument_values}
use Rattle.inc_expand.specs.Plain.{IsLaid, plain_tokens}
use Rattle.inc_expand.proofs.ElementSteps.{places-of}
use Rattle.inc_expand.proofs.PlainSteps.{laid-none, laid-at, paid-at, over-at}
use Rattle.inc_expand.proofs.SubstitutionRuns.{known_in-wider}
use Rattle.inc_expand.proofs.plain_bodies.put_places.Goals as goal

pub loop-i-init : goal.loop-i-init
loop-i-init c =
    let tokens : plain_tokens (argument_values c.args.sets.now c.args.args.now) (drop c.body_len-i.result (elements_of c.args.definition.now)) ≡ []
    = ap (plain_tokens (argument_values c.args.sets.now c.args.args.now)) (drop_all c.body_len-i.result (elements_of c.args.definition.now) (omega (arith, c.body_len-i.ensures, places-of c.args.definition.now))) in
    let none = ap length tokens in (
      omega (arith, c.body_len-i.ensures),
      rw c.expect.ensures (subst (λ ts. IsLaid c.args.rule c.args.sets.now c.args.sets.now c.args.line c.args.names ts c.args.list.now c.args.list.now) (sym tokens) (laid-none c.args.rule c.args.sets.now c.args.line c.args.names c.args.list.now c.requires.list)),
      omega (arith, none),
    )

pub put_place-requires-clause-args : goal.put_place-requires-clause-args
put_place-requires-clause-args c = known_in-wider _ _ c.loop-i.invariant.1.keeps.more c.args.args.now c.requires.args

pub loop-i-preserved : goal.loop-i-preserved
loop-i-preserved c = (
  omega (arith, c.loop-i.invariant.0),
  laid-at c.args.rule c.args.sets.now c.loop-i.sets c.args.line c.args.names c.args.args.now (elements_of c.args.definition.now) (c.loop-i.i - 1) c.loop-i.i _ c.args.list.now c.loop-i.list c.args.units.now c.loop-i.units
      c.requires.names c.requires.args c.element_at-element.ensures (omega (arith, c.loop-i-test.true)) c.loop-i.invariant.1 c.loop-i.invariant.2 c.put_place.new.sets c.put_place.new.list c.in_ok-put_place.ensures.laid,
  paid-at c.args.rule c.args.sets.now c.loop-i.sets c.args.line c.args.names c.args.args.now (elements_of c.args.definition.now) (c.loop-i.i - 1) c.loop-i.i _ c.args.list.now c.loop-i.list c.args.units.now c.loop-i.units
      c.requires.names c.requires.args c.element_at-element.ensures (omega (arith, c.loop-i-test.true)) c.loop-i.invariant.1 c.loop-i.invariant.2 c.put_place.new.units c.in_ok-put_place.ensures.paid,
)

pub returns-in_err-put_place-clause-fault : goal.returns-in_err-put_place-clause-fault
returns-in_err-put_place-clause-fault c =
    let p = err_from_is_err_and c.from_residual.result c.from_residual.ensures.1 in
    rw (p.1, p.2) (λ other.
    let q = c.in_err-put_place.ensures.fault other in (
      q.0,
      over-at c.args.rule c.args.sets.now c.loop-i.sets c.args.line c.args.names c.args.args.now (elements_of c.args.definition.now) (c.loop-i.i - 1) c.loop-i.i _ c.args.list.now c.loop-i.list c.args.units.now c.loop-i.units
          c.requires.names c.requires.args c.element_at-element.ensures (omega (arith, c.loop-i-test.true)) c.loop-i.invariant.1 c.loop-i.invariant.2 q.1,
    ))
