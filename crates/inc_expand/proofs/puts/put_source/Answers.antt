use Rattle.std.proofs.Common.{◌≡◌, ◌-◌, length, map, drop, sym, subst, arith}
use Rattle.std.proofs.lemmas.List.{drop_all, length-map}
use Rattle.inc_expand.specs.Carriers.{carried_of}
use Rattle.inc_expand.specs.Puts.{IsPut}
use Rattle.inc_expand.proofs.PutSteps.{put-none, put-source-at}
use Rattle.inc_expand.proofs.puts.put_source.Goals as goal

pub loop-i-init : goal.loop-i-init
loop-i-init c = (
  omega arith,
  λ rule sets l k. subst (λ ts. IsPut rule sets sets c.args.line c.args.names ts c.args.list.now c.args.list.now)
      (sym (drop_all (length c.args.tokens.now) (map carried_of c.args.tokens.now)
      (let n = length-map c.args.tokens.now carried_of in omega (arith, n))))
      (put-none rule sets c.args.line c.args.names c.args.list.now k),
)

pub loop-i-preserved : goal.loop-i-preserved
loop-i-preserved c = (
  let l = c.loop-i.invariant.0 in omega (arith, l),
  λ rule sets l k. put-source-at rule sets c.args.line c.args.names c.args.tokens.now
      (c.loop-i.i - 1) c.loop-i.i _ c.args.list.now c.loop-i.list c.push.new.self l
      (let m = c.loop-i.invariant.0 in omega (arith, m, c.loop-i-test.true)) (omega (arith, c.loop-i-test.true)) k
      (c.loop-i.invariant.1 rule sets l k) c.in_ok-push.ensures,
)

pub returns-clause-put : goal.returns-clause-put
returns-clause-put c rule sets l k =
    let none : c.loop-i.i ≡ 0 = omega (arith, c.loop-i-test.false) in
    subst (λ i. IsPut rule sets sets c.args.line c.args.names (drop i
    (map carried_of c.args.tokens.now)) c.args.list.now c.loop-i.list) none (c.loop-i.invariant.1 rule sets l k)
