use Rattle.std.proofs.Common.{◌∷◌, sym, ◌∙◌, subst}
use Rattle.inc_expand.proofs.CallSteps.{IsPassed, passed-more, passed-found}
use Rattle.inc_expand.proofs.calls.take_carried_call.Goals as goal

pub returns-then-ends_call-clause-known : goal.returns-then-ends_call-clause-known
returns-then-ends_call-clause-known c n h =
    let p : IsPassed c.args.list.now c.loop-token.inside.items
    (c.in-Some.token ∷ c.pop.new.self) c.loop-token.deep = subst
    (λ ts. IsPassed c.args.list.now c.loop-token.inside.items ts c.loop-token.deep) c.in-Some.ensures.some c.loop-token.invariant in
    let k = p.known n h in rw c.fit.ensures (k.0, k.1.0, k.1.1)

pub loop-token-preserved : goal.loop-token-preserved
loop-token-preserved c =
    let p : IsPassed c.args.list.now c.loop-token.inside.items
    (c.in-Some.token ∷ c.pop.new.self) c.loop-token.deep = subst
    (λ ts. IsPassed c.args.list.now c.loop-token.inside.items ts c.loop-token.deep) c.in-Some.ensures.some c.loop-token.invariant in
    subst (λ ts. IsPassed c.args.list.now ts c.pop.new.self c.depth_after-deep.result) (sym c.in_ok-push.ensures.items)
    (passed-more c.args.list.now c.loop-token.inside.items c.pop.new.self c.in-Some.token c.loop-token.deep p
    (λ s. sym (c.ends_call.ensures s) ∙ c.if-ends_call.false) c.depth_after-deep.result c.depth_after-deep.ensures.depth c.depth_after-deep.ensures.more)

pub returns-then-ends_call-clause-call : goal.returns-then-ends_call-clause-call
returns-then-ends_call-clause-call c s =
    let p : IsPassed c.args.list.now c.loop-token.inside.items
    (c.in-Some.token ∷ c.pop.new.self) c.loop-token.deep = subst
    (λ ts. IsPassed c.args.list.now c.loop-token.inside.items ts c.loop-token.deep) c.in-Some.ensures.some c.loop-token.invariant in
    rw c.fit.ensures (passed-found c.args.list.now c.loop-token.inside.items c.pop.new.self c.in-Some.token c.loop-token.deep p s (sym (c.ends_call.ensures s) ∙ c.if-ends_call.true))
