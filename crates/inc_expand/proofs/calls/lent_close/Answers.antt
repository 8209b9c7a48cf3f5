use Rattle.std.proofs.Common.{◌<◌, length, sym, ◌∙◌, arith}
use Rattle.inc_expand.specs.Lent.{lent_tokens}
use Rattle.inc_expand.proofs.CallSteps.{passed-none, lent-more, lent-found, lent-open}
use Rattle.inc_expand.proofs.JoinSteps.{known-with}
use Rattle.inc_expand.proofs.calls.lent_close.Goals as goal

pub loop-i-init : goal.loop-i-init
loop-i-init c = (passed-none (lent_tokens c.args.tokens), omega arith)

pub returns-then-ends_call-clause-call : goal.returns-then-ends_call-clause-call
returns-then-ends_call-clause-call c s =
    let l : c.loop-i.i < length (lent_tokens c.args.tokens) = omega
    (arith, c.loop-i-test.true, c.len-i-end.ensures.len) in
    lent-found (lent_tokens c.args.tokens) c.loop-i.i c.loop-i.deep c.at-token.result l
    (c.at-token.ensures c.at-token.result) c.loop-i.invariant.0 s
    (sym (c.ends_call.ensures s) ∙ c.if-ends_call.true)

pub returns-then-ends_call-clause-known : goal.returns-then-ends_call-clause-known
returns-then-ends_call-clause-known c n h =
    let l : c.loop-i.i < length (lent_tokens c.args.tokens) = omega
    (arith, c.loop-i-test.true, c.len-i-end.ensures.len) in
    known-with n c.loop-i.i c.at-token.result (lent_tokens c.args.tokens) l (c.at-token.ensures c.at-token.result) h

pub loop-i-preserved : goal.loop-i-preserved
loop-i-preserved c =
    let deep = c.loop-i.invariant.1 in
    let l : c.loop-i.i < length (lent_tokens c.args.tokens) = omega
    (arith, c.loop-i-test.true, c.len-i-end.ensures.len) in (
      lent-more (lent_tokens c.args.tokens) c.loop-i.i c.loop-i.deep c.at-token.result l
          (c.at-token.ensures c.at-token.result) c.loop-i.invariant.0
          (λ s. sym (c.ends_call.ensures s)
          ∙ c.if-ends_call.false) c.depth_after-deep.result c.depth_after-deep.ensures.depth c.depth_after-deep.ensures.more,
      omega (arith, c.depth_after-deep.ensures.more, deep),
    )

pub returns-clause-open : goal.returns-clause-open
returns-clause-open c s =
    lent-open (lent_tokens c.args.tokens) c.loop-i.i c.loop-i.deep (omega (arith, c.loop-i-test.false, c.len-i-end.ensures.len)) c.loop-i.invariant.0 s
