use Rattle.std.proofs.Common.{◌<◌, length, arith}
use Rattle.inc_expand.specs.Sets.{size}
use Rattle.inc_expand.specs.Lent.{lent_tokens}
use Rattle.inc_expand.proofs.JoinSteps.{known-with}
use Rattle.inc_expand.proofs.ContextSteps.{copied-next, copied-known, copied-all}
use Rattle.inc_expand.proofs.contexts.copied.Goals as goal

pub set_at-requires-clause-token : goal.set_at-requires-clause-token
set_at-requires-clause-token c =
    known-with (size c.args.sets.now) c.loop-i.i c.at-token.result (lent_tokens c.args.tokens) (omega (arith, c.loop-i-test.true, c.len-i-end.ensures.len)) (c.at-token.ensures c.at-token.result) c.requires.tokens

pub loop-i-preserved : goal.loop-i-preserved
loop-i-preserved c =
    let l : c.loop-i.i < length (lent_tokens c.args.tokens) = omega (arith, c.loop-i-test.true, c.len-i-end.ensures.len) in (
      copied-next c.args.sets.now c.args.names (lent_tokens c.args.tokens) c.loop-i.i c.at-token.result c.set_at.result l (c.at-token.ensures c.at-token.result) c.set_at.ensures.set
          c.loop-i.all.items c.push.new.self.items c.in_ok-push.ensures.items c.loop-i.invariant.0,
      copied-known c.args.sets.now c.args.names (lent_tokens c.args.tokens) c.loop-i.i c.at-token.result c.set_at.result l (c.at-token.ensures c.at-token.result) c.set_at.ensures.set
          c.loop-i.all.items c.push.new.self.items c.in_ok-push.ensures.items c.set_at.ensures.known c.loop-i.invariant.1,
    )

pub returns-clause-taken : goal.returns-clause-taken
returns-clause-taken c =
    copied-all c.args.sets.now c.args.names (lent_tokens c.args.tokens) c.loop-i.all.items c.loop-i.i (omega (arith, c.loop-i-test.false, c.len-i-end.ensures.len)) c.loop-i.invariant.0
