use Rattle.std.proofs.Common.{refl, arith}
use Rattle.inc_expand.specs.Sets.{size}
use Rattle.inc_expand.specs.Lent.{lent_tokens}
use Rattle.inc_expand.proofs.JoinSteps.{known-with}
use Rattle.inc_expand.proofs.ContextSteps.{taken-next, taken-all}
use Rattle.inc_expand.proofs.contexts.are_taken.Goals as goal

pub is_taken-requires-clause-token : goal.is_taken-requires-clause-token
is_taken-requires-clause-token c =
    known-with (size c.args.sets.now) c.loop-i.i c.at-token.result (lent_tokens c.args.tokens) (omega (arith, c.loop-i-test.true, c.len-i-end.ensures.len)) (c.at-token.ensures c.at-token.result) c.requires.tokens

pub loop-i-preserved : goal.loop-i-preserved
loop-i-preserved c =
    taken-next c.args.sets.now c.args.names (lent_tokens c.args.tokens) c.loop-i.i c.at-token.result c.at-token.result.set (omega (arith, c.loop-i-test.true, c.len-i-end.ensures.len))
    (c.at-token.ensures c.at-token.result) (c.is_taken.ensures c.if-not-is_taken.false) refl c.loop-i.invariant

pub returns : goal.returns
returns c other =
    taken-all c.args.sets.now c.args.names (lent_tokens c.args.tokens) c.loop-i.i (omega (arith, c.loop-i-test.false, c.len-i-end.ensures.len)) c.loop-i.invariant
