use Rattle.std.proofs.Common.{◌-◌, arith}
use Rattle.inc_expand.proofs.PutSteps.{known-there, put-token-at}
use Rattle.inc_expand.proofs.puts.put_carried.Goals as goal

pub put_token-requires-clause-token : goal.put_token-requires-clause-token
put_token-requires-clause-token c = known-there c.args.sets.now c.loop-i.sets c.args.tokens.now (c.loop-i.i - 1) _ c.loop-i.invariant.1.keeps c.requires.tokens (omega (arith, c.loop-i.invariant.0, c.loop-i-test.true))

pub loop-i-preserved : goal.loop-i-preserved
loop-i-preserved c = (
  omega (arith, c.loop-i.invariant.0),
  put-token-at c.args.rule c.args.sets.now c.loop-i.sets c.put_token.new.sets c.args.line c.args.names c.args.tokens.now (c.loop-i.i - 1) c.loop-i.i _ c.args.list.now c.loop-i.list c.put_token.new.list
      c.requires.names c.requires.tokens (omega (arith, c.loop-i.invariant.0, c.loop-i-test.true)) (omega (arith, c.loop-i-test.true)) c.loop-i.invariant.1 c.in_ok-last.ensures.put,
  c.in_ok-last.ensures.joined,
)
