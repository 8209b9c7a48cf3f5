use Rattle.std.proofs.Common.{◌-◌, arith}
use Rattle.inc_expand.proofs.PutSteps.{known-segment-there, put-segment-at}
use Rattle.inc_expand.proofs.puts.put_segments.Goals as goal

pub put_segment-requires-clause-tokens : goal.put_segment-requires-clause-tokens
put_segment-requires-clause-tokens c = known-segment-there c.args.sets.now c.loop-i.sets c.args.segments.now (c.loop-i.i - 1) _ c.loop-i.invariant.1.keeps c.requires.tokens (omega (arith, c.loop-i.invariant.0, c.loop-i-test.true))

pub loop-i-preserved : goal.loop-i-preserved
loop-i-preserved c = (
  omega (arith, c.loop-i.invariant.0),
  put-segment-at c.args.rule c.args.sets.now c.loop-i.sets c.put_segment.new.sets c.args.line c.args.names c.args.segments.now (c.loop-i.i - 1) c.loop-i.i _ c.args.list.now c.loop-i.list c.put_segment.new.list
      c.requires.names c.requires.tokens (omega (arith, c.loop-i.invariant.0, c.loop-i-test.true)) (omega (arith, c.loop-i-test.true)) c.loop-i.invariant.1 c.in_ok-put_segment.ensures.put,
)
