use Rattle.inc_expand.specs.Lent.{lent_tokens}
use Rattle.std.proofs.Common.{arith}
use Rattle.inc_expand.proofs.OptionalRuns.{pushed, pushed-all}
use Rattle.inc_expand.proofs.optionals.push_lent.Goals as goal

pub loop-i-preserved : goal.loop-i-preserved
loop-i-preserved c =
    pushed c.args.all.now.items (lent_tokens c.args.tokens) c.loop-i.all.items c.push.new.self.items c.loop-i.i c.at.result
    (omega (arith, c.loop-i-test.true, c.len-i-end.ensures.len)) (c.at.ensures c.at.result) c.loop-i.invariant c.in_ok-push.ensures.items

pub returns : goal.returns
returns c =
    pushed-all c.args.all.now.items (lent_tokens c.args.tokens) c.loop-i.all.items c.loop-i.i (omega (arith, c.loop-i-test.false, c.len-i-end.ensures.len)) c.loop-i.invariant
