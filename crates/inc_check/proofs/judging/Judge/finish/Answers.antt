use Rattle.std.proofs.Common.{arith}
use Rattle.inc_check.specs.Judging.{IsBegun}
use Rattle.inc_check.proofs.ChainSumLemmas.{at_good}
use Rattle.inc_check.proofs.JudgeLemmas.{ended_whole}
use Rattle.inc_check.proofs.judging.Judge.finish.Goals as goal

pub returns-clause-whole : goal.returns-clause-whole
returns-clause-whole c layout amounts s h =
    ended_whole layout c.args.graph.now amounts c.args.self.now c.close.new.self s h (at_good c.is_begun.result (IsBegun c.args.self.now.stage) _ c.if-not-is_begun.false c.is_begun.ensures) (omega arith) (omega arith)
    (c.close.ensures.closed layout amounts s h)
