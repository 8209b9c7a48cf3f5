use Rattle.std.proofs.Common.{take, sym}
use Rattle.inc_check.specs.Reading.{short_mark_in}
use Rattle.inc_check.proofs.JudgeLemmas.{mark_judged}
use Rattle.inc_check.proofs.judging.Judge.take_mark.Goals as goal

pub returns-clause-judged : goal.returns-clause-judged
returns-clause-judged c s h =
    mark_judged c.args.project.now c.args.graph.now c.args.fixed.now c.put.new.self s c.in-Some.mark (short_mark_in (take c.args.end c.args.text.now)) c.saturating_sub-self.result (sym c.in-Some.ensures) c.saturating_sub-self.ensures
    (c.in_ok-put.ensures.judged s h)
