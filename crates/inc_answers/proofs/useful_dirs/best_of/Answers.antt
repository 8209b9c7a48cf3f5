use Rattle.std.proofs.Common.{◌∙◌, arith}
use Rattle.inc_answers.proofs.UsefulDirLemmas.{best_more}
use Rattle.inc_answers.proofs.useful_dirs.best_of.Goals as goal

pub loop-at-preserved : goal.loop-at-preserved
loop-at-preserved c =
    best_more c.args.counts.now.entries _ _ c.loop-at.at (omega (arith, c.loop-at-test.true, c.len-at-end.ensures.len)) c.with_at-best.ensures
    ∙ c.loop-at.invariant
