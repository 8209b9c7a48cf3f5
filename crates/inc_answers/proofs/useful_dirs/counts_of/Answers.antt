use Rattle.std.proofs.Common.{◌∙◌, arith}
use Rattle.inc_answers.proofs.UsefulDirLemmas.{files_more}
use Rattle.inc_answers.proofs.useful_dirs.counts_of.Goals as goal

pub loop-place-preserved : goal.loop-place-preserved
loop-place-preserved c =
    files_more c.args.names.now.keys c.args.project.now c.loop-place.counts.entries c.count_at.new.counts.entries c.loop-place.place
    (omega (arith, c.loop-place-test.true, c.count-place-end.ensures.count)) c.in_ok-count_at.ensures
    ∙ c.loop-place.invariant
