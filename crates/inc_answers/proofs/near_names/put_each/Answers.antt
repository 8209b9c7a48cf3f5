use Rattle.std.proofs.Common.{codes}
use Rattle.inc_answers.specs.NearNames.{unnamed_line}
use Rattle.inc_answers.proofs.NoteLemmas.{each_more}
use Rattle.inc_answers.proofs.near_names.put_each.Goals as goal

pub loop-word-preserved : goal.loop-word-preserved
loop-word-preserved c =
    each_more (unnamed_line (codes "source") c.args.project.now.paths) (λ w. w.now) c.args.text.now.items c.loop-word.text.items c.put_unnamed.new.text.items c.args.words.now
    c.loop-word.word-index _ c.loop-word-test.true c.loop-word.invariant c.in_ok-put_unnamed.ensures
