use Rattle.inc_check.specs.Reading.{mark_with}
use Rattle.inc_inputs.proofs.PlaceMarks.{pushed_next}
use Rattle.inc_inputs.proofs.places.push_marks.Goals as goal

pub loop-path-preserved : goal.loop-path-preserved
loop-path-preserved c =
    pushed_next (λ p. p.now) c.args.paths.now c.loop-path.path-index _ c.loop-path-test.true (mark_with c.args.line) c.args.marks.now.items c.loop-path.marks.items _
    c.loop-path.invariant c.in_ok-push_mark.ensures
