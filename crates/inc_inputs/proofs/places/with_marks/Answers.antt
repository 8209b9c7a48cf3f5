use Rattle.std.proofs.Common.{◌≡◌, ◌+◌, Err, ap, map, subst, sym}
use Rattle.inc_inputs.specs.Places.{marks_behind, words_marks}
use Rattle.inc_inputs.specs.Reports.{report_of}
use Rattle.inc_inputs.proofs.PlaceMarks.{marks_fault, marks_left, marks_more}
use Rattle.inc_inputs.proofs.places.with_marks.Goals as goal

pub returns-in-Err : goal.returns-in-Err
returns-in-Err c not =
    marks_fault (λ w. w.now) c.args.project.now c.args.side c.args.words.now c.loop-word.word-index _ c.loop-word-test.true c.loop-word.marks.items _
    (report_of c.in-Err.failure) (c.in-Err.ensures.fault (λ same. not (ap Err same))) c.loop-word.invariant

pub loop-word-preserved : goal.loop-word-preserved
loop-word-preserved c =
    let all = marks_behind c.args.listed.items (words_marks c.args.project.now c.args.side (map (λ w. w.now) c.args.words.now)) in
    subst (λ ms. marks_behind ms (marks_left (λ w. w.now) c.args.project.now c.args.side c.args.words.now (c.loop-word.word-index + 1)) ≡ all) (sym c.in-Ok.ensures.added.2)
    (marks_more (λ w. w.now) c.args.project.now c.args.side c.args.words.now c.loop-word.word-index _ c.loop-word-test.true c.loop-word.marks.items
    c.in-Ok.ensures.added.0 all c.in-Ok.ensures.added.1 c.loop-word.invariant)
