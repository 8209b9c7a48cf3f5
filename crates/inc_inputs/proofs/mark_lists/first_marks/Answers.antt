use Rattle.std.proofs.Common.{◌≡◌, ◌+◌, ◌-◌, ◌≤◌, Err, ℕ, ap, ◌∙◌, arith}
use Rattle.inc_inputs.specs.MarkLists.{first_marks, lines_of}
use Rattle.inc_inputs.proofs.MarkListLemmas.{first_done, first_missing, first_step, place_bad, place_done, place_low}
use Rattle.inc_inputs.proofs.mark_lists.first_marks.Goals as goal

pub returns-in_default-clause-fault : goal.returns-in_default-clause-fault
returns-in_default-clause-fault c = λ line same.
    let is : c.loop-left.line ≡ line = cc in
    first_missing (first_marks c.args.count 2 (lines_of c.args.text.now)) c.loop-left.marks.items c.loop-left.line c.loop-left.at c.args.text.now c.loop-left.left c.loop-left.invariant.marks c.loop-left-test.true c.in_default.ensures
    ∙ ap (λ (l : ℕ). Err l) is

pub returns-in_default-2-clause-fault : goal.returns-in_default-2-clause-fault
returns-in_default-2-clause-fault c = λ line same.
    let is : c.loop-left.line ≡ line = cc in
    place_bad c.loop-left.line (first_marks c.loop-left.left c.loop-left.line) (first_marks (c.loop-left.left - 1) (c.loop-left.line + 1)) (first_step c.loop-left.left c.loop-left.line c.loop-left-test.true)
    (first_marks c.args.count 2 (lines_of c.args.text.now)) c.loop-left.marks.items c.loop-left.at c.args.text.now c.loop-left.invariant.marks
    c.in-Some.end c.in-Some.ensures _ c.in_ok-mark.ensures c.in_default-2.is
    ∙ ap (λ (l : ℕ). Err l) is

pub loop-left-preserved : goal.loop-left-preserved
loop-left-preserved c =
    let lines : c.loop-left.line ≤ c.loop-left.at + 2 = c.loop-left.invariant.lines in
    record {
      within =
          place_low c.loop-left.line (first_marks c.loop-left.left c.loop-left.line) (first_marks (c.loop-left.left - 1) (c.loop-left.line + 1)) (first_step c.loop-left.left c.loop-left.line c.loop-left-test.true)
          (first_marks c.args.count 2 (lines_of c.args.text.now)) c.loop-left.marks.items c.loop-left.at c.args.text.now c.loop-left.invariant.marks
          c.in-Some.end c.in-Some.ensures _ c.in_ok-mark.ensures;
      lines = omega (arith, lines);
      marks =
          place_done c.loop-left.line (first_marks c.loop-left.left c.loop-left.line) (first_marks (c.loop-left.left - 1) (c.loop-left.line + 1)) (first_step c.loop-left.left c.loop-left.line c.loop-left-test.true)
          (first_marks c.args.count 2 (lines_of c.args.text.now)) c.loop-left.marks.items c.loop-left.at c.args.text.now c.loop-left.invariant.marks
          c.in-Some.end c.in-Some.ensures _ c.in_ok-mark.ensures c.in-Some-2.mark _ c.in-Some-2.is c.in_ok-push.ensures.items;
    }

pub returns-clause-marks : goal.returns-clause-marks
returns-clause-marks c = first_done (first_marks c.args.count 2 (lines_of c.args.text.now)) c.loop-left.marks.items c.loop-left.line c.loop-left.at c.args.text.now c.loop-left.left c.loop-left.invariant.marks c.loop-left-test.false
