use Rattle.std.proofs.Common.{◌≡◌, ◌+◌, ◌≤◌, Err, ℕ, ap, refl, ◌∙◌, arith}
use Rattle.inc_inputs.specs.MarkLists.{lines_of, marks_from}
use Rattle.inc_inputs.proofs.MarkListLemmas.{all_done, place_bad, place_done, place_low}
use Rattle.inc_inputs.proofs.mark_lists.all_marks.Goals as goal

pub returns-in_default-2-clause-fault : goal.returns-in_default-2-clause-fault
returns-in_default-2-clause-fault c = λ line same.
    let is : c.loop-end.line ≡ line = cc in
    place_bad c.loop-end.line (marks_from c.loop-end.line) (marks_from (c.loop-end.line + 1)) (λ l ls. refl) (marks_from 1 (lines_of c.args.text.now)) c.loop-end.marks.items c.loop-end.at c.args.text.now c.loop-end.invariant.marks
    c.in-Some.end c.in-Some.ensures _ c.in_ok-mark.ensures c.in_default-2.is
    ∙ ap (λ (l : ℕ). Err l) is

pub loop-end-preserved : goal.loop-end-preserved
loop-end-preserved c =
    let lines : c.loop-end.line ≤ c.loop-end.at + 1 = c.loop-end.invariant.lines in
    record {
      within =
          place_low c.loop-end.line (marks_from c.loop-end.line) (marks_from (c.loop-end.line + 1)) (λ l ls. refl) (marks_from 1 (lines_of c.args.text.now)) c.loop-end.marks.items c.loop-end.at c.args.text.now c.loop-end.invariant.marks
          c.in-Some.end c.in-Some.ensures _ c.in_ok-mark.ensures;
      lines = omega (arith, lines);
      marks =
          place_done c.loop-end.line (marks_from c.loop-end.line) (marks_from (c.loop-end.line + 1)) (λ l ls. refl) (marks_from 1 (lines_of c.args.text.now)) c.loop-end.marks.items c.loop-end.at c.args.text.now c.loop-end.invariant.marks
          c.in-Some.end c.in-Some.ensures _ c.in_ok-mark.ensures c.in-Some-2.mark _ c.in-Some-2.is c.in_ok-push.ensures.items;
    }

pub returns-clause-marks : goal.returns-clause-marks
returns-clause-marks c = all_done (marks_from 1 (lines_of c.args.text.now)) c.loop-end.marks.items c.loop-end.line c.loop-end.at c.args.text.now c.loop-end.invariant.marks c.in_default.ensures
