use Rattle.std.proofs.Common.{◌≡◌, ◌∙◌, ◌++◌, List, ℕ, Some, None, ap₂, arith, subst, sym, OnOk}
use Rattle.inc_answers.proofs.NoteLemmas.{found_by}
use Rattle.inc_answers.proofs.missing_notes.put_found.Goals as goal

pub returns-in-Some-directory_before : goal.returns-in-Some-directory_before
returns-in-Some-directory_before c =
    let found =
    found_by c.args.project.now c.args.name.now c.path-path.result.now c.loop-place.place c.in-Some.file (Some c.in-Some-directory_before.dir.now) (omega (arith, c.loop-place-test.true, c.count-place-end.ensures.count)) c.in-Some.ensures c.path-path.ensures.path
    c.in-Some-directory_before.ensures
    in
    subst (λ (answer : List ℕ). OnOk c.put_found_line.result (c.put_found_line.new.text.items ≡ answer))
    (ap₂ (λ (xs ys : List ℕ). xs ++ ys) c.loop-place.invariant.same (sym found ∙ c.loop-place.invariant.left)) c.put_found_line.ensures

pub loop-place-preserved : goal.loop-place-preserved
loop-place-preserved c = record {
  left =
      sym (found_by c.args.project.now c.args.name.now c.path-path.result.now c.loop-place.place c.in-Some.file None (omega (arith, c.loop-place-test.true, c.count-place-end.ensures.count)) c.in-Some.ensures c.path-path.ensures.path c.in_default.ensures)
      ∙ c.loop-place.invariant.left;
  same = c.loop-place.invariant.same;
}
