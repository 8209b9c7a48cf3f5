use Rattle.std.proofs.Common.{◌≡◌, ◌&&◌, ap, sym, ◌∙◌, arith, refl, drop, subst}
use Rattle.std.proofs.lemmas.Result.{err_from_is_err_and}
use Rattle.inc_token.specs.LineFronts.{IsTextFront, Nothing, ahead, line_brief}
use Rattle.inc_token.specs.LineWalk.{lines_at}
use Rattle.inc_token.proofs.FrontPlaces.{run_begun, run_fault, run_more, run_over}
use Rattle.inc_token.proofs.lines.fronts.Walk.skip_text.Goals as goal
use Rattle.inc_token.proofs.lines.fronts.Walk.skip_text.Goals.{then-run, else-run}

pub loop-run-init : goal.loop-run-init
loop-run-init c =
    let w = c.args.self.now in
    let h = c.requires in
    record {
      walk = h;
      same = refl;
      spoken = refl;
      after = omega arith;
      here = refl;
      few = omega arith;
      run = run_begun c.args.self.now.language w.cursor w.at _ h.within refl refl refl refl;
    }

pub loop-run-preserved : goal.loop-run-preserved
loop-run-preserved c =
    let old = c.loop-run.self in
    let run = c.loop-run.run in
    let h = c.loop-run.invariant in
    let mid = c.text_front.ensures.moved in
    let over = c.end_text.ensures.moved in
    let front = subst (λ o. IsTextFront old o c.text_front.new.self) c.in-Some.is c.in_ok-is_blank.ensures.front in
    let blank : c.if-run.run ≡ run.is_blank && c.in-Some.is_blank =
    elim c.if-run.branch [
      | then-run w ↦ w.run-is ∙ sym (ap (λ x. x && c.in-Some.is_blank) w.if-run.true)
      | else-run w ↦ w.run-is ∙ w.if-run.false ∙ sym (ap (λ x. x && c.in-Some.is_blank) w.if-run.false)
    ] in
    record {
      walk = over.walk;
      same = over.same ∙ mid.same ∙ h.same;
      spoken = over.spoken ∙ mid.spoken ∙ h.spoken;
      after = omega (arith, h.after, mid.after, over.after);
      here = refl;
      few = omega (arith, c.loop-run-test.true, c.in_ok-lines.ensures.few);
      run = run_more c.args.self.now.language old c.text_front.new.self c.end_text.new.self _ c.in_ok-lines.lines c.in-Some.is_blank run _ h.spoken h.run h.here front c.in_ok-lines.ensures.lines c.if-lines-eq0.false
          mid over refl refl blank refl;
    }

pub returns-in_err-is_blank-clause-fault : goal.returns-in_err-is_blank-clause-fault
returns-in_err-is_blank-clause-fault c =
    let w = c.loop-run.self in
    let h = c.loop-run.invariant in
    let p = err_from_is_err_and c.from_residual.result c.from_residual.ensures.1 in
    rw (p.1, p.2)
    (ap (λ cells. lines_at c.args.self.now.language cells c.args.self.now.at) (sym h.same)
    ∙ run_fault c.args.self.now.language w.cursor c.args.self.now.at c.loop-run.run _ h.run (ap (λ k. ahead c.args.self.now.language Nothing (drop k w.cursor)) (sym h.here) ∙ ap (λ k. ahead k Nothing (drop w.at w.cursor)) (sym h.spoken) ∙ c.in_err-is_blank.ensures.fault))

pub returns-in_err-lines-clause-fault : goal.returns-in_err-lines-clause-fault
returns-in_err-lines-clause-fault c =
    let w = c.loop-run.self in
    let h = c.loop-run.invariant in
    let front = subst (λ o. IsTextFront w o c.text_front.new.self) c.in-Some.is c.in_ok-is_blank.ensures.front in
    let p = err_from_is_err_and c.from_residual-in_err-lines.result c.from_residual-in_err-lines.ensures.1 in
    rw (p.1, p.2)
    (ap (λ cells. lines_at c.args.self.now.language cells c.args.self.now.at) (sym h.same)
    ∙ run_fault c.args.self.now.language w.cursor c.args.self.now.at c.loop-run.run _ h.run
    (ap (λ k. ahead c.args.self.now.language Nothing (drop k w.cursor)) (sym h.here) ∙ ap (λ k. ahead k Nothing (drop w.at w.cursor)) (sym h.spoken) ∙ front ∙ c.in_err-lines.ensures.fault (line_brief c.in-Some.is_blank)))

pub returns-then-lines-eq0-clause-front : goal.returns-then-lines-eq0-clause-front
returns-then-lines-eq0-clause-front c =
    let w = c.loop-run.self in
    let front = subst (λ o. IsTextFront w o c.text_front.new.self) c.in-Some.is c.in_ok-is_blank.ensures.front in
    run_over w c.text_front.new.self c.end_text.new.self c.loop-run.run c.in-Some.is_blank c.in_ok-lines.lines c.loop-run.invariant.here front c.in_ok-lines.ensures.lines c.if-lines-eq0.true
    c.text_front.ensures.moved c.end_text.ensures.moved
