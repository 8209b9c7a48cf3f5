use Rattle.inc_text.specs.declared.languages.Language.{Language}
use Rattle.std.proofs.Common.{List, ap, sym, ◌∙◌, subst}
use Rattle.std.proofs.lemmas.Result.{err_from_is_err_and}
use Rattle.inc_text.specs.PhaseText.{Cell}
use Rattle.inc_token.specs.LineWalk.{TakesLine, before, lines_at}
use Rattle.inc_token.proofs.lines.sketches.TextLines.next.Goals as goal

pub returns-in_err-line-clause-fault : goal.returns-in_err-line-clause-fault
returns-in_err-line-clause-fault c =
    let w = c.self.inside.walk in
    let run = c.in_ok-text.ensures.run in
    let p = err_from_is_err_and c.from_residual-in_err-line.result c.from_residual-in_err-line.ensures.1 in
    rw (p.1, p.2, ← c.self.view_is)
    (run.lines.2 ∙ ap (λ cells. before run.lines.0 (lines_at w.language cells c.in_ok-text.text.end)) (sym c.in_ok-text.ensures.moved.same)
    ∙ ap (λ k. before run.lines.0 (lines_at k c.skip_text.new.self.cursor c.in_ok-text.text.end)) (sym c.in_ok-text.ensures.moved.spoken) ∙ ap (before run.lines.0) c.in_err-line.ensures.fault)

pub returns-clause-next : goal.returns-clause-next
returns-clause-next c =
    let new = c.line.new.self in
    let P : Language → List Cell → Type 0 = λ k cells. TakesLine (record { language = k; text = cells; at = c.in_ok-text.text.end }) c.in_ok-line.line (record { language = new.language; text = new.cursor; at = new.at }) in
    let moved = c.in_ok-text.ensures.moved in
    rw (← c.self.view_is) (record { run = c.in_ok-text.ensures.run; line = subst (λ k. P k c.self.inside.walk.cursor) moved.spoken (subst (P c.skip_text.new.self.language) moved.same c.in_ok-line.ensures.line) })
