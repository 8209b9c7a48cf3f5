use Rattle.std.proofs.Common.{ℕ, refl, ap, inl, inr, subst, ◌∙◌}
use Rattle.inc_report.specs.CheckText.{verdict_printed}
use Rattle.inc_answers.specs.AnswerNotes.{empty_notes}
use Rattle.inc_answers.specs.Printed.{end_of}
use Rattle.inc_answers.specs.Refusals.{Malformed, refusal}
use Rattle.inc_answers.specs.Writing.{SendsWhole}
use Rattle.inc_report.proofs.ByteLemmas.{bytes_all}
use Rattle.inc_answers.proofs.WritingLemmas.{prints_one}
use Rattle.inc_report.proofs.check.judge_text.Goals as goal

pub returns-in-Ok-clause-sent : goal.returns-in-Ok-clause-sent
returns-in-Ok-clause-sent g c =
    prints_one _ (verdict_printed (empty_notes c.args.project.now c.args.graph.now) c.in-Ok.verdict) _ _ _
    (bytes_all _ _ _ (λ text told. inr (told.0, c.in-Ok.verdict, told.1, told.2, refl)) c.in-Ok.ensures.verdict)
    (record { ends = c.noted.ensures ∙ ap (λ n. end_of n c.kind_of-kind.result) c.in_ok-notes.ensures ∙ ap (end_of (empty_notes c.args.project.now c.args.graph.now)) c.kind_of-kind.ensures; sent = c.send_verdict.ensures })

pub returns-in-Err-Malformed-clause-sent : goal.returns-in-Err-Malformed-clause-sent
returns-in-Err-Malformed-clause-sent g c =
    prints_one _ (refusal (Malformed c.in-Err-Malformed.line)) _ _ _
    (bytes_all _ _ _ (λ text bad. inl (c.in-Err-Malformed.line, bad, refl)) (c.in-Err-Malformed.ensures.fault _ c.in-Err-Malformed.field-0-is))
    (subst (λ (n : ℕ). SendsWhole (refusal (Malformed n)) c.args.out.now c.refuse.new.out c.refuse.result) c.in-Err-Malformed.line-is c.refuse.ensures)
