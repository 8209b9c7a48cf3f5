use Rattle.std.proofs.Common.{◌∙◌, List, ap, sym, ℕ}
use Rattle.inc_graph.specs.declared.graphs.Blocker.{Blocker}
use Rattle.inc_answers.specs.DirectiveNames.{kept_kind}
use Rattle.inc_answers.specs.JsonRefusals.{refusal_json}
use Rattle.inc_answers.specs.CommandNames.{command_name}
use Rattle.inc_answers.specs.Refusals.{Blocked}
use Rattle.inc_report.proofs.NamedLemmas.{as_object, as_text, blocked_made, no_object}
use Rattle.inc_answers.proofs.WritingLemmas.{prints_one}
use Rattle.inc_report.proofs.named.refuse_blocked.Goals as goal

pub returns-in-Gcc : goal.returns-in-Gcc
returns-in-Gcc g c =
    let s = c.args.subject in
    let bs = c.blockers-blockers.result.now in
    record {
      sent = prints_one _ _ _ _ _
          (blocked_made c.args.form c.args.question.now s c.in_ok-names.names bs _ _ c.in_ok-names.ensures (sym c.blockers-blockers.ensures.blockers) c.in_ok-reasons.ensures.reasons
          (sym (as_text c.args.form (kept_kind s.language s.files.now) (Blocked s.project.now bs) (no_object c.args.form.format c.in-Gcc.is))))
          c.send_blocked.ensures;
      fault = tt;
    }

pub returns-in_ok-text-in-Json-clause-sent : goal.returns-in_ok-text-in-Json-clause-sent
returns-in_ok-text-in-Json-clause-sent g c =
    let s = c.args.subject in
    let form = c.args.form in
    let bs = c.blockers-blockers.result.now in
    let kind = kept_kind s.language s.files.now in
    prints_one _ _ _ _ _
    (blocked_made form c.args.question.now s c.in_ok-names.names bs _ _ c.in_ok-names.ensures (sym c.blockers-blockers.ensures.blockers) c.in_ok-reasons.ensures.reasons
    (c.in_ok-text-in-Json.ensures
    ∙ ap (λ (command : List ℕ). refusal_json command kind (Blocked s.project.now s.graph.now.blockers)) c.name.ensures
    ∙ ap (λ (l : List Blocker). refusal_json (command_name form.asked) kind (Blocked s.project.now l)) (sym c.blockers-blockers.ensures.blockers)
    ∙ sym (as_object form kind (Blocked s.project.now bs) c.in-Json.is)))
    c.send.ensures
