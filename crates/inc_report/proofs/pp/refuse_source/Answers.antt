use Rattle.std.proofs.Common.{[], ap, ap₂, refl, ◌++◌, ◌∙◌}
use Rattle.inc_report.specs.PpTexts.{if_wanted, refused_section, shown, title}
use Rattle.inc_answers.specs.Printed.{end_of, with_texts}
use Rattle.inc_answers.specs.Refusals.{refusal, refusal_text}
use Rattle.inc_report.specs.SourceEndings.{ending_text}
use Rattle.inc_answers.specs.Views.{seen_refusal}
use Rattle.inc_answers.specs.declared.outcome.EndKind.TheVariants.{Refused}
use Rattle.inc_report.proofs.PpLemmas.{unruled}
use Rattle.inc_answers.proofs.SendingLemmas.{sends_then}
use Rattle.inc_answers.proofs.WritingLemmas.{prints_one}
use Rattle.inc_report.proofs.pp.refuse_source.Goals as goal

pub returns-in-Ok-clause-sent : goal.returns-in-Ok-clause-sent
returns-in-Ok-clause-sent g c =
    let wanted = c.args.job.now.wanted in
    let path = c.args.path.now in
    prints_one _ (shown wanted path (refused_section (refusal (seen_refusal c.args.refused)))) _ _ _ refl
    (record {
      ends = c.texted.ensures
          ∙ ap₂ (λ r e. with_texts r e c.none-in-Ok.result (end_of [] Refused)) (c.none.ensures ∙ unruled wanted.rules)
          (c.in-Ok.ensures.ending ∙ ap (λ t. if_wanted wanted.endings (ending_text path (title wanted.titles path ++ t) t)) c.requires)
          ∙ ap (λ s. with_texts (if_wanted wanted.rules [])
          (if_wanted wanted.endings (ending_text path (title wanted.titles path ++ refusal_text (seen_refusal c.args.refused)) (refusal_text (seen_refusal c.args.refused)))) s (end_of [] Refused)) c.none-in-Ok.ensures;
      sent = sends_then _ _ _ _ _ c.send_title.ensures c.send_refusal.ensures;
    })
