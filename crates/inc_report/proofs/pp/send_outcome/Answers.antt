use Rattle.std.proofs.Common.{ℕ, List, [], Ok, ap, ap₂, ◌∙◌}
use Rattle.inc_report.specs.NoOutcomes.{stop_end}
use Rattle.inc_report.specs.PpTexts.{section_of, shown}
use Rattle.inc_answers.specs.Printed.{end_of, with_texts}
use Rattle.inc_report.specs.declared.pp.Wanted.{Wanted}
use Rattle.inc_lookup.specs.Projects.{Layout}
use Rattle.inc_pp.specs.Preprocessing.{Outcome}
use Rattle.inc_answers.specs.declared.outcome.End.{End}
use Rattle.inc_report.proofs.PpLemmas.{outcome_end, outcome_text}
use Rattle.inc_answers.proofs.SendingLemmas.{sends_then}
use Rattle.inc_report.proofs.pp.send_outcome.Goals as goal

-- what is told of an outcome
abbrev told_of : Wanted → (source : List ℕ) → Layout → Outcome → End
told_of wanted source layout o = (shown wanted source (section_of layout (Ok o))).end

pub returns-clause-sent : goal.returns-clause-sent
returns-clause-sent g c = record {
  ends = c.texted.ensures ∙ ap₂ (λ r e. with_texts r e c.args.told.stop (end_of [] c.kind_of.result)) c.requires.told.0 c.requires.told.1
      ∙ ap (λ s. with_texts (told_of c.args.job.now.wanted c.args.path.now c.args.job.now.project.now c.args.outcome.now).rules
      (told_of c.args.job.now.wanted c.args.path.now c.args.job.now.project.now c.args.outcome.now).endings s (end_of [] c.kind_of.result)) c.requires.told.2
      ∙ ap (λ k. with_texts (told_of c.args.job.now.wanted c.args.path.now c.args.job.now.project.now c.args.outcome.now).rules
      (told_of c.args.job.now.wanted c.args.path.now c.args.job.now.project.now c.args.outcome.now).endings
      (told_of c.args.job.now.wanted c.args.path.now c.args.job.now.project.now c.args.outcome.now).stops (end_of [] k))
      (c.kind_of.ensures ∙ ap stop_end c.stop-2.ensures ∙ ap (λ (e : End). e.kind) (outcome_end c.args.job.now.project.now c.args.outcome.now));
  sent = sends_then _ _ _ _ _ c.send_title.ensures
      (rw (← outcome_text c.args.job.now.project.now c.args.outcome.now, ← c.text.ensures, ← c.stop.ensures) (sends_then _ _ _ _ _ c.send.ensures c.send_stop.ensures));
}
