-- What is written beside an answer.
use Rattle.std.proofs.Common.{◌≡◌, ◌≢◌, ◌∙◌, ℕ, List, Option, Bor, Result, Ok, Err, refl}
use Rattle.inc_inputs.specs.Inputs.{Puts}
use Rattle.inc_inputs.specs.Reports.{Report, out_of_memory}
use Rattle.inc_inputs.specs.Steps.{Step, comes_to, then}
use Rattle.inc_inputs.specs.WrittenBaselines.{writes_baseline}
use Rattle.inc_answers.specs.declared.asked.RuleList.{RuleList}
use Rattle.inc_report.specs.declared.named.Format.{Format}
use Rattle.inc_answers.specs.declared.outcome.EndKind.{EndKind}
use Rattle.inc_answers.specs.declared.outcome.EndKind.TheVariants.{Answered, Negative, Refused}
use Rattle.inc_cli.specs.Outputs.{Answer}
use Rattle.inc_cli.specs.Questions.{with_note, writes_by, writes_for, writes_told}
use Rattle.inc_cli.specs.Views.{seen_command}
use Rattle.inc_cli.specs.declared.commands.Command.{Command}
use Rattle.inc_cli.specs.declared.commands.Command.TheVariants as command

module _ {S : Type 0} (puts : Puts S) where
  -- a command that writes no baseline has nothing written
  pub writes_none : (k : Command) → ((format : Option Format) (list : RuleList) (name : Bor (List ℕ)) → k ≡ command.WriteBaseline format list name → ⊥) → (told : Result Answer Report) (at : S)
      → writes_for puts (seen_command k) told at told at
  writes_none (command.Why fails most) never told at = (refl, refl)
  writes_none (command.Who chains fails most) never told at = (refl, refl)
  writes_none command.Graph never told at = (refl, refl)
  writes_none command.Cut never told at = (refl, refl)
  writes_none command.Blank never told at = (refl, refl)
  writes_none command.Patch never told at = (refl, refl)
  writes_none (command.Named form) never told at = (refl, refl)
  writes_none (command.Rules format list b) never told at = (refl, refl)
  writes_none (command.WriteBaseline format list name) never told at = absurd (never format list name refl)
  writes_none (command.Cost format top) never told at = (refl, refl)
  writes_none (command.Tree format) never told at = (refl, refl)
  writes_none command.Folded never told at = (refl, refl)
  writes_none (command.Check name) never told at = (refl, refl)

  -- memory ran out in the end where it did before something was to be written
  pub told_before : (name : List ℕ) (told answer : Result Answer Report) (old new : S) → writes_told puts name told old answer new → answer ≢ Err out_of_memory → told ≢ Err out_of_memory
  told_before name (Ok a) answer old new h not = λ e. cc
  told_before name (Err r) answer old new h not = λ e. not (h.0 ∙ e)

  -- a refusal has no baseline
  pub by_refused : (name : List ℕ) (a : Answer) (kind : EndKind) (at : S) → kind ≡ Refused → writes_by puts name a kind at (Ok a) at
  by_refused name a Answered at is = cc
  by_refused name a Negative at is = cc
  by_refused name a Refused at is = (refl, refl)

  -- any other answer has one
  pub by_answer : (name : List ℕ) (a : Answer) (kind : EndKind) (old new : S) (answer : Result Answer Report) → kind ≢ Refused
      → then (writes_baseline puts name a.end.baseline) (λ note. comes_to (Ok (with_note a note))) old answer new → writes_by puts name a kind old answer new
  by_answer name a Answered old new answer other h = h
  by_answer name a Negative old new answer other h = h
  by_answer name a Refused old new answer other h = absurd (other refl)
