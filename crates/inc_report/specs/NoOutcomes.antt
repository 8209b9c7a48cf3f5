-- Why a preprocessing has no outcome, what is printed then, and what is printed after the tokens of one that has.
use Rattle.std.specs.Prelude.{◌≡◌, ℕ, List, [], Option, Some, None}
use Rattle.inc_text.specs.declared.devices.ReadFault.{ReadFault}
use Rattle.inc_lookup.specs.Projects.{Layout}
use Rattle.inc_pp.specs.declared.causes.Stop.{Stop}
use Rattle.inc_pp.specs.declared.outcomes.PpRefusal.TheVariants as pp
use Rattle.inc_pp.specs.Refusals.{read_fault_of}
use Rattle.inc_answers.specs.declared.outcome.EndKind.{EndKind}
use Rattle.inc_answers.specs.declared.outcome.EndKind.TheVariants.{Answered, Negative}
use Rattle.inc_report.specs.declared.pp.NoOutcome.{NoOutcome}
use Rattle.inc_report.specs.declared.pp.NoOutcome.TheVariants.{NoSource, Refused}
use Rattle.inc_report.specs.PpText.{define_number, stop_text}
use Rattle.inc_answers.specs.Printed.{Printed}
use Rattle.inc_answers.specs.Refusals.{NoSuchSource, BadDefinition, refusal}

-- what is printed then; where a file is not read, or memory runs out, nothing is
abbrev pub IsRefusedPp : NoOutcome → Printed → Type 0
IsRefusedPp NoSource p = p ≡ refusal NoSuchSource
IsRefusedPp (Refused (pp.BadDefinition index fault)) p = p ≡ refusal (BadDefinition index (define_number fault))
IsRefusedPp (Refused _) p = ⊥

-- the file that was not read, and why
abbrev pub unread_for : NoOutcome → Option (ℕ × ReadFault)
unread_for NoSource = None
unread_for (Refused fault) = read_fault_of fault

-- what is after the tokens
abbrev pub stop_line : Layout → Option Stop → List ℕ
stop_line layout None = []
stop_line layout (Some s) = stop_text layout s

-- how the call ends
abbrev pub stop_end : Option Stop → EndKind
stop_end None = Answered
stop_end (Some s) = Negative
