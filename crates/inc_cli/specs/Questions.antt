-- What a run about a source and a header comes to: what it reads and prints, and what that promises.
use Rattle.std.specs.Prelude.{◌≡◌, ℕ, ◌++◌, false, List, [], Option, None, Some, Result, Ok, IfErr, IfSome, unwrap_or}
use Rattle.inc_text.specs.declared.devices.ReadFault.{ReadFault}
use Rattle.inc_lookup.specs.Given.{Given, HoldsOfGiven}
use Rattle.inc_lookup.specs.Projects.{Listing}
use Rattle.inc_check.specs.Texts.{OfBytes}
use Rattle.inc_report.specs.BaselineText.{IsBaselineBy}
use Rattle.inc_report.specs.BlankHeadline.{BlankHeadline, PatchHeadline}
use Rattle.inc_answers.specs.BlankText.{IsBlankBy, IsPatchBy}
use Rattle.inc_report.specs.CheckText.{IsCheckBy}
use Rattle.inc_answers.specs.CostText.{IsCostBy}
use Rattle.inc_answers.specs.CutText.{IsCutBy}
use Rattle.inc_answers.specs.GraphText.{IsGraphBy}
use Rattle.inc_report.specs.Headline.{CheckHeadline, CutHeadline}
use Rattle.inc_report.specs.NamedHeadline.{NamedHeadline}
use Rattle.inc_report.specs.NamedText.{IsNamedBy}
use Rattle.inc_answers.specs.Printed.{Printed}
use Rattle.inc_answers.specs.Questions.{FailsAt}
use Rattle.inc_report.specs.RulesSarif.{IsSarifBy}
use Rattle.inc_report.specs.RulesText.{IsRulesBy}
use Rattle.inc_answers.specs.TreeText.{AreTreesBy}
use Rattle.inc_answers.specs.WhoText.{IsWhoBy}
use Rattle.inc_answers.specs.WhyText.{IsWhyBy}
use Rattle.inc_answers.specs.Writing.{Writes, is_of_certificate, unread_of}
use Rattle.inc_answers.specs.declared.outcome.End.{End}
use Rattle.inc_answers.specs.declared.outcome.EndKind.{EndKind}
use Rattle.inc_answers.specs.declared.outcome.EndKind.TheVariants.{Refused}
use Rattle.inc_answers.specs.declared.outcome.RunFault.{RunFault}
use Rattle.inc_report.specs.declared.named.NamedForm.{NamedForm}
use Rattle.inc_answers.specs.declared.trees.TreeForm.TheVariants as trees
use Rattle.inc_inputs.specs.Inputs.{Gives, Puts, listed}
use Rattle.inc_inputs.specs.Reports.{Report}
use Rattle.inc_inputs.specs.Steps.{Step, comes_to, next_of, then}
use Rattle.inc_inputs.specs.WrittenBaselines.{writes_baseline}
use Rattle.inc_cli.specs.Commands.{Command, Why, Who, Graph, Cut, Blank, Patch, Named, Rules, WriteBaseline, Cost, Tree, Folded, Check, certificate_of, details_of, named_form}
use Rattle.inc_cli.specs.declared.commands.RuleForm.TheVariants as form
use Rattle.inc_cli.specs.Outputs.{Answer, IsRun, Output, ended}
use Rattle.inc_cli.specs.Runs.{Asked}

-- how a word is opened that is read piece by piece, and the bytes that are left of it where they are known
pub record Opens (S T : Type 0) : Type 1 where
  pub opens : S → (name : List ℕ) → T → Type 0
  pub left : T → Option (List ℕ)

-- what holds of the text of a certificate
abbrev pub OfCertificate : {S T : Type 0} → Opens S T → S → (name : List ℕ) → (List ℕ → Type 0) → Type 0
OfCertificate {S} {T} o state name P = (stream : T) × o.opens state name stream × OfBytes (o.left stream) P

-- what holds of the files of a project as they were read on the way from one state to another
abbrev pub OfFiles : {S : Type 0} → Gives S → Asked → (old new : S) → (List Given → Listing → Type 0) → Type 0
OfFiles gives a old new P = HoldsOfGiven (listed gives a.paths) old new a.layout P

-- what is printed as text; a form of its own is none
abbrev pub IsText : {S T : Type 0} → Gives S → Opens S T → Command → Asked → (old new : S) → Printed → Type 0
IsText gives o (Why fails most) a old new p = OfFiles gives a old new (IsWhyBy fails most a.question p)
IsText gives o (Who with_chains fails most) a old new p = OfFiles gives a old new (IsWhoBy with_chains fails most a.question p)
IsText gives o Graph a old new p = OfFiles gives a old new (IsGraphBy a.question p)
IsText gives o Cut a old new p = OfFiles gives a old new (IsCutBy a.question a.limits p)
IsText gives o Blank a old new p = OfFiles gives a old new (IsBlankBy a.question a.limits p)
IsText gives o Patch a old new p = OfFiles gives a old new (IsPatchBy a.question a.limits p)
IsText gives o (Named form) a old new p = ⊥
IsText gives o (Rules form.Lines list b) a old new p = OfFiles gives a old new (IsRulesBy list.rules a.question p)
IsText gives o (Rules (form.In format) list b) a old new p = ⊥
IsText gives o (Rules form.Sarif list b) a old new p = OfFiles gives a old new (IsSarifBy list a.question p)
IsText gives o (WriteBaseline format list name) a old new p = OfFiles gives a old new (IsBaselineBy format list a.question p)
IsText gives o (Cost format top) a old new p = OfFiles gives a old new (IsCostBy top a.groups a.question p)
IsText gives o (Tree format) a old new p = OfFiles gives a old new (AreTreesBy trees.Lines a.question p)
IsText gives o Folded a old new p = OfFiles gives a old new (AreTreesBy trees.Folded a.question p)
IsText gives o (Check name) a old new p =
    OfCertificate o old name (λ text. OfFiles gives a old new (IsCheckBy a.question a.limits text p))

-- what is printed, in a form or as text
abbrev pub IsPrinted : {S T : Type 0} → Gives S → Opens S T → Option NamedForm → Command → Asked → (old new : S) → Printed → Type 0
IsPrinted gives o (Some form) command a old new p = OfFiles gives a old new (IsNamedBy form a.question (details_of command a.limits a.groups) p)
IsPrinted gives o None command a old new p = IsText gives o command a old new p

-- what is promised by a text, once the directives of the cut and those of --without are removed: no preprocessing reads the header, and
-- nothing cheaper separates
abbrev pub IsTextPromised : {S T : Type 0} → Gives S → Opens S T → Command → Asked → (old new : S) → Printed → Type 0
IsTextPromised gives o Cut a old new p = OfFiles gives a old new (λ given listing. CutHeadline a.question a.limits p listing)
IsTextPromised gives o Blank a old new p = OfFiles gives a old new (λ given listing. BlankHeadline a.question a.limits p listing)
IsTextPromised gives o Patch a old new p = OfFiles gives a old new (λ given listing. PatchHeadline a.question a.limits p listing)
IsTextPromised gives o (Check name) a old new p =
    OfCertificate o old name (λ text. OfFiles gives a old new (λ given listing. CheckHeadline a.question a.limits text p listing))
IsTextPromised gives o _ a old new p = Unit {0}

-- what is promised by what is printed
abbrev pub IsPromised : {S T : Type 0} → Gives S → Opens S T → Option NamedForm → Command → Asked → (old new : S) → Printed → Type 0
IsPromised gives o (Some form) command a old new p =
    OfFiles gives a old new (λ given listing. NamedHeadline form a.question (details_of command a.limits a.groups) p listing)
IsPromised gives o None command a old new p = IsTextPromised gives o command a old new p

-- what is known of a printed text
pub data Known : Type 0 where
  -- which text it is
  Content : Known
  -- what holds by it of every preprocessing
  Promise : Known

abbrev pub IsKnownIn : {S T : Type 0} → Known → Gives S → Opens S T → Option NamedForm → Command → Asked → (old new : S) → Printed → Type 0
IsKnownIn Content = IsPrinted
IsKnownIn Promise = IsPromised

-- of the answer to a command, in its form
abbrev pub IsKnown : {S T : Type 0} → Known → Gives S → Opens S T → Command → Asked → (old new : S) → Printed → Type 0
IsKnown known gives o command = IsKnownIn known gives o (named_form command) command

-- P of what was printed on the way from one state to another, or a file could not be read
pub record Prints {S : Type 0} (P : (new : S) → Printed → Type 0) (Unread : (new : S) → ℕ × ReadFault → Type 0) (out : Output) (result : Result End RunFault) : Type 0 where
  pub new : S
  pub writes : Writes (P new) out.before out.after out.failed result
  pub unread : IfErr result (λ fault. IfSome (unread_of fault) (Unread new))

---- what is written beside it

-- with one more note
abbrev pub with_note : Answer → (note : List ℕ) → Answer
with_note answer note = record { end = answer.end; notes = answer.notes ++ note }

-- the baseline that stands beside an answer goes to the file of this name, and is noted; a refusal has none
abbrev pub writes_by : {S : Type 0} → Puts S → (name : List ℕ) → Answer → EndKind → Step S Answer
writes_by puts name answer Refused = comes_to (Ok answer)
writes_by puts name answer _ = then (writes_baseline puts name answer.end.baseline) (λ note. comes_to (Ok (with_note answer note)))

-- after a failure nothing is written
abbrev pub writes_told : {S : Type 0} → Puts S → (name : List ℕ) → Result Answer Report → Step S Answer
writes_told puts name told = next_of (λ answer. writes_by puts name answer answer.end.kind) told

-- what a command has written, once it is answered or has failed
abbrev pub writes_for : {S : Type 0} → Puts S → Command → Result Answer Report → Step S Answer
writes_for puts (WriteBaseline format list name) told = writes_told puts name told
writes_for puts command told = comes_to told

-- a question was answered so
pub record IsAnswered {S : Type 0} (gives : Gives S) (puts : Puts S) (P : Asked → (old new : S) → Printed → Type 0) (command : Command) (a : Asked) (old : S)
    (out : Output) (answer : Result Answer Report) : Type 0 where
  pub result : Result End RunFault
  -- the state of the inputs in the end
  pub last : S
  -- no certificate fails where none is named
  pub certificate : certificate_of command ≡ None → IfErr result (λ fault. is_of_certificate fault ≡ false)
  pub prints : Prints (P a old) (λ new. FailsAt (listed gives a.paths) old new a.layout a.question) out result
  -- with what is noted of a build and of the words for headers, once what is asked for is written
  pub is : writes_for puts command (ended a.notes a.paths (unwrap_or (certificate_of command) []) result) prints.new answer last

-- a question is asked with a command, by what its words and texts come to
abbrev pub IsAsked : {S T : Type 0} → Gives S → Puts S → Opens S T → Command → Step S Asked → Known → (old : S) → Output → Result Answer Report → Type 0
IsAsked gives puts o command step known = IsRun step (IsAnswered gives puts (IsKnown known gives o command) command)
