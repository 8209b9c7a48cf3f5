-- The text that `check` prints.
use Rattle.std.specs.Prelude.{◌≡◌, ◌⊎◌, ℕ, List, ◌++◌, codes, decimal}
use Rattle.inc_answers.specs.AnswerNotes.{empty_notes}
use Rattle.inc_answers.specs.Terms.{Question, Limits}
use Rattle.inc_lookup.specs.Given.{Given}
use Rattle.inc_lookup.specs.Projects.{Layout, Listing}
use Rattle.inc_graph.specs.Cuts.{fixed_by, costs_by}
use Rattle.inc_graph.specs.IncludeGraph.{Graph}
use Rattle.inc_check.specs.Certificates.{reason_number, IsVerdict}
use Rattle.inc_check.specs.CertificateText.{CertificateFormat, IsCertificateText}
use Rattle.inc_check.specs.Texts.{line_text, IsMalformed}
use Rattle.inc_check.specs.declared.certificates.Certificate.{Certificate}
use Rattle.inc_check.specs.declared.verdicts.Reason.{Reason}
use Rattle.inc_check.specs.declared.verdicts.Reason.TheVariants.{NotEditable, Repeated, StillReached, NotAChain, Shared, Counts}
use Rattle.inc_check.specs.declared.verdicts.Verdict.{Verdict}
use Rattle.inc_check.specs.declared.verdicts.Verdict.TheVariants.{Yes, No}
use Rattle.inc_answers.specs.CutText.{WithAmounts}
use Rattle.inc_answers.specs.Printed.{Printed, end_of}
use Rattle.inc_answers.specs.Questions.{IsAnswerBy}
use Rattle.inc_answers.specs.Refusals.{Malformed, refusal}
use Rattle.inc_answers.specs.Strictness.{Strict, open_strays_of}
use Rattle.inc_answers.specs.declared.outcome.EndKind.{EndKind}
use Rattle.inc_answers.specs.declared.outcome.EndKind.TheVariants.{Answered, Negative}

-- the words of a reason
abbrev pub reason_text : Reason → List ℕ
reason_text NotEditable = codes "not editable"
reason_text Repeated = codes "repeated"
reason_text StillReached = codes "still reached"
reason_text NotAChain = codes "not a chain"
reason_text Shared = codes "shared"
reason_text Counts = codes "counts"

abbrev pub verdict_text : Verdict → List ℕ
verdict_text Yes = line_text (codes "yes")
verdict_text (No r) = line_text (codes "no " ++ decimal (reason_number r) ++ codes " " ++ reason_text r)

abbrev pub verdict_kind : Verdict → EndKind
verdict_kind Yes = Answered
verdict_kind (No r) = Negative

-- of a graph, beside which these notes stand
abbrev pub verdict_printed : (notes : List ℕ) → Verdict → Printed
verdict_printed notes v = record { text = verdict_text v; end = end_of notes (verdict_kind v) }

-- printed is where the text is malformed
abbrev pub IsMalformedPrinted : List ℕ → Printed → Type 0
IsMalformedPrinted text p = (line : ℕ) × IsMalformed CertificateFormat text line × (p ≡ refusal (Malformed line))

-- printed is the verdict on the certificate whose text it is
abbrev pub IsVerdictPrinted : List ℕ → Layout → Graph → (amounts : List ℕ) → Printed → Type 0
IsVerdictPrinted text layout g amounts p =
    (c : Certificate) × (v : Verdict) × IsCertificateText text c × IsVerdict layout g (fixed_by amounts) (costs_by amounts) c v
    × (p ≡ verdict_printed (empty_notes layout g) v)

-- what `check` prints of a graph and the text of a certificate
abbrev pub IsCheckOf : (text : List ℕ) → Layout → Graph → (amounts : List ℕ) → Printed → Type 0
IsCheckOf text layout g amounts p = IsMalformedPrinted text p ⊎ IsVerdictPrinted text layout g amounts p

-- what `check` prints, and which files are read for that
abbrev pub IsCheckBy : Question → Limits → (text : List ℕ) → Printed → List Given → Listing → Type 0
IsCheckBy q l text p given listing = IsAnswerBy (Strict (open_strays_of q) (WithAmounts l (IsCheckOf text))) q p given listing
