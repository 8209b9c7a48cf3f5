-- What a run comes to that lists the include directives of a file.
use Rattle.std.specs.Prelude.{◌≡◌, ℕ, true, List, [], Option, Some, None, Result, Ok, Err, IfErr, codes, unwrap_or}
use Rattle.std.specs.Io.KnownBytes.{Keeps}
use Rattle.inc_text.specs.declared.devices.ReadFault.{ReadFault}
use Rattle.inc_text.specs.declared.devices.ReadFault.TheVariants.{TooLong}
use Rattle.inc_text.specs.declared.languages.Language.{Language}
use Rattle.inc_answers.specs.Printed.{Printed}
use Rattle.inc_answers.specs.ScanForms.{scan, too_long}
use Rattle.inc_answers.specs.Writing.{Writes, is_own}
use Rattle.inc_answers.specs.declared.outcome.End.{End}
use Rattle.inc_answers.specs.declared.outcome.RunFault.{RunFault}
use Rattle.inc_answers.specs.declared.scan.ScanForm.{ScanForm}
use Rattle.inc_inputs.specs.Inputs.{FileAt, Gives, Input, StandardInput}
use Rattle.inc_cli.specs.Outputs.{Answer, Output, ended}
use Rattle.inc_inputs.specs.Reports.{Report, read_report}

-- the file, standard input where none is named
abbrev pub scanned : Option (List ℕ) → Input
scanned None = StandardInput
scanned (Some path) = FileAt path

-- the path that is printed
abbrev pub scanned_name : Option (List ℕ) → List ℕ
scanned_name path = unwrap_or path (codes "-")

-- what the file is called beside a refusal
abbrev pub scanned_title : Option (List ℕ) → List ℕ
scanned_title path = unwrap_or path (codes "<stdin>")

-- this was printed
abbrev pub IsOut : Printed → Output → Result Answer Report → Type 0
IsOut p out answer =
    (result : Result End RunFault) × (answer ≡ ended [] [] [] result) × Writes (λ q. q ≡ p) out.before out.after out.failed result
    × IfErr result (λ fault. is_own fault ≡ true)

-- what is printed where it was not read. Standard input that is too long is refused as a source is
abbrev pub IsUnread : ScanForm → Option (List ℕ) → ReadFault → Output → Result Answer Report → Type 0
IsUnread form None TooLong out answer = IsOut (too_long form) out answer
IsUnread form path fault out answer = (answer ≡ Err (read_report fault (scanned_name path))) × Keeps out.before out.after

-- what is printed of the answer of a reading
abbrev pub IsScanOf : Language → ScanForm → Option (List ℕ) → Result (List ℕ) ReadFault → Output → Result Answer Report → Type 0
IsScanOf language form path (Ok bytes) out answer = IsOut (scan form language (scanned_name path) (scanned_title path) bytes) out answer
IsScanOf language form path (Err fault) out answer = IsUnread form path fault out answer

-- the file is read, and its directives are listed
abbrev pub IsScan : {S : Type 0} → Gives S → Language → ScanForm → Option (List ℕ) → (old : S) → Output → Result Answer Report → Type 0
IsScan {S} gives language form path old out answer =
    (x : Result (List ℕ) ReadFault) × (new : S) × gives old (scanned path) x new × IsScanOf language form path x out answer
