-- The line that says why a file is bad, beside the refusal.
use Rattle.std.specs.Prelude.{ℕ, List, [], ◌∷◌, ◌++◌, codes, decimal}
use Rattle.inc_directive.specs.FileDirectives.{bad_line}
use Rattle.inc_directive.specs.declared.files.FileFault.{FileFault}
use Rattle.inc_directive.specs.declared.files.FileFault.TheVariants.{OpenComment, Balance, NoMemory}
use Rattle.inc_directive.specs.declared.sections.BalanceFault.{BalanceFault}
use Rattle.inc_directive.specs.declared.sections.BalanceFault.TheVariants as balance
use Rattle.inc_answers.specs.MissingNotes.{shown}
use Rattle.inc_answers.specs.Printed.{Printed}
use Rattle.inc_answers.specs.Refusals.{BadFile, refusal_for}

-- a fault of conditionals in words; that memory ran out is none
abbrev pub balance_words : BalanceFault → List ℕ
balance_words (balance.OpenIf line) = codes "unterminated #if"
balance_words (balance.StrayBranch line) = codes "#elif, #else or #endif without #if"
balance_words (balance.AfterElse line) = codes "#elif or #else after #else"
balance_words balance.NoMemory = []

-- a fault of a file in words
abbrev pub fault_words : FileFault → List ℕ
fault_words (OpenComment line) = codes "unterminated comment"
fault_words (Balance fault) = balance_words fault
fault_words NoMemory = []

-- the line that says in words what is at a line of a file that is called so
abbrev pub reason_line : (title : List ℕ) → (line : ℕ) → (words : List ℕ) → List ℕ
reason_line title line words = codes "incut: " ++ shown title ++ codes ":" ++ decimal line ++ codes ": " ++ words ++ 10 ∷ []

-- the line on a file that is called so
abbrev pub bad_file_line : (title : List ℕ) → FileFault → List ℕ
bad_file_line title fault = reason_line title (bad_line fault) (fault_words fault)

-- what is printed of a file with this path and fault, which is called so
abbrev pub bad_file : (path title : List ℕ) → FileFault → Printed
bad_file path title fault = refusal_for (bad_file_line title fault) (BadFile (record { path = path; line = bad_line fault }))
