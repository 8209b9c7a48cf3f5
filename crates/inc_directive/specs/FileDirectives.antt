-- The directives of a file by its text (ISO/IEC 9899:2018, 5.1.1.2 phase 3, and 6.10), or the first fault.
use Rattle.std.specs.Prelude.{◌≡◌, ℕ, List, [], ◌∷◌, Option, Some, None, Result, Ok, Err, filter_map, unwrap_or}
use Rattle.inc_text.specs.PhaseText.{Cell}
use Rattle.inc_text.specs.declared.languages.Language.{Language}
use Rattle.inc_token.specs.declared.lines.LexFault.{LexFault}
use Rattle.inc_token.specs.declared.lines.LexFault.TheVariants as lex
use Rattle.inc_token.specs.TokenLines.{TokenLine, token_lines}
use Rattle.inc_directive.specs.LineKinds.{LineKind, Text}
use Rattle.inc_directive.specs.Groups.{FileLine, Group, directive_line, file_tree, lines_of}
use Rattle.inc_directive.specs.declared.sections.BalanceFault.{BalanceFault}
use Rattle.inc_directive.specs.declared.sections.BalanceFault.TheVariants as balance
use Rattle.inc_directive.specs.declared.files.FileFault.{FileFault}
use Rattle.inc_directive.specs.declared.files.FileFault.TheVariants.{OpenComment, Balance, NoMemory}

-- a directive: its kind, and the physical line of its `#`
pub record Directive : Type 0 where
  pub kind : LineKind
  pub line : ℕ

-- a line of text is none
abbrev pub directive_of : LineKind → (line : ℕ) → Option Directive
directive_of Text line = None
directive_of kind line = Some (record { kind = kind; line = line })

abbrev pub directives_in : List FileLine → List Directive
directives_in lines = filter_map (λ (l : FileLine). directive_of l.kind (directive_line l)) lines

abbrev pub lex_fault : LexFault → FileFault
lex_fault (lex.OpenComment line) = OpenComment line
lex_fault lex.NoMemory = NoMemory

abbrev pub balance_fault : BalanceFault → FileFault
balance_fault balance.NoMemory = NoMemory
balance_fault fault = Balance fault

-- the directives of a tree, or the fault in its place
abbrev pub tree_directives : Result Group BalanceFault → Result (List Directive) FileFault
tree_directives (Ok tree) = Ok (directives_in (lines_of tree))
tree_directives (Err fault) = Err (balance_fault fault)

-- an unterminated comment comes before all faults of conditionals
abbrev pub line_directives : Language → Result (List TokenLine) LexFault → Result (List Directive) FileFault
line_directives language (Ok lines) = tree_directives (file_tree language lines)
line_directives language (Err fault) = Err (lex_fault fault)

-- the directives of a text, or its first fault
abbrev pub file_directives : Language → List Cell → Result (List Directive) FileFault
file_directives language text = line_directives language (token_lines language text)

-- the physical line of a fault; running out of memory is no fault of the file
abbrev pub balance_line : BalanceFault → Option ℕ
balance_line (balance.OpenIf line) = Some line
balance_line (balance.StrayBranch line) = Some line
balance_line (balance.AfterElse line) = Some line
balance_line balance.NoMemory = None

abbrev pub fault_line : FileFault → Option ℕ
fault_line (OpenComment line) = Some line
fault_line (Balance fault) = balance_line fault
fault_line NoMemory = None

-- the same as a number; running out of memory has none
abbrev pub bad_line : FileFault → ℕ
bad_line fault = unwrap_or (fault_line fault) 0

-- one directive on, or there is none left
abbrev pub GoesOn : List Directive → Option Directive → List Directive → Type 0
GoesOn old None new = (old ≡ []) × (new ≡ [])
GoesOn old (Some d) new = old ≡ d ∷ new
