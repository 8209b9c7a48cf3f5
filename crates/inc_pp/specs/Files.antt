-- The files of a project as they are preprocessed (ISO/IEC 9899:2018, 5.1.1.2 phases 1 to 3; 6.10). A choice of this profile:
-- include directives can be taken as removed.
use Rattle.std.specs.Prelude.{ℕ, Bool, List, Result, Ok, Err}
use Rattle.inc_text.specs.PhaseText.{Cell, phase_text}
use Rattle.inc_text.specs.declared.languages.Language.{Language}
use Rattle.inc_token.specs.declared.lines.LexFault.{LexFault}
use Rattle.inc_token.specs.declared.lines.LexFault.TheVariants as lex
use Rattle.inc_token.specs.TokenLines.{TokenLine, token_lines}
use Rattle.inc_directive.specs.declared.sections.BalanceFault.{BalanceFault}
use Rattle.inc_directive.specs.declared.sections.BalanceFault.TheVariants as balance
use Rattle.inc_directive.specs.Groups.{Group, file_tree}
use Rattle.inc_directive.specs.Removal.{with_removed}
use Rattle.inc_lookup.specs.declared.projects.DirectiveId.{DirectiveId}
use Rattle.inc_lookup.specs.DirectiveLists.{is_listed}
use Rattle.inc_lookup.specs.Projects.{Listing, bytes_at}
use Rattle.inc_macro.specs.Results.{◌>>=◌}
use Rattle.inc_pp.specs.declared.causes.Cause.{Cause}
use Rattle.inc_pp.specs.declared.causes.Cause.TheVariants as cause

-- why a file has no tree: the cause, and the physical line
abbrev pub FileFault : Type 0
FileFault = Cause × ℕ

abbrev pub of_lex : LexFault → FileFault
of_lex (lex.OpenComment line) = (cause.Lex (lex.OpenComment line), line)
of_lex lex.NoMemory = (cause.Lex lex.NoMemory, 0)

abbrev pub of_balance : BalanceFault → FileFault
of_balance (balance.OpenIf line) = (cause.Balance (balance.OpenIf line), line)
of_balance (balance.StrayBranch line) = (cause.Balance (balance.StrayBranch line), line)
of_balance (balance.AfterElse line) = (cause.Balance (balance.AfterElse line), line)
of_balance balance.NoMemory = (cause.Balance balance.NoMemory, 0)

-- the tree of lines, or the fault in its place
abbrev pub tree_of_lines : Language → List TokenLine → Result Group FileFault
tree_of_lines language ls = elim (file_tree language ls) [ Ok tree ↦ Ok tree | Err fault ↦ Err (of_balance fault) ]

-- the lines of a text, or the fault in their place
abbrev pub lines_or_fault : Result (List TokenLine) LexFault → Result (List TokenLine) FileFault
lines_or_fault (Ok ls) = Ok ls
lines_or_fault (Err fault) = Err (of_lex fault)

-- the tree of a text, once the include directives on these lines are removed
abbrev pub text_tree : Language → (removed : ℕ → Bool) → List Cell → Result Group FileFault
text_tree language removed text =
    lines_or_fault (token_lines language text) >>= λ ls. tree_of_lines language (with_removed language removed ls)

-- the tree of a file, once these directives are removed
abbrev pub tree_of : Language → Listing → List DirectiveId → ℕ → Result Group FileFault
tree_of language listing without file =
    text_tree language (is_listed without file) (phase_text language (bytes_at listing file))
