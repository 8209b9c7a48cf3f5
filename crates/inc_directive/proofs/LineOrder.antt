-- The directives of a file are on lines that ascend.
use Rattle.std.proofs.Common.{◌≡◌, ℕ, zero, suc, ◌+◌, ◌≤◌, ◌<◌, List, [], ◌∷◌, Result, Ok, Err, IfOk, All, get_or, map, refl, sym, subst, arith}
use Rattle.std.specs.List.{cons_option}
use Rattle.std.specs.List.Sorted.{IsStrictlyIncreasing}
use Rattle.std.proofs.lemmas.List.Elements.{All-nil, All-cons, All-head, All-weaker}
use Rattle.inc_text.specs.PhaseText.{phase_text}
use Rattle.inc_text.proofs.TextLines.{phase_text-ascends}
use Rattle.inc_token.specs.TokenLaws.{IsOnLines, AreTokenLinesFrom}
use Rattle.inc_token.specs.TokenLines.{Tok, TokenLine, token_lines}
use Rattle.inc_text.specs.declared.languages.Language.{Language}
use Rattle.inc_token.specs.declared.lines.LexFault.{LexFault}
use Rattle.inc_token.proofs.LineOrder.{token_lines-ascend}
use Rattle.inc_directive.specs.FileDirectives.{Directive, directive_of, directives_in, tree_directives, line_directives, file_directives}
use Rattle.inc_directive.specs.Groups.{FileLine, Group, file_lines, file_lines_from, file_tree, lines_of}
use Rattle.inc_directive.specs.LineKinds.{LineKind, Text, line_kind, line_of_tokens}
use Rattle.inc_directive.specs.declared.sections.BalanceFault.{BalanceFault}
use Rattle.inc_directive.proofs.TreeLines.{lines-group_tree}

-- each directive is on a later line than the one before it, and the first on this line or a later one
abbrev pub AscendFrom : ℕ → List Directive → Type 0
AscendFrom line [] = Unit {0}
AscendFrom line (d ∷ ds) = (line ≤ d.line) × AscendFrom (d.line + 1) ds

pub lower : (line least : ℕ) (ds : List Directive) → line ≤ least → AscendFrom least ds → AscendFrom line ds
lower line least [] le h = tt
lower line least (d ∷ ds) le h = (omega (arith, h.0), h.1)

ascend_with : (line last at : ℕ) (kind : LineKind) (ds : List Directive) → line ≤ at → at ≤ last → AscendFrom (last + 1) ds → AscendFrom line (cons_option (directive_of kind at) ds)
ascend_with line last at Text ds le end h = lower line (last + 1) ds (omega arith) h
ascend_with line last at kind ds le end h = (le, lower (at + 1) (last + 1) ds (omega arith) h)

ascend_with_line : (language : Language) (line last : ℕ) (tokens : List Tok) (ds : List Directive) → line ≤ last → All (IsOnLines line last) tokens → AscendFrom (last + 1) ds
    → AscendFrom line (cons_option (directive_of (line_kind language tokens) (line_of_tokens tokens)) ds)
ascend_with_line language line last [] ds le on h = lower line (last + 1) ds (omega arith) h
ascend_with_line language line last (t ∷ ts) ds le on h =
    let first : IsOnLines line last t = All-head (IsOnLines line last) t ts on in
    ascend_with line last t.line (line_kind language (t ∷ ts)) ds first.0 first.1 h

ascend_in : (language : Language) (line place : ℕ) (ls : List TokenLine) → AreTokenLinesFrom line ls → AscendFrom line (directives_in (file_lines_from language place ls))
ascend_in language line place [] h = tt
ascend_in language line place (l ∷ ls) h =
    ascend_with_line language line l.last_line l.tokens (directives_in (file_lines_from language (place + 1) ls)) h.0 h.1 (ascend_in language (l.last_line + 1) (place + 1) ls h.2)

by_tree : (line : ℕ) (ls : List FileLine) (r : Result Group BalanceFault) → ((tree : Group) → r ≡ Ok tree → lines_of tree ≡ ls) → AscendFrom line (directives_in ls) → IfOk (tree_directives r) (AscendFrom line)
by_tree line ls (Err fault) keeps h = tt
by_tree line ls (Ok tree) keeps h = subst (λ (ks : List FileLine). AscendFrom line (directives_in ks)) (sym (keeps tree refl)) h

by_lines : (language : Language) (line : ℕ) (r : Result (List TokenLine) LexFault) → IfOk r (AreTokenLinesFrom line) → IfOk (line_directives language r) (AscendFrom line)
by_lines language line (Err fault) h = tt
by_lines language line (Ok ls) h =
    by_tree line (file_lines language ls) (file_tree language ls) (lines-group_tree (file_lines language ls)) (ascend_in language line 0 ls h)

pub file_directives-ascend : (language : Language) (bytes : List ℕ) → IfOk (file_directives language (phase_text language bytes)) (AscendFrom 1)
file_directives-ascend language bytes =
    by_lines language 1 (token_lines language (phase_text language bytes)) (token_lines-ascend language 1 (phase_text language bytes) (phase_text-ascends language bytes))

pub all_from : (line : ℕ) (ds : List Directive) → AscendFrom line ds → All (λ (d : Directive). line ≤ d.line) ds
all_from line [] h = All-nil (λ (d : Directive). line ≤ d.line)
all_from line (d ∷ ds) h =
    All-cons (λ (e : Directive). line ≤ e.line) d ds h.0
    (All-weaker (λ (e : Directive). d.line + 1 ≤ e.line) (λ (e : Directive). line ≤ e.line) (λ e le. omega (arith, h.0)) ds (all_from (d.line + 1) ds h.1))

abbrev lines : List Directive → List ℕ
lines ds = map (λ (d : Directive). d.line) ds

strictly : (line : ℕ) (ds : List Directive) → AscendFrom line ds → IsStrictlyIncreasing (lines ds)
strictly line [] h k low = absurd (omega arith)
strictly line (d ∷ []) h k low = absurd (omega arith)
strictly line (d ∷ e ∷ ds) h zero low = omega (arith, h.1.0)
strictly line (d ∷ e ∷ ds) h (suc k) low =
    let more : suc k + 1 ≡ suc (suc k) = omega arith in
    let next : k + 1 ≡ suc k = omega arith in
    let rest : get_or (lines (e ∷ ds)) k 0 < get_or (lines (e ∷ ds)) (suc k) 0 =
    subst (λ j. get_or (lines (e ∷ ds)) k 0 < get_or (lines (e ∷ ds)) j 0) next (strictly (d.line + 1) (e ∷ ds) h.1 k (omega arith)) in
    subst (λ j. get_or (lines (e ∷ ds)) k 0 < get_or (lines (d ∷ e ∷ ds)) j 0) (sym more) rest

weaker : (P Q : List Directive → Type 0) → ((ds : List Directive) → P ds → Q ds) → {F : Type 0} → (r : Result (List Directive) F) → IfOk r P → IfOk r Q
weaker P Q f (Ok ds) h = f ds h
weaker P Q f (Err fault) h = tt

pub from_line_one : (language : Language) (bytes : List ℕ) → IfOk (file_directives language (phase_text language bytes)) (All (λ (d : Directive). 1 ≤ d.line))
from_line_one language bytes = weaker (AscendFrom 1) (All (λ (d : Directive). 1 ≤ d.line)) (all_from 1) (file_directives language (phase_text language bytes)) (file_directives-ascend language bytes)

pub lines_rise : (language : Language) (bytes : List ℕ) → IfOk (file_directives language (phase_text language bytes)) (λ ds. IsStrictlyIncreasing (lines ds))
lines_rise language bytes =
    weaker (AscendFrom 1) (λ ds. IsStrictlyIncreasing (lines ds)) (strictly 1) (file_directives language (phase_text language bytes)) (file_directives-ascend language bytes)
