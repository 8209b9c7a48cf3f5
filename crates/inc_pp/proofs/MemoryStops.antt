-- No preprocessing stops because memory ran out: the definitions know no such thing.
use Rattle.std.proofs.Common.{ℕ, zero, suc, ◌+◌, Bool, true, false, List, [], ◌∷◌, ◌++◌, Option, Some, None, Result, Ok, Err, drop, length, map, nat_le, nat_lt}
use Rattle.std.specs.List.{list_all, list_any}
use Rattle.std.specs.Prelude.{◌≢◌, ◌&&◌, ◌||◌, IfOk, IfErr, IfSome, ok_or, option_map, if◌then◌else◌, bytes_eq, codes}
use Rattle.inc_text.specs.PhaseText.{Cell, is_too_long, phase_text}
use Rattle.inc_token.specs.declared.kinds.IncludeName.{IncludeName}
use Rattle.inc_text.specs.declared.languages.Language.{Language}
use Rattle.inc_token.specs.declared.lines.LexFault.{LexFault}
use Rattle.inc_token.specs.declared.lines.LexFault.TheVariants as lex
use Rattle.inc_token.specs.TokenLines.{Tok, TokenLine, token_lines}
use Rattle.inc_token.proofs.MemoryFaults.{token_lines_have}
use Rattle.inc_directive.specs.declared.sections.BalanceFault.{BalanceFault}
use Rattle.inc_directive.specs.declared.sections.BalanceFault.TheVariants as balance
use Rattle.inc_directive.specs.Groups.{FileLine, Group, Branches, Empty, Run, Control, Section, Branch, Otherwise, Close, file_lines, file_tree}
use Rattle.inc_directive.specs.LineKinds.{LineKind, Text, Include, Other, Target, Quoted, Angled, Nothing, line_of_tokens}
use Rattle.inc_directive.specs.declared.kinds.DirectiveKind.{DirectiveKind}
use Rattle.inc_directive.specs.declared.kinds.DirectiveKind.TheVariants.{Define, Undef, Line, Error, Pragma, Foreign, Unknown, Ifdef, Ifndef, Elifdef, Elifndef}
use Rattle.inc_directive.specs.Removal.{with_removed}
use Rattle.inc_directive.specs.Runs.{run_tokens}
use Rattle.inc_directive.proofs.MemoryFaults.{trees_have}
use Rattle.inc_lookup.specs.declared.projects.DirectiveId.{DirectiveId}
use Rattle.inc_lookup.specs.declared.projects.Found.{Found}
use Rattle.inc_lookup.specs.DirectiveLists.{is_listed}
use Rattle.inc_lookup.specs.Projects.{Listing, bytes_at, layout_of}
use Rattle.inc_macro.specs.declared.faults.DefineFault.{DefineFault}
use Rattle.inc_macro.specs.declared.faults.DefineFault.TheVariants as define
use Rattle.inc_macro.specs.Macros.{Table, define, define_word, first_tokens, is_identifier_kind, no_macros, undef, with_words}
use Rattle.inc_macro.specs.Results.{◌>>=◌}
use Rattle.inc_macro.proofs.MemoryFaults.{define_has, define_word_has, undef_has}
use Rattle.inc_expand.specs.declared.places.Mode.TheVariants.{Plain}
use Rattle.inc_expand.specs.Expansion.{Item, Place, Surroundings, expansion}
use Rattle.inc_expand.specs.Openings.{Held, held_source, opening}
use Rattle.inc_expand.proofs.MemoryFaults.{expansion_has, opening_has}
use Rattle.inc_expand.specs.declared.faults.ExpandFault.TheVariants.{UnclosedCall}
use Rattle.inc_text.specs.Languages.{is_gnu}
use Rattle.inc_cond.specs.Conditions.{condition}
use Rattle.inc_cond.specs.Headers.{is_str_kind}
use Rattle.inc_cond.proofs.MemoryFaults.{condition_has}
use Rattle.inc_pp.specs.declared.causes.Cause.{Cause}
use Rattle.inc_pp.specs.declared.causes.Cause.TheVariants as cause
use Rattle.inc_pp.specs.declared.settings.Missing.{Missing}
use Rattle.inc_pp.specs.declared.settings.Missing.TheVariants as missing
use Rattle.inc_pp.specs.Directives.{after_pragma, changed, control_of, counted, directive_read, ends_call, line_operands, put_pragma, released_for, renumbered, with_table}
use Rattle.inc_pp.specs.Files.{FileFault, lines_or_fault, of_balance, text_tree, tree_of, tree_of_lines}
use Rattle.inc_pp.specs.Includes.{found_from, header_in, header_of, include_target, included, is_done, led_to, most_reads, not_found, wanted}
use Rattle.inc_pp.specs.MemoryCauses.{IsNotMemory}
use Rattle.inc_pp.specs.Pragmas.{Laid, after_literal, after_name, after_open, before, is_operator, laid, line_behind, plain, pragma_line, pragma_text, pragma_tokens, tokens_or_bad, where_fits, is_stacking, names_once, restacked, stacked, stacked_name}
use Rattle.inc_pp.specs.Preprocessing.{group_read, section_read, tree_read, counted_read, file_read, reading, most_depth, outcome_of, preprocessing, with_read, named_settings, source_read}
use Rattle.inc_pp.specs.OpenCalls.{called_name, first_line_in, open_behind, spellings}
use Rattle.inc_pp.specs.Poison.{asked, asked_directive, is_poisonable, is_poisoned, line_asked, names_poison, poison_all, poisoned_by, poisons}
use Rattle.inc_pp.specs.Printed.{printed}
use Rattle.inc_pp.specs.Runs.{bounded, closed_or, expanded, is_unclosed, line_of_run, marks_in, put_laid, put_out, released, released_at, run_expanded, run_given, run_opened, run_read, text_read, tokens_read, with_meter, with_waiting}
use Rattle.inc_pp.specs.Sections.{condition_of, first_name, if_defined, if_not_defined, if_true, is_taken, operands}
use Rattle.inc_pp.specs.Settings.{Settings, is_too_much}
use Rattle.inc_pp.specs.Tasks.{Task, State, Entry, Here, Halt, Deeper, File, begun, caused, halting, layout_in, place_of, search_of, source_at, start}

abbrev Has : {A : Type 0} → Result A Cause → Type 0
Has r = IfErr r IsNotMemory

abbrev FileHas : {A : Type 0} → Result A FileFault → Type 0
FileHas r = IfErr r (λ fault. IsNotMemory fault.0)

abbrev Halts : {A : Type 0} → Result A Halt → Type 0
Halts r = IfErr r (λ halt. IsNotMemory halt.stop.cause)

then_has : {A B : Type 0} (r : Result A Cause) (f : A → Result B Cause) → Has r → ((a : A) → Has (f a)) → Has (r >>= f)
then_has (Ok a) f h k = k a
then_has (Err fault) f h k = h

then_halts : {A B : Type 0} (r : Result A Halt) (f : A → Result B Halt) → Halts r → ((a : A) → Halts (f a)) → Halts (r >>= f)
then_halts (Ok a) f h k = k a
then_halts (Err halt) f h k = h

halting_has : {A : Type 0} (f : File) (line : ℕ) (s : State) (r : Result A Cause) → Has r → Halts (halting f line s r)
halting_has f line s (Ok x) h = tt
halting_has f line s (Err fault) h = h

caused_has : {A F : Type 0} (by : F → Cause) (r : Result A F) → IfErr r (λ fault. IsNotMemory (by fault)) → Has (caused by r)
caused_has by (Ok x) h = tt
caused_has by (Err fault) h = h

or_has : {A : Type 0} (o : Option A) (fault : Cause) → IsNotMemory fault → Has (ok_or o fault)
or_has (Some x) fault h = tt
or_has None fault h = h

---- files

lines_have : (r : Result (List TokenLine) LexFault) → IfErr r (λ fault. fault ≢ lex.NoMemory) → FileHas (lines_or_fault r)
lines_have (Ok ls) h = tt
lines_have (Err (lex.OpenComment line)) h = h
lines_have (Err lex.NoMemory) h = h

balance_has : (fault : BalanceFault) → fault ≢ balance.NoMemory → IsNotMemory (of_balance fault).0
balance_has (balance.OpenIf line) h = h
balance_has (balance.StrayBranch line) h = h
balance_has (balance.AfterElse line) h = h
balance_has balance.NoMemory h = h

balanced_has : (r : Result Group BalanceFault) → IfErr r (λ fault. fault ≢ balance.NoMemory)
    → FileHas (elim r as (λ _. Result Group FileFault) [ Ok tree ↦ Ok tree | Err fault ↦ Err (of_balance fault) ])
balanced_has (Ok tree) h = tt
balanced_has (Err fault) h = balance_has fault h

then_file : {A B : Type 0} (r : Result A FileFault) (f : A → Result B FileFault) → FileHas r → ((a : A) → FileHas (f a)) → FileHas (r >>= f)
then_file (Ok a) f h k = k a
then_file (Err fault) f h k = h

text_has : (language : Language) (removed : ℕ → Bool) (text : List Cell) → FileHas (text_tree language removed text)
text_has language removed text =
    then_file (lines_or_fault (token_lines language text)) (λ ls. tree_of_lines language (with_removed language removed ls))
    (lines_have (token_lines language text) (token_lines_have language text))
    (λ ls. balanced_has (file_tree language (with_removed language removed ls)) (trees_have (file_lines language (with_removed language removed ls))))

---- what reads no file

expanded_has : (f : File) (h : Here) (s : State) (ts : List Tok) → Has (expanded f h s ts)
expanded_has f h s ts =
    then_has (caused cause.Expand (expansion (record { table = s.table; mode = Plain; place = place_of f h }) s.meter ts)) _
    (caused_has cause.Expand (expansion (record { table = s.table; mode = Plain; place = place_of f h }) s.meter ts)
    (expansion_has (record { table = s.table; mode = Plain; place = place_of f h }) s.meter ts)) (λ r. tt)

-- the tokens of a pragma
if_operated : (b : Bool) (ts : List Tok) → Has (if b then Err cause.BadPragma else Ok ts)
if_operated true ts = tt
if_operated false ts = tt

bad_has : (language : Language) (r : Result (List TokenLine) LexFault) → Has (tokens_or_bad language r)
bad_has language (Ok ls) = if_operated (is_stacking language (drop 2 (first_tokens ls)) || names_poison language (drop 2 (first_tokens ls))) (first_tokens ls)
bad_has language (Err fault) = tt

if_long : (b : Bool) (r : Result (List Tok) Cause) → Has r → Has (if b then Err cause.BadPragma else r)
if_long true r h = tt
if_long false r h = h

pragma_has : (language : Language) (literal : List ℕ) → Has (pragma_tokens language literal)
pragma_has language literal =
    if_long (is_too_long (pragma_text literal)) (tokens_or_bad language (token_lines language (phase_text language (pragma_text literal))))
    (bad_has language (token_lines language (phase_text language (pragma_text literal))))

before_has : (a : Laid) (r : Result Laid Cause) → Has r → Has (before a r)
before_has a r h = then_has r _ h (λ b. tt)

fits_has : (b : Bool) (r : Result Laid Cause) → Has r → Has (where_fits b r)
fits_has true r h = h
fits_has false r h = tt

if_laid : (b : Bool) (x y : Result Laid Cause) → Has x → Has y → Has (if b then x else y)
if_laid true x y h k = h
if_laid false x y h k = k

mutual
  laid_has : (language : Language) (marks : Option Place) (last : Option ℕ) (is : List Item) → Has (laid language marks last is)
  laid_has language marks last [] = tt
  laid_has language marks last (i ∷ is) =
      if_laid (is_operator language i) (after_name language marks is) (before (plain language marks last i) (laid language marks (line_behind language i) is))
      (after_name_has language marks is)
      (before_has (plain language marks last i) (laid language marks (line_behind language i) is) (laid_has language marks (line_behind language i) is))

  after_name_has : (language : Language) (marks : Option Place) (is : List Item) → Has (after_name language marks is)
  after_name_has language marks [] = tt
  after_name_has language marks (i ∷ is) = fits_has (bytes_eq i.spelling (codes "(")) (after_open language marks is) (after_open_has language marks is)

  after_open_has : (language : Language) (marks : Option Place) (is : List Item) → Has (after_open language marks is)
  after_open_has language marks [] = tt
  after_open_has language marks (i ∷ is) =
      fits_has (is_str_kind i.kind) (after_literal language marks i.spelling is) (after_literal_has language marks i.spelling is)

  after_literal_has : (language : Language) (marks : Option Place) (literal : List ℕ) (is : List Item) → Has (after_literal language marks literal is)
  after_literal_has language marks literal [] = tt
  after_literal_has language marks literal (i ∷ is) =
      fits_has (bytes_eq i.spelling (codes ")")) _ (then_has (pragma_tokens language literal) _ (pragma_has language literal)
      (λ ts. before_has (pragma_line language marks i.line ts) (laid language marks None is) (laid_has language marks None is)))

if_asked : (b : Bool) (ts : List Tok) → Has (if b then Err cause.Poisoned else Ok ts)
if_asked true ts = tt
if_asked false ts = tt

asked_has : (poisoned : List ℕ → Bool) (ts : List Tok) → Has (asked poisoned ts)
asked_has poisoned ts = if_asked (list_any (is_poisoned poisoned) ts) ts

if_named : (b : Bool) (ts : List Tok) (r : Result (List Tok) Cause) → Has r → Has (if b then Ok ts else r)
if_named true ts r h = tt
if_named false ts r h = h

line_has : (f : File) (l : FileLine) (s : State) → Halts (line_asked f l s)
line_has f l s =
    halting_has f (line_of_tokens l.tokens) s (asked_directive s l.tokens)
    (if_named (poisons s.table.language (drop 1 l.tokens)) l.tokens (asked s.poisoned l.tokens) (asked_has s.poisoned l.tokens))

bounded_has : (most : Option ℕ) (s : State) → Has (bounded most s)
bounded_has most s = by (is_too_much most (length (printed s.output)))
  where
    by : (b : Bool) → Has (if b then Err cause.TooMuchOutput else Ok s)
    by true = tt
    by false = tt

put_has : (f : File) (h : Here) (s : State) (ts : List Tok) → Has (run_expanded f h s ts)
put_has f h s ts =
    then_has (expanded f h s ts) _ (expanded_has f h s ts) (λ r.
    then_has (laid s.table.language (marks_in f h) None r.0) _ (laid_has s.table.language (marks_in f h) None r.0) (λ l.
    bounded_has f.task.settings.most_output (put_laid f.index l r.1)))

opened_has : (f : File) (h : Here) (s : State) (ts : List Tok) → Has (run_opened f h s ts)
opened_has f h s ts =
    let around : Surroundings = record { table = s.table; mode = Plain; place = place_of f h } in
    then_has (caused cause.Expand (opening around s.meter h.waiting ts)) _ (caused_has cause.Expand (opening around s.meter h.waiting ts) (opening_has around s.meter h.waiting ts)) (λ r.
    then_has (laid s.table.language (marks_in f h) None r.0) _ (laid_has s.table.language (marks_in f h) None r.0) (λ l.
    let put = put_laid f.index l (with_meter r.2 s) in
    then_has (bounded f.task.settings.most_output put) _ (bounded_has f.task.settings.most_output put) (λ t. tt)))

closed_has : (language : Language) (r : Result State Cause) (opened : Result (State × List Held) Cause) → Has r → Has opened → Has (closed_or language r opened)
closed_has language (Ok t) opened h k = tt
closed_has language (Err c) opened h k = by (is_gnu language && is_unclosed c)
  where
    by : (b : Bool) → Has (if b then opened else Err c)
    by true = k
    by false = h

given_has : (f : File) (h : Here) (s : State) (ts : List Tok) → Has (run_given f h s ts)
given_has f h s ts =
    by h.waiting (closed_has s.table.language (run_expanded f h s ts) (run_opened f h s ts) (put_has f h s ts) (opened_has f h s ts)) (opened_has f h s ts)
  where
    by : (hs : List Held) → Has (closed_or s.table.language (run_expanded f h s ts) (run_opened f h s ts)) → Has (run_opened f h s ts)
        → Has (elim hs as (λ _. Result (State × List Held) Cause) [ [] ↦ closed_or s.table.language (run_expanded f h s ts) (run_opened f h s ts) | name ∷ more ↦ run_opened f h s ts ])
    by [] c o = c
    by (name ∷ more) c o = o

tokens_has : (f : File) (ts : List Tok) (s : State) (h : Here) → Halts (tokens_read f ts s h)
tokens_has f ts s h =
    then_halts (halting f (line_of_run h.waiting ts) s (run_given f h s ts)) _ (halting_has f (line_of_run h.waiting ts) s (run_given f h s ts) (given_has f h s ts)) (λ t. tt)

wait_has : (b : Bool) (x : State × Here) (r : Result (State × Here) Halt) → Halts r → Halts (elim b as (λ _. Result (State × Here) Halt) [ true ↦ Ok x | false ↦ r ])
wait_has true x r h = tt
wait_has false x r h = h

run_text_has : (f : File) (ts : List Tok) (s : State) (h : Here) → Halts (text_read f ts s h)
run_text_has f [] s h = tt
run_text_has f (t ∷ ts) s h =
    then_halts (halting f (line_of_tokens (t ∷ ts)) s (asked s.poisoned (t ∷ ts))) _ (halting_has f (line_of_tokens (t ∷ ts)) s (asked s.poisoned (t ∷ ts)) (asked_has s.poisoned (t ∷ ts)))
    (λ _. wait_has (nat_lt 0 (open_behind h.deep (spellings (t ∷ ts)))) (s, with_waiting (h.waiting ++ map held_source (t ∷ ts)) (open_behind h.deep (spellings (t ∷ ts))) h)
    (tokens_read f (t ∷ ts) s h) (tokens_has f (t ∷ ts) s h))

run_has : (f : File) (ls : List FileLine) (s : State) (h : Here) → Halts (run_read f ls s h)
run_has f ls s h = run_text_has f (run_tokens ls) s h

waiting_has : (f : File) (line : Option ℕ) (s : State) (h : Here) → Halts (released_at f line s h)
waiting_has f None s h = tt
waiting_has f (Some line) s h = λ e. cc

if_ends : (b : Bool) (s : State) (h : Here) (r : Result (State × Here) Halt) → Halts r → Halts (if b then r else Ok (s, h))
if_ends true s h r k = k
if_ends false s h r k = tt

for_has : (l : FileLine) (f : File) (s : State) (h : Here) → Halts (released_for l f s h)
for_has l f s h = if_ends (ends_call l.kind s.table.language (called_name h.waiting) (operands l)) s h (released f s h) (waiting_has f (first_line_in h.waiting) s h)

if_name : (b : Bool) (text : List ℕ) → Has (if b then Ok text else Err cause.BadName)
if_name true text = tt
if_name false text = tt

name_has : (ts : List Tok) → Has (first_name ts)
name_has [] = tt
name_has (t ∷ ts) = if_name (is_identifier_kind t.kind) t.spelling

defined_has : (l : FileLine) (s : State) → Has (if_defined l s)
defined_has l s = then_has (first_name (operands l)) _ (name_has (operands l)) (λ n. tt)

not_defined_has : (l : FileLine) (s : State) → Has (if_not_defined l s)
not_defined_has l s = then_has (first_name (operands l)) _ (name_has (operands l)) (λ n. tt)

true_has : (f : File) (l : FileLine) (s : State) (h : Here) → Has (if_true f l s h)
true_has f l s h =
    then_has (caused cause.Condition (condition (search_of f) s.table (place_of f h) s.meter (operands l))) _
    (caused_has cause.Condition (condition (search_of f) s.table (place_of f h) s.meter (operands l))
    (condition_has (search_of f) s.table (place_of f h) s.meter (operands l))) (λ r. tt)

condition_of_has : (kind : LineKind) (f : File) (l : FileLine) (s : State) (h : Here) → Has (condition_of kind f l s h)
condition_of_has (Other Ifdef) f l s h = defined_has l s
condition_of_has (Other Ifndef) f l s h = not_defined_has l s
condition_of_has (Other Elifdef) f l s h = defined_has l s
condition_of_has (Other Elifndef) f l s h = not_defined_has l s
condition_of_has kind f l s h = true_has f l s h

taken_has : (f : File) (l : FileLine) (s : State) (h : Here) → Halts (is_taken f l s h)
taken_has f l s h =
    then_halts (line_asked f l s) _ (line_has f l s)
    (λ _. halting_has f (line_of_tokens l.tokens) s (condition_of l.kind f l s h) (condition_of_has l.kind f l s h))

---- directives

restacked_has : (ts : List Tok) (table : Table) → Has (restacked ts table)
restacked_has [] table = tt
restacked_has (t ∷ ts) table = or_has (option_map (λ name. stacked t name table) (stacked_name ts)) cause.BadPragma tt

if_poisoned : (b : Bool) (s : State) → Has (if b then Ok s else Err cause.BadPragma)
if_poisoned true s = tt
if_poisoned false s = tt

if_stacked : (a b c : Bool) (s : State) (r q p : Result State Cause) → Has r → Has q → Has p → Has (if a then Ok s else if b then r else if c then q else p)
if_stacked true b c s r q p h k i = tt
if_stacked false true c s r q p h k i = h
if_stacked false false true s r q p h k i = k
if_stacked false false false s r q p h k i = i

pragma_line_has : (f : File) (l : FileLine) (s : State) (h : Here) → Has (after_pragma f l s h)
pragma_line_has f l s h =
    if_stacked (names_once (operands l)) (is_stacking s.table.language (operands l)) (names_poison s.table.language (operands l)) _
    (restacked (operands l) s.table >>= λ t. Ok (with_table t s)) (poisoned_by (drop 2 (operands l)) s) _
    (then_has (restacked (operands l) s.table) _ (restacked_has (operands l) s.table) (λ t. tt))
    (if_poisoned (list_all (is_poisonable s.table.language) (drop 2 (operands l))) (poison_all (drop 2 (operands l)) s))
    (bounded_has f.task.settings.most_output (put_out (put_pragma s.table.language (marks_in f h) (line_of_tokens l.tokens) l.tokens) s))

changed_has : (directive : DirectiveKind) (f : File) (l : FileLine) (s : State) (h : Here) → Has (changed directive f l s h)
changed_has Define f l s h =
    then_has (caused cause.Define (define (operands l) s.table)) _
    (caused_has cause.Define (define (operands l) s.table) (define_has (operands l) s.table)) (λ t. tt)
changed_has Undef f l s h =
    then_has (caused cause.Define (undef (operands l) s.table)) _
    (caused_has cause.Define (undef (operands l) s.table) (undef_has (operands l) s.table)) (λ t. tt)
changed_has Line f l s h =
    then_has (expanded f h s (line_operands l.tokens)) _ (expanded_has f h s (line_operands l.tokens)) (λ r.
    let after = renumbered s.table.language h l.last_line (counted l.tokens r.0) in
    then_has (ok_or after cause.BadLine) _ (or_has after cause.BadLine tt) (λ here. tt))
changed_has Pragma f l s h = then_has (after_pragma f l s h) _ (pragma_line_has f l s h) (λ t. tt)
changed_has Error f l s h = tt
changed_has Foreign f l s h = tt
changed_has Unknown f l s h = tt
changed_has directive f l s h = tt

header_has : (target : Target) (f : File) (l : FileLine) (s : State) (h : Here) → Has (header_of target f l s h)
header_has (Quoted name) f l s h = tt
header_has (Angled name) f l s h = tt
header_has Nothing f l s h = tt
header_has target f l s h =
    then_has (expanded f h s (operands l)) _ (expanded_has f h s (operands l)) (λ r.
    then_has (ok_or (header_in r.0) cause.BadInclude) _ (or_has (header_in r.0) cause.BadInclude tt) (λ header. tt))

not_found_has : (missing : Missing) → Has (not_found missing)
not_found_has missing.Stop = tt
not_found_has missing.Empty = tt

if_few : (b : Bool) (at : Found) → Has (if b then Err cause.TooManyReads else Ok (Some at))
if_few true at = tt
if_few false at = tt

deeper_has : (deeper : Deeper) (s : State) (at : Found) → Has (elim deeper as (λ _. Result (Option Found) Cause) [
  | None ↦ Err cause.TooDeep
  | Some read ↦ if nat_le most_reads (length s.reads) then Err cause.TooManyReads else Ok (Some at)
])
deeper_has None s at = tt
deeper_has (Some read) s at = if_few (nat_le most_reads (length s.reads)) at

if_once : (b : Bool) (r : Result (Option Found) Cause) → Has r → Has (if b then Ok None else r)
if_once true r h = tt
if_once false r h = h

wanted_has : (n : IncludeName) (f : File) (s : State) (found : Option Found) → Has (wanted n f s found)
wanted_has n f s None = not_found_has f.task.settings.missing
wanted_has n f s (Some at) = if_once (is_done n s at.file) _ (deeper_has f.deeper s at)

led_has : (n : IncludeName) (f : File) (s : State) (found : Option Found) → Has (led_to n f s found)
led_has n f s found = then_has (wanted n f s found) _ (wanted_has n f s found) (λ at. tt)

target_has : (n : IncludeName) (target : Target) (f : File) (l : FileLine) (s : State) (h : Here) → Has (include_target n target f l s h)
target_has n target f l s h =
    then_has (header_of target f l s h) _ (header_has target f l s h) (λ r.
    then_has (led_to n f r.1 (found_from f n r.0)) _ (led_has n f r.1 (found_from f n r.0)) (λ q. tt))

---- files that are read

-- how deeper files are read
abbrev DeeperHas : Deeper → Type 0
DeeperHas deeper = IfSome deeper (λ read. (to : Entry) (s : State) → Halts (read to s))

included_has : (deeper : Deeper) (o : Option Entry) (s : State) (h : Here) → DeeperHas deeper → Halts (included deeper o s h)
included_has (Some read) (Some to) s h d = then_halts (read to s) _ (d to s) (λ after. tt)
included_has (Some read) None s h d = tt
included_has None o s h d = tt

control_has : (kind : LineKind) (f : File) (l : FileLine) (s : State) (h : Here) → DeeperHas f.deeper → Halts (control_of kind f l s h)
control_has (Include n target) f l s h d =
    then_halts (halting f (line_of_tokens l.tokens) s (include_target n target f l s h)) _
    (halting_has f (line_of_tokens l.tokens) s (include_target n target f l s h) (target_has n target f l s h)) (λ r. included_has f.deeper r.0 r.1 h d)
control_has Text f l s h d = tt
control_has (Other directive) f l s h d = halting_has f (line_of_tokens l.tokens) s (changed directive f l s h) (changed_has directive f l s h)

by_test : (b : Bool) (x y : Result (State × Here) Halt) → Halts x → Halts y → Halts (elim b as (λ _. Result (State × Here) Halt) [ true ↦ x | false ↦ y ])
by_test true x y h k = h
by_test false x y h k = k

mutual
  group_has : (f : File) (g : Group) (s : State) (h : Here) → DeeperHas f.deeper → Halts (group_read f g s h)
  group_has f Empty s h d = tt
  group_has f (Run ls g) s h d = then_halts (run_read f ls s h) _ (run_has f ls s h) (λ r. group_has f g r.0 r.1 d)
  group_has f (Control l g) s h d =
      then_halts (directive_read f l s h) _
      (then_halts (released_for l f s h) _ (for_has l f s h) (λ p.
      then_halts (line_asked f l p.0) _ (line_has f l p.0) (λ _. control_has l.kind f l p.0 p.1 d))) (λ r. group_has f g r.0 r.1 d)
  group_has f (Section bs g) s h d = then_halts (section_read f bs s h) _ (section_has f bs s h d) (λ r. group_has f g r.0 r.1 d)

  section_has : (f : File) (bs : Branches) (s : State) (h : Here) → DeeperHas f.deeper → Halts (section_read f bs s h)
  section_has f (Branch l g bs) s h d =
      then_halts (is_taken f l s h) _ (taken_has f l s h)
      (λ r. by_test r.0 (group_read f g r.1 h) (section_read f bs r.1 h) (group_has f g r.1 h d) (section_has f bs r.1 h d))
  section_has f (Otherwise l g e) s h d = group_has f g s h d
  section_has f (Close e) s h d = tt

tree_has : (f : File) (r : Result Group FileFault) (s : State) (h : Here) → DeeperHas f.deeper → FileHas r → Halts (tree_read f r s h)
tree_has f (Ok g) s h d k =
    then_halts (group_read f g s h) _ (group_has f g s h d) (λ r. then_halts (released f r.0 r.1) _ (waiting_has f (first_line_in r.1.waiting) r.0 r.1) (λ q. tt))
tree_has f (Err fault) s h d k = k

counted_has : (much : Bool) (f : File) (to : Entry) (r : Result Group FileFault) (s : State) (h : Here) → DeeperHas f.deeper → FileHas r → Halts (counted_read much f to r s h)
counted_has true f to r s h d k = tt
counted_has false f to r s h d k = tree_has f r s h d k

file_has : (t : Task) (deeper : Deeper) (to : Entry) (s : State) → DeeperHas deeper → Halts (file_read t deeper to s)
file_has t deeper to s d =
    let size = length (bytes_at t.listing to.at.file) in
    counted_has (is_too_much t.settings.most_read (s.bytes_read + size))
    (record { task = t; index = to.at.file; next = to.at.next; deeper = deeper }) to (tree_of t.settings.language t.listing t.without to.at.file)
    (with_read to.at.file size s) (start (layout_in t) to) d
    (text_has t.settings.language (is_listed t.without to.at.file) (phase_text t.settings.language (bytes_at t.listing to.at.file)))

reading_has : (left : ℕ) (t : Task) (to : Entry) (s : State) → Halts (reading left t to s)
reading_has zero t to s = file_has t None to s tt
reading_has (suc left) t to s = file_has t (Some (reading left t)) to s (reading_has left t)

outcome_has : (r : Result State Halt) → Halts r → IfSome (outcome_of r).stop (λ stop. IsNotMemory stop.cause)
outcome_has (Ok s) h = tt
outcome_has (Err halt) h = h

---- the whole

words_have : (i : ℕ) (words : List (List ℕ)) (table : Table) → IfErr (with_words i words table) (λ refusal. refusal.1 ≢ define.NoMemory)
words_have i [] table = tt
words_have i (word ∷ words) table = go (define_word word table) (define_word_has word table) (λ t. words_have (i + 1) words t)
  where
    go : (r : Result Table DefineFault) → IfErr r (λ fault. fault ≢ define.NoMemory)
        → ((t : Table) → IfErr (with_words (i + 1) words t) (λ refusal. refusal.1 ≢ define.NoMemory))
        → IfErr (elim r as (λ _. Result Table (ℕ × DefineFault)) [ Ok t ↦ with_words (i + 1) words t | Err fault ↦ Err (i, fault) ])
        (λ refusal. refusal.1 ≢ define.NoMemory)
    go (Ok t) h k = k t
    go (Err fault) h k = h

if_table : {A B E : Type 0} (r : Result A E) (f : A → B) (P : B → Type 0) → ((a : A) → P (f a)) → IfOk (r >>= λ a. Ok (f a)) P
if_table (Ok a) f P h = h a
if_table (Err e) f P h = tt

if_no_table : {A B E : Type 0} (r : Result A E) (f : A → B) (P : E → Type 0) → IfErr r P → IfErr (r >>= λ a. Ok (f a)) P
if_no_table (Ok a) f P h = tt
if_no_table (Err e) f P h = h

module _ (listing : Listing) (source : ℕ) (words : List (List ℕ)) (settings : Settings) (without : List DirectiveId) where
  -- the source is read so
  abbrev read : Table → Result State Halt
  read table = source_read listing source (named_settings (layout_of listing) source settings) without (begun table)

  read_has : (table : Table) → Halts (read table)
  read_has table =
      let named = named_settings (layout_of listing) source settings in
      reading_has most_depth (record { listing = listing; settings = named; without = without }) (source_at named source) (begun table)

  pub stops_have : IfOk (preprocessing listing source words settings without) (λ o. IfSome o.stop (λ stop. IsNotMemory stop.cause))
  stops_have =
      if_table (with_words 0 words (no_macros settings.language)) (λ table. outcome_of (read table)) (λ o. IfSome o.stop (λ stop. IsNotMemory stop.cause))
      (λ table. outcome_has (read table) (read_has table))

  pub refusals_have : IfErr (preprocessing listing source words settings without) (λ refusal. refusal.1 ≢ define.NoMemory)
  refusals_have =
      if_no_table (with_words 0 words (no_macros settings.language)) (λ table. outcome_of (read table)) (λ refusal. refusal.1 ≢ define.NoMemory)
      (words_have 0 words (no_macros settings.language))
