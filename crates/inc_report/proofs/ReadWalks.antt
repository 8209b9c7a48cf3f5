-- Where each include line of a near file leads to a near file, or begins with a name that no line of a near file defines, a preprocessing
-- that begins near reads near files alone. A file is near by how it was found.
use Rattle.std.proofs.Common.{◌≡◌, ◌≢◌, refl, sym, ◌∙◌, ℕ, zero, suc, ◌+◌, Bool, true, false, cond, List, [], ◌∷◌, ◌++◌, Option, Some, None, Result, Ok, Err, IfOk, length, drop, map, nat_lt, ◌&&◌}
use Rattle.std.specs.List.{list_all}
use Rattle.std.specs.Prelude.{IfSome, nat_le, option_map, codes, ok_or}
use Rattle.std.proofs.lemmas.Result.{IfOk-at_ok}
use Rattle.inc_directive.specs.Groups.{FileLine, Group, Branches, Empty, Run, Control, Section, Branch, Otherwise, Close, lines_of, lines_of_branches}
use Rattle.inc_directive.specs.LineKinds.{LineKind, Text, Include, Other, Target, Quoted, Angled, ByName, Computed, Nothing, defined_name, line_of_tokens, search_after}
use Rattle.inc_directive.specs.declared.kinds.DirectiveKind.{DirectiveKind}
use Rattle.inc_directive.specs.declared.kinds.DirectiveKind.TheVariants.{Define, Undef, Line, Error, Pragma, Foreign, Unknown, Ifdef, Ifndef, Elifdef, Elifndef}
use Rattle.inc_directive.specs.Runs.{run_tokens}
use Rattle.inc_token.specs.TokenLines.{Tok}
use Rattle.inc_token.specs.declared.kinds.IncludeName.{IncludeName}
use Rattle.inc_lookup.specs.declared.projects.DirectiveId.{DirectiveId}
use Rattle.inc_lookup.specs.declared.projects.Form.{Form}
use Rattle.inc_lookup.specs.declared.projects.Form.TheVariants as form
use Rattle.inc_lookup.specs.declared.projects.Found.{Found}
use Rattle.inc_lookup.specs.Projects.{Listing, bytes_at, found_place, layout_of, path_at}
use Rattle.inc_macro.specs.Macros.{Table, define, no_macros, undef, with_words, is_spelled, pop_macro, push_macro}
use Rattle.inc_macro.specs.Results.{◌>>=◌}
use Rattle.inc_macro.proofs.UndefinedNames.{IsAbsent, define_absent, first_spelling, none_absent, pop_absent, push_absent, undef_absent}
use Rattle.inc_text.specs.declared.languages.Language.{Language}
use Rattle.inc_text.specs.Languages.{is_gnu}
use Rattle.inc_expand.specs.declared.faults.ExpandFault.TheVariants.{UnclosedCall}
use Rattle.inc_expand.specs.declared.places.Mode.TheVariants.{Plain}
use Rattle.inc_expand.specs.Expansion.{Item, Meter}
use Rattle.inc_expand.specs.Openings.{Held as HeldToken, held_source, opening}
use Rattle.inc_pp.specs.declared.causes.Cause.{Cause}
use Rattle.inc_pp.specs.declared.causes.Cause.TheVariants.{Expand, TooDeep, TooManyReads, TooMuchOutput}
use Rattle.inc_pp.specs.declared.causes.Cause.TheVariants as cause
use Rattle.inc_pp.specs.declared.settings.Missing.{Missing}
use Rattle.inc_pp.specs.declared.settings.Missing.TheVariants as missing
use Rattle.inc_pp.specs.Directives.{after_pragma, line_operands, names_once, changed, control_of, ends_call, put_pragma, released_for, with_table}
use Rattle.inc_pp.specs.Files.{FileFault, tree_of}
use Rattle.inc_pp.specs.Includes.{Header, after_found, found_from, header_of, is_done, is_import, not_found, wanted, led_to, entered, include_target, included}
use Rattle.inc_pp.specs.Preprocessing.{Outcome, group_read, section_read, tree_read, counted_read, file_read, reading, most_depth, named_settings, outcome_of, with_read, preprocessing}
use Rattle.inc_pp.specs.Pragmas.{Laid, is_stacking, laid, restacked, stacked, stacked_name}
use Rattle.inc_pp.specs.OpenCalls.{called_name, first_line_in, open_behind, spellings}
use Rattle.inc_pp.specs.Poison.{asked, asked_directive, is_poisonable, line_asked, names_poison, poison, poison_all, poisoned_by}
use Rattle.inc_pp.specs.Printed.{printed}
use Rattle.inc_pp.specs.Runs.{bounded, closed_or, expanded, is_unclosed, line_of_run, marks_in, put_laid, put_out, released_at, run_expanded, run_given, run_opened, run_read, text_read, tokens_read, with_meter, with_waiting}
use Rattle.inc_pp.specs.Sections.{condition_of, operands}
use Rattle.inc_pp.specs.Settings.{Settings, is_too_much}
use Rattle.inc_pp.specs.Entries.{FileToRead}
use Rattle.inc_pp.specs.Tasks.{Task, State, Here, Halt, Deeper, File, caused, layout_in, place_of, start, source_at, begun, halting}
use Rattle.inc_pp.proofs.NamedIncludes.{BeginsWith, no_header_by_name}
use Rattle.inc_report.proofs.KeptLines.{Each, each_before, each_behind, each_push}

---- one step after the other

-- Q of the value, if there is one
record Keeps {A E : Type 0} (Q : A → Type 0) (r : Result A E) : Type 0 where
  value : IfOk r Q

keeps_ok : {A E : Type 0} {Q : A → Type 0} {x : A} → Q x → Keeps {E = E} Q (Ok x)
keeps_ok h = record { value = h }

keeps_err : {A E : Type 0} {Q : A → Type 0} {e : E} → Keeps Q (Err e)
keeps_err = record { value = tt }

keeps_any : {A E : Type 0} (r : Result A E) → Keeps (λ (x : A). Unit {0}) r
keeps_any (Ok x) = record { value = tt }
keeps_any (Err e) = record { value = tt }

keeps_after : {A B E : Type 0} {R : B → Type 0} (r : Result A E) {k : A → Result B E} → ((x : A) → Keeps R (k x)) → Keeps R (r >>= k)
keeps_after (Ok x) more = more x
keeps_after (Err e) more = keeps_err

keeps_then : {A B E : Type 0} {Q : A → Type 0} {R : B → Type 0} {r : Result A E} {k : A → Result B E} → Keeps Q r → ((x : A) → Q x → Keeps R (k x)) → Keeps R (r >>= k)
keeps_then {r = Ok x} h more = more x h.value
keeps_then {r = Err e} h more = keeps_err

-- Q of the value, or P of the state in which it stopped
abbrev HoldsOf : {A : Type 0} → (A → Type 0) → (State → Type 0) → Result A Halt → Type 0
HoldsOf Q P (Ok x) = Q x
HoldsOf Q P (Err halt) = P halt.state

record Holds {A : Type 0} (Q : A → Type 0) (P : State → Type 0) (r : Result A Halt) : Type 0 where
  outcome : HoldsOf Q P r

holds_ok : {A : Type 0} {Q : A → Type 0} {P : State → Type 0} {x : A} → Q x → Holds Q P (Ok x)
holds_ok h = record { outcome = h }

holds_then : {A B : Type 0} {Q : A → Type 0} {R : B → Type 0} {P : State → Type 0} {r : Result A Halt} {k : A → Result B Halt}
    → Holds Q P r → ((x : A) → Q x → Holds R P (k x)) → Holds R P (r >>= k)
holds_then {r = Ok x} h more = more x h.outcome
holds_then {r = Err halt} h more = record { outcome = h.outcome }

holds_halting : {A : Type 0} {Q : A → Type 0} {P : State → Type 0} (f : File) (line : ℕ) (s : State) (r : Result A Cause) → P s → Keeps Q r → Holds Q P (halting f line s r)
holds_halting f line s (Ok x) p h = record { outcome = h.value }
holds_halting f line s (Err c) p h = record { outcome = p }

-- where a line of this kind with these tokens leads is near; none is computed but by an absent name, and none defines such a name
abbrev pub LeadsNear : (Near : Found → Type 0) → (Absent : List ℕ → Type 0) → (found : IncludeName → Form → List ℕ → Option Found) → LineKind → List Tok → Type 0
LeadsNear Near Absent found (Include by (Quoted name)) ts = IfSome (found by form.Quoted name) Near
LeadsNear Near Absent found (Include by (Angled name)) ts = IfSome (found by form.Angled name) Near
LeadsNear Near Absent found (Include by (ByName name)) ts = Absent name × BeginsWith name (drop 2 ts)
LeadsNear Near Absent found (Include by Computed) ts = ⊥
LeadsNear Near Absent found (Other Define) ts = (name : List ℕ) → Absent name → defined_name (Other Define) ts ≢ Some name
LeadsNear Near Absent found _ ts = Unit {0}

-- the name that a line defines is that with which the tokens after `define` begin
defined_first : (ts : List Tok) → first_spelling (drop 2 ts) ≡ defined_name (Other Define) ts
defined_first [] = refl
defined_first (t ∷ []) = refl
defined_first (t ∷ u ∷ []) = refl
defined_first (t ∷ u ∷ v ∷ ts) = refl

-- what a header name finds, from a file that was found so
abbrev pub place_from : Task → Found → IncludeName → Form → List ℕ → Option Found
place_from t at by form name = found_place (layout_in t) (path_at (layout_in t) at.file) form (search_after by at.next) name

-- the file at hand as it was found
abbrev pub at_hand : File → Found
at_hand f = record { file = f.index; next = f.next }

module _ (Near : Found → Type 0) (Absent : List ℕ → Type 0) where
  -- a file is near as it was found once
  abbrev pub IsNearRead : ℕ → Type 0
  IsNearRead file = (next : Option ℕ) × Near (record { file = file; next = next })

  -- no absent name is defined, and none gets a definition back
  abbrev pub AreAbsent : Table → Type 0
  AreAbsent table = (name : List ℕ) → Absent name → IsAbsent name table

  -- the files that are read so far are near, and no absent name is defined or gets a definition back
  abbrev pub IsNear : State → Type 0
  IsNear s = Each IsNearRead s.reads × AreAbsent s.table

  -- what a step gives, and the state after it
  abbrev IsNearAfter : (A : Type 0) → A × State → Type 0
  IsNearAfter A r = IsNear r.1

  -- the state after a part of a file, and where it is
  abbrev IsNearHere : State × Here → Type 0
  IsNearHere r = IsNear r.0

  ---- what reads no file

  expanded_near : (f : File) (h : Here) (s : State) (ts : List Tok) → IsNear s → Keeps (IsNearAfter (List Item)) (expanded f h s ts)
  expanded_near f h s ts n = keeps_after _ (λ x. keeps_ok n)

  -- the state after a run, and the call that waits
  abbrev IsNearGiven : State × List HeldToken → Type 0
  IsNearGiven r = IsNear r.0

  bounded_near : (most : Option ℕ) (s : State) → IsNear s → Keeps IsNear (bounded most s)
  bounded_near most s n = by (is_too_much most (length (printed s.output)))
    where
      by : (b : Bool) → Keeps IsNear (cond {A = Result State Cause} b (Err TooMuchOutput) (Ok s))
      by true = keeps_err
      by false = keeps_ok n

  put_near : (f : File) (h : Here) (s : State) (ts : List Tok) → IsNear s → Keeps IsNear (run_expanded f h s ts)
  put_near f h s ts n =
      keeps_then (expanded_near f h s ts n) (λ r k. keeps_after _ (λ l. bounded_near f.task.settings.most_output (put_laid f.index l r.1) k))

  laid_near : (most : Option ℕ) (file : ℕ) (s : State) (call : List HeldToken) (meter : Meter) (r : Result Laid Cause) → IsNear s
      → Keeps IsNearGiven (r >>= λ l. bounded most (put_laid file l (with_meter meter s)) >>= λ t. Ok (t, call))
  laid_near most file s call meter (Ok l) n = keeps_then (bounded_near most (put_laid file l (with_meter meter s)) n) (λ t k. keeps_ok k)
  laid_near most file s call meter (Err c) n = keeps_err

  items_near : (f : File) (h : Here) (s : State) (r : Result (List Item × List HeldToken × Meter) Cause) → IsNear s
      → Keeps IsNearGiven (r >>= λ x. laid s.table.language (marks_in f h) None x.0 >>= λ l.
      bounded f.task.settings.most_output (put_laid f.index l (with_meter x.2 s)) >>= λ t. Ok (t, x.1))
  items_near f h s (Ok x) n = laid_near f.task.settings.most_output f.index s x.1 x.2 (laid s.table.language (marks_in f h) None x.0) n
  items_near f h s (Err c) n = keeps_err

  opened_near : (f : File) (h : Here) (s : State) (ts : List Tok) → IsNear s → Keeps IsNearGiven (run_opened f h s ts)
  opened_near f h s ts n = items_near f h s (caused Expand (opening (record { table = s.table; mode = Plain; place = place_of f h }) s.meter h.waiting ts)) n

  closed_near : (language : Language) (r : Result State Cause) (opened : Result (State × List HeldToken) Cause) → Keeps IsNear r → Keeps IsNearGiven opened → Keeps IsNearGiven (closed_or language r opened)
  closed_near language (Ok t) opened n k = keeps_ok n.value
  closed_near language (Err c) opened n k = by (is_gnu language && is_unclosed c)
    where
      by : (b : Bool) → Keeps IsNearGiven (cond {A = Result (State × List HeldToken) Cause} b opened (Err c))
      by true = k
      by false = keeps_err

  given_near : (f : File) (h : Here) (s : State) (ts : List Tok) → IsNear s → Keeps IsNearGiven (run_given f h s ts)
  given_near f h s ts n = by h.waiting (closed_near s.table.language (run_expanded f h s ts) (run_opened f h s ts) (put_near f h s ts n) (opened_near f h s ts n)) (opened_near f h s ts n)
    where
      by : (hs : List HeldToken) → Keeps IsNearGiven (closed_or s.table.language (run_expanded f h s ts) (run_opened f h s ts)) → Keeps IsNearGiven (run_opened f h s ts)
          → Keeps IsNearGiven (elim hs as (λ _. Result (State × List HeldToken) Cause) [ [] ↦ closed_or s.table.language (run_expanded f h s ts) (run_opened f h s ts) | name ∷ more ↦ run_opened f h s ts ])
      by [] c o = c
      by (name ∷ more) c o = o

  line_near : (f : File) (l : FileLine) (s : State) → IsNear s → Holds (λ (ts : List Tok). Unit {0}) IsNear (line_asked f l s)
  line_near f l s n = holds_halting f (line_of_tokens l.tokens) s (asked_directive s l.tokens) n (keeps_any (asked_directive s l.tokens))

  tokens_near : (f : File) (ts : List Tok) (s : State) (h : Here) → IsNear s → Holds IsNearHere IsNear (tokens_read f ts s h)
  tokens_near f ts s h n = holds_then (holds_halting f (line_of_run h.waiting ts) s (run_given f h s ts) n (given_near f h s ts n)) (λ t k. holds_ok k)

  wait_near : (b : Bool) (x : State × Here) (r : Result (State × Here) Halt) → IsNearHere x → Holds IsNearHere IsNear r
      → Holds IsNearHere IsNear (elim b as (λ _. Result (State × Here) Halt) [ true ↦ Ok x | false ↦ r ])
  wait_near true x r n h = holds_ok n
  wait_near false x r n h = h

  text_near : (f : File) (ts : List Tok) (s : State) (h : Here) → IsNear s → Holds IsNearHere IsNear (text_read f ts s h)
  text_near f [] s h n = holds_ok n
  text_near f (t ∷ ts) s h n =
      holds_then (holds_halting f (line_of_tokens (t ∷ ts)) s (asked s.poisoned (t ∷ ts)) n (keeps_any (asked s.poisoned (t ∷ ts))))
      (λ _ k. wait_near (nat_lt 0 (open_behind h.deep (spellings (t ∷ ts)))) (s, with_waiting (h.waiting ++ map held_source (t ∷ ts)) (open_behind h.deep (spellings (t ∷ ts))) h)
      (tokens_read f (t ∷ ts) s h) n (tokens_near f (t ∷ ts) s h n))

  run_near : (f : File) (ls : List FileLine) (s : State) (h : Here) → IsNear s → Holds IsNearHere IsNear (run_read f ls s h)
  run_near f ls s h n = text_near f (run_tokens ls) s h n

  waiting_near : (f : File) (line : Option ℕ) (s : State) (h : Here) → IsNear s → Holds IsNearHere IsNear (released_at f line s h)
  waiting_near f None s h n = holds_ok n
  waiting_near f (Some line) s h n = holds_halting f line s (Err (Expand UnclosedCall)) n keeps_err

  before_near : (l : FileLine) (f : File) (s : State) (h : Here) → IsNear s → Holds IsNearHere IsNear (released_for l f s h)
  before_near l f s h n = by (ends_call l.kind s.table.language (called_name h.waiting) (operands l))
    where
      by : (b : Bool) → Holds IsNearHere IsNear (cond {A = Result (State × Here) Halt} b (released_at f (first_line_in h.waiting) s h) (Ok (s, h)))
      by true = waiting_near f (first_line_in h.waiting) s h n
      by false = holds_ok n

  condition_near : (kind : LineKind) (f : File) (l : FileLine) (s : State) (h : Here) → IsNear s → Keeps (IsNearAfter Bool) (condition_of kind f l s h)
  condition_near (Other Ifdef) f l s h n = keeps_after _ (λ x. keeps_ok n)
  condition_near (Other Ifndef) f l s h n = keeps_after _ (λ x. keeps_ok n)
  condition_near (Other Elifdef) f l s h n = keeps_after _ (λ x. keeps_ok n)
  condition_near (Other Elifndef) f l s h n = keeps_after _ (λ x. keeps_ok n)
  condition_near kind f l s h n = keeps_after _ (λ x. keeps_ok n)

  either_near : (b : Bool) (s t : State) → IsNear s → IsNear t → IsNear (cond b s t)
  either_near true s t n m = n
  either_near false s t n m = m

  -- such a line
  abbrev Leads : File → LineKind → List Tok → Type 0
  Leads f kind ts = LeadsNear Near Absent (place_from f.task (at_hand f)) kind ts

  -- a property of the value for each absent name
  each_absent : {A : Type 0} {F : Type 0} {P : List ℕ → A → Type 0} (c : F → Cause) (r : Result A F)
      → ((name : List ℕ) → Absent name → IfOk r (P name)) → Keeps (λ x. (name : List ℕ) → Absent name → P name x) (caused c r)
  each_absent c (Ok x) h = keeps_ok h
  each_absent c (Err fault) h = keeps_err

  defined_absent : (ts : List Tok) (table : Table) → ((name : List ℕ) → Absent name → defined_name (Other Define) ts ≢ Some name) → AreAbsent table
      → Keeps AreAbsent (caused cause.Define (define (drop 2 ts) table))
  defined_absent ts table apart absent =
      each_absent cause.Define (define (drop 2 ts) table)
      (λ name a. define_absent (drop 2 ts) name table (λ same. apart name a (sym (defined_first ts) ∙ same)) (absent name a))

  undefined_absent : (ts : List Tok) (table : Table) → AreAbsent table → Keeps (λ (r : Bool × Table). AreAbsent r.1) (caused cause.Define (undef ts table))
  undefined_absent ts table absent = each_absent cause.Define (undef ts table) (λ name a. undef_absent ts name table (absent name a))

  stacked_absent : (word : Tok) (other : List ℕ) (table : Table) → AreAbsent table → AreAbsent (stacked word other table)
  stacked_absent word other table absent name a = by (is_spelled (codes "push_macro") word)
    where
      by : (b : Bool) → IsAbsent name (cond b (push_macro other table) (pop_macro other table))
      by true = push_absent other name table (absent name a)
      by false = pop_absent other name table (absent name a)

  restacked_absent : (ts : List Tok) (table : Table) → AreAbsent table → Keeps AreAbsent (restacked ts table)
  restacked_absent [] table absent = keeps_err
  restacked_absent (t ∷ ts) table absent = by (stacked_name ts)
    where
      by : (o : Option (List ℕ)) → Keeps AreAbsent (ok_or (option_map (λ name. stacked t name table) o) cause.BadPragma)
      by (Some other) = keeps_ok (stacked_absent t other table absent)
      by None = keeps_err

  poison_near : (ts : List Tok) (s : State) → IsNear s → IsNear (poison_all ts s)
  poison_near [] s n = n
  poison_near (t ∷ ts) s n = poison_near ts (poison t.spelling s) (n.0, λ name a. none_absent t.spelling name s.table (n.1 name a))

  poisoned_near : (ts : List Tok) (s : State) → IsNear s → Keeps IsNear (poisoned_by ts s)
  poisoned_near ts s n = by (list_all (is_poisonable s.table.language) ts)
    where
      by : (b : Bool) → Keeps IsNear (cond {A = Result State Cause} b (Ok (poison_all ts s)) (Err cause.BadPragma))
      by true = keeps_ok (poison_near ts s n)
      by false = keeps_err

  pragma_kept : (a b c : Bool) (s : State) (r q p : Result State Cause) → IsNear s → Keeps IsNear r → Keeps IsNear q → Keeps IsNear p
      → Keeps IsNear (cond a (Ok s) (cond b r (cond c q p)))
  pragma_kept true b c s r q p n k i m = keeps_ok n
  pragma_kept false true c s r q p n k i m = k
  pragma_kept false false true s r q p n k i m = i
  pragma_kept false false false s r q p n k i m = m

  after_pragma_near : (f : File) (l : FileLine) (s : State) (h : Here) → IsNear s → Keeps IsNear (after_pragma f l s h)
  after_pragma_near f l s h n =
      pragma_kept (names_once (operands l)) (is_stacking s.table.language (operands l)) (names_poison s.table.language (operands l)) _
      (restacked (operands l) s.table >>= λ t. Ok (with_table t s)) (poisoned_by (drop 2 (operands l)) s) _ n
      (keeps_then (restacked_absent (operands l) s.table n.1) (λ table absent. keeps_ok (n.0, absent))) (poisoned_near (drop 2 (operands l)) s n)
      (bounded_near f.task.settings.most_output (put_out (put_pragma s.table.language (marks_in f h) (line_of_tokens l.tokens) l.tokens) s) n)

  changed_near : (directive : DirectiveKind) (f : File) (l : FileLine) (s : State) (h : Here) → Leads f (Other directive) l.tokens → IsNear s
      → Keeps IsNearHere (changed directive f l s h)
  changed_near Define f l s h leads n = keeps_then (defined_absent l.tokens s.table leads n.1) (λ table absent. keeps_ok (n.0, absent))
  changed_near Undef f l s h leads n = keeps_then (undefined_absent (operands l) s.table n.1) (λ r absent. keeps_ok (n.0, absent))
  changed_near Line f l s h leads n = keeps_then (expanded_near f h s (line_operands l.tokens) n) (λ r k. keeps_after _ (λ here. keeps_ok k))
  changed_near Pragma f l s h leads n = keeps_then (after_pragma_near f l s h n) (λ t k. keeps_ok k)
  changed_near Error f l s h leads n = keeps_err
  changed_near Foreign f l s h leads n = keeps_err
  changed_near Unknown f l s h leads n = keeps_err
  changed_near directive f l s h leads n = keeps_ok n

  ---- includes

  -- a file, if it is there
  abbrev IsNearFile : Option Found → Type 0
  IsNearFile o = IfSome o Near

  not_found_near : (m : Missing) → Keeps IsNearFile (not_found m)
  not_found_near missing.Stop = keeps_err
  not_found_near missing.Empty = keeps_ok tt

  wanted_by : (once many : Bool) (deeper : Deeper) (at : Found) → Near at
      → Keeps IsNearFile (cond {A = Result (Option Found) Cause} once (Ok None) (elim deeper as (λ _. Result (Option Found) Cause) [
        | None ↦ Err TooDeep
        | Some read ↦ cond {A = Result (Option Found) Cause} many (Err TooManyReads) (Ok (Some at))
      ]))
  wanted_by true many deeper at n = keeps_ok tt
  wanted_by false many None at n = keeps_err
  wanted_by false true (Some read) at n = keeps_err
  wanted_by false false (Some read) at n = keeps_ok n

  wanted_near : (by : IncludeName) (f : File) (s : State) (o : Option Found) → IsNearFile o → Keeps IsNearFile (wanted by f s o)
  wanted_near by f s None n = not_found_near f.task.settings.missing
  wanted_near by f s (Some at) n = wanted_by (is_done by s at.file) (nat_le 100_000 (length s.reads)) f.deeper at n

  after_near : (by : IncludeName) (o : Option Found) (s : State) → IsNear s → IsNear (after_found by o s)
  after_near by None s n = n
  after_near by (Some at) s n = either_near (is_import by) _ _ n n

  -- where an include leads, and the state after its expansion
  abbrev IsTarget : Option Found × State → Type 0
  IsTarget r = IsNearFile r.0 × IsNear r.1

  led_near : (by : IncludeName) (f : File) (s : State) (o : Option Found) → IsNearFile o → IsNear s → Keeps IsTarget (led_to by f s o)
  led_near by f s o near n = keeps_then (wanted_near by f s o near) (λ i k. keeps_ok (k, after_near by o s n))

  -- such a file as it is to be read
  abbrev IsEntered : Option FileToRead × State → Type 0
  IsEntered r = IfSome r.0 (λ e. Near e.at) × IsNear r.1

  entered_near : (f : File) (line : ℕ) (h : Here) (name : List ℕ) (r : Option Found × State) → IsTarget r → IsEntered (option_map (entered f line h name) r.0, r.1)
  entered_near f line h name (None, s) k = k
  entered_near f line h name (Some at, s) k = k

  target_near : (by : IncludeName) (target : Target) (f : File) (l : FileLine) (s : State) (h : Here) → Leads f (Include by target) l.tokens → IsNear s
      → Keeps IsEntered (include_target by target f l s h)
  target_near by (Quoted name) f l s h leads n =
      let header : Header = record { form = form.Quoted; name = name } in
      keeps_then (led_near by f s (found_from f by header) leads n) (λ r k. keeps_ok (entered_near f (line_of_tokens l.tokens) h name r k))
  target_near by (Angled name) f l s h leads n =
      let header : Header = record { form = form.Angled; name = name } in
      keeps_then (led_near by f s (found_from f by header) leads n) (λ r k. keeps_ok (entered_near f (line_of_tokens l.tokens) h name r k))
  target_near by (ByName name) f l s h leads n =
      let none : Keeps (λ r. ⊥) (header_of (ByName name) f l s h) = record { value = no_header_by_name name f l s h leads.1 (n.1 name leads.0).0 } in
      keeps_then none (λ r never. absurd never)
  target_near by Computed f l s h leads n = absurd leads
  target_near by Nothing f l s h leads n = keeps_err

  -- what is included, if it may be, reads near files alone
  abbrev IsDeeperNear : Deeper → Type 0
  IsDeeperNear deeper = IfSome deeper (λ read. (e : FileToRead) (s : State) → Near e.at → IsNear s → Holds IsNear IsNear (read e s))

  included_near : (deeper : Deeper) (o : Option FileToRead) (s : State) (h : Here) → IsDeeperNear deeper → IfSome o (λ e. Near e.at) → IsNear s → Holds IsNearHere IsNear (included deeper o s h)
  included_near (Some read) (Some e) s h d leads n = holds_then (d e s leads n) (λ after k. holds_ok k)
  included_near (Some read) None s h d leads n = holds_ok n
  included_near None o s h d leads n = holds_ok n

  ---- files

  control_near : (kind : LineKind) (f : File) (l : FileLine) (s : State) (h : Here) → IsDeeperNear f.deeper → Leads f kind l.tokens → IsNear s
      → Holds IsNearHere IsNear (control_of kind f l s h)
  control_near (Include by target) f l s h d leads n =
      holds_then (holds_halting f (line_of_tokens l.tokens) s (include_target by target f l s h) n (target_near by target f l s h leads n))
      (λ r k. included_near f.deeper r.0 r.1 h d k.0 k.1)
  control_near Text f l s h d leads n = holds_ok n
  control_near (Other directive) f l s h d leads n = holds_halting f (line_of_tokens l.tokens) s (changed directive f l s h) n (changed_near directive f l s h leads n)

  abbrev pub LineLeadsNear : Task → Found → FileLine → Type 0
  LineLeadsNear t at l = LeadsNear Near Absent (place_from t at) l.kind l.tokens

  by_test : (b : Bool) (x y : Result (State × Here) Halt) → Holds IsNearHere IsNear x → Holds IsNearHere IsNear y
      → Holds IsNearHere IsNear (elim b as (λ _. Result (State × Here) Halt) [ true ↦ x | false ↦ y ])
  by_test true x y h k = h
  by_test false x y h k = k

  mutual
    group_near : (f : File) (g : Group) (s : State) (h : Here) → IsDeeperNear f.deeper → Each (LineLeadsNear f.task (at_hand f)) (lines_of g) → IsNear s
        → Holds IsNearHere IsNear (group_read f g s h)
    group_near f Empty s h d each n = holds_ok n
    group_near f (Run ls g) s h d each n =
        holds_then (run_near f ls s h n) (λ r k. group_near f g r.0 r.1 d (each_behind (LineLeadsNear f.task (at_hand f)) ls (lines_of g) each) k)
    group_near f (Control l g) s h d each n =
        holds_then (holds_then (before_near l f s h n) (λ p k. holds_then (line_near f l p.0 k) (λ _ _. control_near l.kind f l p.0 p.1 d each.0 k))) (λ r k. group_near f g r.0 r.1 d each.1 k)
    group_near f (Section bs g) s h d each n =
        holds_then (section_near f bs s h d (each_before (LineLeadsNear f.task (at_hand f)) (lines_of_branches bs) (lines_of g) each) n)
        (λ r k. group_near f g r.0 r.1 d (each_behind (LineLeadsNear f.task (at_hand f)) (lines_of_branches bs) (lines_of g) each) k)

    section_near : (f : File) (bs : Branches) (s : State) (h : Here) → IsDeeperNear f.deeper → Each (LineLeadsNear f.task (at_hand f)) (lines_of_branches bs) → IsNear s
        → Holds IsNearHere IsNear (section_read f bs s h)
    section_near f (Branch l g bs) s h d each n =
        holds_then
        (holds_then (line_near f l s n) (λ _ _. holds_halting f (line_of_tokens l.tokens) s (condition_of l.kind f l s h) n (condition_near l.kind f l s h n)))
        (λ r k. by_test r.0 (group_read f g r.1 h) (section_read f bs r.1 h)
        (group_near f g r.1 h d (each_before (LineLeadsNear f.task (at_hand f)) (lines_of g) (lines_of_branches bs) each.1) k)
        (section_near f bs r.1 h d (each_behind (LineLeadsNear f.task (at_hand f)) (lines_of g) (lines_of_branches bs) each.1) k))
    section_near f (Otherwise l g e) s h d each n = group_near f g s h d (each_before (LineLeadsNear f.task (at_hand f)) (lines_of g) (e ∷ []) each.1) n
    section_near f (Close e) s h d each n = holds_ok n

  tree_near : (f : File) (r : Result Group FileFault) (s : State) (h : Here) → IsDeeperNear f.deeper → ((g : Group) → r ≡ Ok g → Each (LineLeadsNear f.task (at_hand f)) (lines_of g)) → IsNear s
      → Holds IsNear IsNear (tree_read f r s h)
  tree_near f (Ok g) s h d each n = holds_then (group_near f g s h d (each g refl) n) (λ r k. holds_then (waiting_near f (first_line_in r.1.waiting) r.0 r.1 k) (λ q i. holds_ok i))
  tree_near f (Err fault) s h d each n = holds_halting f fault.1 s (Err fault.0) n keeps_err

  counted_near : (much : Bool) (f : File) (e : FileToRead) (r : Result Group FileFault) (s : State) (h : Here) → IsDeeperNear f.deeper
      → ((g : Group) → r ≡ Ok g → Each (LineLeadsNear f.task (at_hand f)) (lines_of g)) → IsNear s → Holds IsNear IsNear (counted_read much f e r s h)
  counted_near true f e r s h d each n = record { outcome = n }
  counted_near false f e r s h d each n = tree_near f r s h d each n

  module _ (t : Task) (each : (at : Found) → Near at → (g : Group) → tree_of t.settings.language t.listing t.without at.file ≡ Ok g → Each (LineLeadsNear t at) (lines_of g)) where
    file_near : (deeper : Deeper) (e : FileToRead) (s : State) → IsDeeperNear deeper → Near e.at → IsNear s → Holds IsNear IsNear (file_read t deeper e s)
    file_near deeper e s d near n =
        let size = length (bytes_at t.listing e.at.file) in
        counted_near (is_too_much t.settings.most_read (s.bytes_read + size))
        (record { task = t; index = e.at.file; next = e.at.next; deeper = deeper }) e (tree_of t.settings.language t.listing t.without e.at.file)
        (with_read e.at.file size s) (start (layout_in t) e) d (each e.at near)
        (each_push IsNearRead s.reads e.at.file n.0 (e.at.next, near), n.1)

    reading_near : (left : ℕ) (e : FileToRead) (s : State) → Near e.at → IsNear s → Holds IsNear IsNear (reading left t e s)
    reading_near zero e s near n = file_near None e s tt near n
    reading_near (suc left) e s near n = file_near (Some (reading left t)) e s (λ to u m k. reading_near left to u m k) near n

  abbrev pub ReadsNear : Outcome → Type 0
  ReadsNear o = Each IsNearRead o.reads

  outcome_near : (r : Result State Halt) → Holds IsNear IsNear r → ReadsNear (outcome_of r)
  outcome_near (Ok s) h = h.outcome.0
  outcome_near (Err halt) h = h.outcome.0

-- all files that a preprocessing reads are near, where the words define no absent name
pub near_reads : (Near : Found → Type 0) (Absent : List ℕ → Type 0) (listing : Listing) (source : ℕ) (words : List (List ℕ)) (settings : Settings) (without : List DirectiveId) (outcome : Outcome)
    → Near (record { file = source; next = None })
    → ((at : Found) → Near at → (g : Group) → tree_of settings.language listing without at.file ≡ Ok g
    → Each (LineLeadsNear Near Absent (record { listing = listing; settings = settings; without = without }) at) (lines_of g))
    → IfOk (with_words 0 words (no_macros settings.language)) (AreAbsent Near Absent)
    → preprocessing listing source words settings without ≡ Ok outcome → Each (IsNearRead Near Absent) outcome.reads
near_reads Near Absent listing source words settings without outcome near each absent is =
    let named : Settings = named_settings (layout_of listing) source settings in
    let t : Task = record { listing = listing; settings = named; without = without } in
    let begins : Keeps (AreAbsent Near Absent) (with_words 0 words (no_macros settings.language)) = record { value = absent } in
    let kept : Keeps (ReadsNear Near Absent) (preprocessing listing source words settings without) =
    keeps_then begins (λ table lacks. keeps_ok (outcome_near Near Absent (reading most_depth t (source_at named source) (begun table)) (reading_near Near Absent t each most_depth (source_at named source) (begun table) near (tt, lacks)))) in
    IfOk-at_ok (ReadsNear Near Absent) is kept.value
