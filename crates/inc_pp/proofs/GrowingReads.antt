-- What a preprocessing has read stays the beginning of what it reads.
use Rattle.std.proofs.Common.{◌≡◌, sym, ap, ◌∙◌, ℕ, zero, suc, ◌-◌, Bool, true, false, cond, List, [], ◌∷◌, ◌++◌, Option, Some, None, Result, Ok, Err, drop, length, map, nat_lt, ◌&&◌, ◌+◌}
use Rattle.std.specs.List.{list_all}
use Rattle.std.specs.Prelude.{IfSome}
use Rattle.std.proofs.lemmas.List.{append_assoc, append-nil}
use Rattle.inc_token.specs.declared.kinds.IncludeName.{IncludeName}
use Rattle.inc_lookup.specs.declared.projects.Found.{Found}
use Rattle.inc_lookup.specs.Projects.{bytes_at}
use Rattle.inc_directive.specs.Groups.{FileLine, Group, Branches, Empty, Run, Control, Section, Branch, Otherwise, Close, Ending, FileEnd, Faulty, AtElif, AtElse, AtEndif, group_at}
use Rattle.inc_directive.specs.LineKinds.{LineKind, Text, Include, Other, Target, Quoted, Angled, Nothing, line_of_tokens}
use Rattle.inc_directive.specs.declared.kinds.DirectiveKind.{DirectiveKind}
use Rattle.inc_directive.specs.declared.kinds.DirectiveKind.TheVariants.{Define, Undef, Line, Error, Pragma, Foreign, Unknown, Ifdef, Ifndef, Elifdef, Elifndef}
use Rattle.inc_directive.specs.Runs.{run_tokens}
use Rattle.inc_token.specs.TokenLines.{Tok}
use Rattle.inc_macro.specs.Results.{◌>>=◌}
use Rattle.inc_directive.specs.Parts.{lines_from}
use Rattle.inc_text.specs.declared.languages.Language.{Language}
use Rattle.inc_text.specs.Languages.{is_gnu}
use Rattle.inc_expand.specs.declared.faults.ExpandFault.TheVariants.{UnclosedCall}
use Rattle.inc_expand.specs.declared.places.Mode.TheVariants.{Plain}
use Rattle.inc_expand.specs.Expansion.{Item, Meter}
use Rattle.inc_expand.specs.Openings.{Held as HeldToken, held_source, opening}
use Rattle.inc_pp.specs.declared.causes.Cause.{Cause}
use Rattle.inc_pp.specs.declared.causes.Cause.TheVariants.{BadPragma, Expand, TooMuchOutput}
use Rattle.inc_pp.specs.declared.frames.Frame.{Frame}
use Rattle.inc_pp.specs.Directives.{after_pragma, line_operands, names_once, changed, control_of, ends_call, is_stacking, put_pragma, released_for, restacked, with_table}
use Rattle.inc_pp.specs.Files.{FileFault, tree_of}
use Rattle.inc_pp.specs.Includes.{Header, after_found, found_from, header_of, include_target, included, is_import, led_to}
use Rattle.inc_pp.specs.Preprocessing.{group_read, section_read, tree_read, counted_read, file_read, reading, most_depth, outcome_of, with_read}
use Rattle.inc_pp.specs.Settings.{is_too_much}
use Rattle.inc_pp.specs.OpenCalls.{called_name, first_line_in, open_behind, spellings}
use Rattle.inc_pp.specs.Pragmas.{Laid, laid}
use Rattle.inc_pp.specs.Poison.{asked, asked_directive, is_poisonable, line_asked, names_poison, poison, poison_all, poisoned_by}
use Rattle.inc_pp.specs.Printed.{printed}
use Rattle.inc_pp.specs.Runs.{bounded, closed_or, expanded, is_unclosed, line_of_run, marks_in, put_laid, put_out, released_at, run_expanded, run_given, run_opened, run_read, text_read, tokens_read, with_meter, with_waiting}
use Rattle.inc_pp.specs.Sections.{condition_of, operands}
use Rattle.inc_pp.specs.Tasks.{Task, State, Entry, Here, Halt, Deeper, File, caused, layout_in, place_of, start}
use Rattle.inc_pp.specs.Walks.{Held, all_read, deeper_at, ending_read, file_at, lines_read, parts_in, open_read}
use Rattle.inc_pp.proofs.KeptSteps.{Keeps, keeps_ok, keeps_err, keeps_any, keeps_after, keeps_then, Holds, holds_ok, holds_then, holds_halting}

-- the list begins with what was there before
record Begins (before : List ℕ) (all : List ℕ) : Type 0 where
  more : List ℕ
  is : all ≡ before ++ more

begins_same : (before : List ℕ) → Begins before before
begins_same before = record { more = []; is = sym (append-nil before) }

module _ (before : List ℕ) where
  -- what was read so far begins with what was read before
  abbrev IsOn : State → Type 0
  IsOn s = Begins before s.reads

  -- what a step gives, and the state after it
  abbrev IsOnAfter : (A : Type 0) → A × State → Type 0
  IsOnAfter A r = IsOn r.1

  -- the state after a part of a file, and where it is
  abbrev IsOnHere : State × Here → Type 0
  IsOnHere r = IsOn r.0

  with_one : (i : ℕ) (s : State) → IsOn s → Begins before (s.reads ++ (i ∷ []))
  with_one i s n = record { more = n.more ++ (i ∷ []); is = ap (λ xs. xs ++ (i ∷ [])) n.is ∙ append_assoc before n.more (i ∷ []) }

  ---- what reads no file

  expanded_on : (f : File) (h : Here) (s : State) (ts : List Tok) → IsOn s → Keeps (IsOnAfter (List Item)) (expanded f h s ts)
  expanded_on f h s ts n = keeps_after _ (λ x. keeps_ok n)

  -- the state after a run, and the call that waits
  abbrev IsOnGiven : State × List HeldToken → Type 0
  IsOnGiven r = IsOn r.0

  bounded_on : (most : Option ℕ) (s : State) → IsOn s → Keeps IsOn (bounded most s)
  bounded_on most s n = by (is_too_much most (length (printed s.output)))
    where
      by : (b : Bool) → Keeps IsOn (cond {A = Result State Cause} b (Err TooMuchOutput) (Ok s))
      by true = keeps_err
      by false = keeps_ok n

  put_on : (f : File) (h : Here) (s : State) (ts : List Tok) → IsOn s → Keeps IsOn (run_expanded f h s ts)
  put_on f h s ts n =
      keeps_then (expanded_on f h s ts n) (λ r k. keeps_after _ (λ l. bounded_on f.task.settings.most_output (put_laid f.index l r.1) k))

  laid_on : (most : Option ℕ) (file : ℕ) (s : State) (call : List HeldToken) (meter : Meter) (r : Result Laid Cause) → IsOn s
      → Keeps IsOnGiven (r >>= λ l. bounded most (put_laid file l (with_meter meter s)) >>= λ t. Ok (t, call))
  laid_on most file s call meter (Ok l) n = keeps_then (bounded_on most (put_laid file l (with_meter meter s)) n) (λ t k. keeps_ok k)
  laid_on most file s call meter (Err c) n = keeps_err

  items_on : (f : File) (h : Here) (s : State) (r : Result (List Item × List HeldToken × Meter) Cause) → IsOn s
      → Keeps IsOnGiven (r >>= λ x. laid s.table.language (marks_in f h) None x.0 >>= λ l.
      bounded f.task.settings.most_output (put_laid f.index l (with_meter x.2 s)) >>= λ t. Ok (t, x.1))
  items_on f h s (Ok x) n = laid_on f.task.settings.most_output f.index s x.1 x.2 (laid s.table.language (marks_in f h) None x.0) n
  items_on f h s (Err c) n = keeps_err

  opened_on : (f : File) (h : Here) (s : State) (ts : List Tok) → IsOn s → Keeps IsOnGiven (run_opened f h s ts)
  opened_on f h s ts n = items_on f h s (caused Expand (opening (record { table = s.table; mode = Plain; place = place_of f h }) s.meter h.waiting ts)) n

  closed_on : (language : Language) (r : Result State Cause) (opened : Result (State × List HeldToken) Cause) → Keeps IsOn r → Keeps IsOnGiven opened → Keeps IsOnGiven (closed_or language r opened)
  closed_on language (Ok t) opened n k = keeps_ok n.value
  closed_on language (Err c) opened n k = by (is_gnu language && is_unclosed c)
    where
      by : (b : Bool) → Keeps IsOnGiven (cond {A = Result (State × List HeldToken) Cause} b opened (Err c))
      by true = k
      by false = keeps_err

  given_on : (f : File) (h : Here) (s : State) (ts : List Tok) → IsOn s → Keeps IsOnGiven (run_given f h s ts)
  given_on f h s ts n = by h.waiting (closed_on s.table.language (run_expanded f h s ts) (run_opened f h s ts) (put_on f h s ts n) (opened_on f h s ts n)) (opened_on f h s ts n)
    where
      by : (hs : List HeldToken) → Keeps IsOnGiven (closed_or s.table.language (run_expanded f h s ts) (run_opened f h s ts)) → Keeps IsOnGiven (run_opened f h s ts)
          → Keeps IsOnGiven (elim hs as (λ _. Result (State × List HeldToken) Cause) [ [] ↦ closed_or s.table.language (run_expanded f h s ts) (run_opened f h s ts) | name ∷ more ↦ run_opened f h s ts ])
      by [] c o = c
      by (name ∷ more) c o = o

  line_on : (f : File) (l : FileLine) (s : State) → IsOn s → Holds (λ (ts : List Tok). Unit {0}) IsOn (line_asked f l s)
  line_on f l s n = holds_halting f (line_of_tokens l.tokens) s (asked_directive s l.tokens) n (keeps_any (asked_directive s l.tokens))

  tokens_on : (f : File) (ts : List Tok) (s : State) (h : Here) → IsOn s → Holds IsOnHere IsOn (tokens_read f ts s h)
  tokens_on f ts s h n = holds_then (holds_halting f (line_of_run h.waiting ts) s (run_given f h s ts) n (given_on f h s ts n)) (λ t k. holds_ok k)

  wait_on : (b : Bool) (x : State × Here) (r : Result (State × Here) Halt) → IsOnHere x → Holds IsOnHere IsOn r
      → Holds IsOnHere IsOn (elim b as (λ _. Result (State × Here) Halt) [ true ↦ Ok x | false ↦ r ])
  wait_on true x r n h = holds_ok n
  wait_on false x r n h = h

  text_on : (f : File) (ts : List Tok) (s : State) (h : Here) → IsOn s → Holds IsOnHere IsOn (text_read f ts s h)
  text_on f [] s h n = holds_ok n
  text_on f (t ∷ ts) s h n =
      holds_then (holds_halting f (line_of_tokens (t ∷ ts)) s (asked s.poisoned (t ∷ ts)) n (keeps_any (asked s.poisoned (t ∷ ts))))
      (λ _ k. wait_on (nat_lt 0 (open_behind h.deep (spellings (t ∷ ts)))) (s, with_waiting (h.waiting ++ map held_source (t ∷ ts)) (open_behind h.deep (spellings (t ∷ ts))) h)
      (tokens_read f (t ∷ ts) s h) n (tokens_on f (t ∷ ts) s h n))

  run_on : (f : File) (ls : List FileLine) (s : State) (h : Here) → IsOn s → Holds IsOnHere IsOn (run_read f ls s h)
  run_on f ls s h n = text_on f (run_tokens ls) s h n

  waiting_on : (f : File) (line : Option ℕ) (s : State) (h : Here) → IsOn s → Holds IsOnHere IsOn (released_at f line s h)
  waiting_on f None s h n = holds_ok n
  waiting_on f (Some line) s h n = holds_halting f line s (Err (Expand UnclosedCall)) n keeps_err

  before_on : (l : FileLine) (f : File) (s : State) (h : Here) → IsOn s → Holds IsOnHere IsOn (released_for l f s h)
  before_on l f s h n = by (ends_call l.kind s.table.language (called_name h.waiting) (operands l))
    where
      by : (b : Bool) → Holds IsOnHere IsOn (cond {A = Result (State × Here) Halt} b (released_at f (first_line_in h.waiting) s h) (Ok (s, h)))
      by true = waiting_on f (first_line_in h.waiting) s h n
      by false = holds_ok n

  condition_on : (kind : LineKind) (f : File) (l : FileLine) (s : State) (h : Here) → IsOn s → Keeps (IsOnAfter Bool) (condition_of kind f l s h)
  condition_on (Other Ifdef) f l s h n = keeps_after _ (λ x. keeps_ok n)
  condition_on (Other Ifndef) f l s h n = keeps_after _ (λ x. keeps_ok n)
  condition_on (Other Elifdef) f l s h n = keeps_after _ (λ x. keeps_ok n)
  condition_on (Other Elifndef) f l s h n = keeps_after _ (λ x. keeps_ok n)
  condition_on kind f l s h n = keeps_after _ (λ x. keeps_ok n)

  either_on : (b : Bool) (s t : State) → IsOn s → IsOn t → IsOn (cond b s t)
  either_on true s t n m = n
  either_on false s t n m = m

  poison_on : (ts : List Tok) (s : State) → IsOn s → IsOn (poison_all ts s)
  poison_on [] s n = n
  poison_on (t ∷ ts) s n = poison_on ts (poison t.spelling s) n

  poisoned_on : (ts : List Tok) (s : State) → IsOn s → Keeps IsOn (poisoned_by ts s)
  poisoned_on ts s n = by (list_all (is_poisonable s.table.language) ts)
    where
      by : (b : Bool) → Keeps IsOn (cond {A = Result State Cause} b (Ok (poison_all ts s)) (Err BadPragma))
      by true = keeps_ok (poison_on ts s n)
      by false = keeps_err

  pragma_kept : (a b c : Bool) (s : State) (r q p : Result State Cause) → IsOn s → Keeps IsOn r → Keeps IsOn q → Keeps IsOn p
      → Keeps IsOn (cond a (Ok s) (cond b r (cond c q p)))
  pragma_kept true b c s r q p n k i m = keeps_ok n
  pragma_kept false true c s r q p n k i m = k
  pragma_kept false false true s r q p n k i m = i
  pragma_kept false false false s r q p n k i m = m

  pragma_on : (f : File) (l : FileLine) (s : State) (h : Here) → IsOn s → Keeps IsOn (after_pragma f l s h)
  pragma_on f l s h n =
      pragma_kept (names_once (operands l)) (is_stacking s.table.language (operands l)) (names_poison s.table.language (operands l)) _
      (restacked (operands l) s.table >>= λ t. Ok (with_table t s)) (poisoned_by (drop 2 (operands l)) s) _ n
      (keeps_after (restacked (operands l) s.table) (λ t. keeps_ok n)) (poisoned_on (drop 2 (operands l)) s n)
      (bounded_on f.task.settings.most_output (put_out (put_pragma s.table.language (marks_in f h) (line_of_tokens l.tokens) l.tokens) s) n)

  changed_on : (directive : DirectiveKind) (f : File) (l : FileLine) (s : State) (h : Here) → IsOn s → Keeps IsOnHere (changed directive f l s h)
  changed_on Define f l s h n = keeps_after _ (λ x. keeps_ok n)
  changed_on Undef f l s h n = keeps_after _ (λ x. keeps_ok n)
  changed_on Line f l s h n = keeps_then (expanded_on f h s (line_operands l.tokens) n) (λ r k. keeps_after _ (λ here. keeps_ok k))
  changed_on Pragma f l s h n = keeps_then (pragma_on f l s h n) (λ t k. keeps_ok k)
  changed_on Error f l s h n = keeps_err
  changed_on Foreign f l s h n = keeps_err
  changed_on Unknown f l s h n = keeps_err
  changed_on directive f l s h n = keeps_ok n

  ---- includes

  found_on : (m : IncludeName) (o : Option Found) (s : State) → IsOn s → IsOn (after_found m o s)
  found_on m None s n = n
  found_on m (Some at) s n = either_on (is_import m) _ _ n n

  led_on : (m : IncludeName) (f : File) (s : State) (o : Option Found) → IsOn s → Keeps (IsOnAfter (Option Found)) (led_to m f s o)
  led_on m f s o n = keeps_after _ (λ i. keeps_ok (found_on m o s n))

  named_on : (m : IncludeName) (f : File) (r : Header × State) → IsOn r.1 → Keeps (IsOnAfter (Option Found)) (led_to m f r.1 (found_from f m r.0))
  named_on m f r n = led_on m f r.1 (found_from f m r.0) n

  header_on : (target : Target) (f : File) (l : FileLine) (s : State) (h : Here) → IsOn s → Keeps (IsOnAfter Header) (header_of target f l s h)
  header_on (Quoted name) f l s h n = keeps_ok n
  header_on (Angled name) f l s h n = keeps_ok n
  header_on Nothing f l s h n = keeps_err
  header_on target f l s h n = keeps_then (expanded_on f h s (operands l) n) (λ r k. keeps_after _ (λ header. keeps_ok k))

  target_on : (m : IncludeName) (target : Target) (f : File) (l : FileLine) (s : State) (h : Here) → IsOn s → Keeps (IsOnAfter (Option Entry)) (include_target m target f l s h)
  target_on m target f l s h n = keeps_then (header_on target f l s h n) (λ r k. keeps_then (named_on m f r k) (λ q i. keeps_ok i))

  -- what is included, if it may be, reads on
  abbrev IsDeeperOn : Deeper → Type 0
  IsDeeperOn deeper = IfSome deeper (λ read. (to : Entry) (s : State) → IsOn s → Holds IsOn IsOn (read to s))

  included_on : (deeper : Deeper) (o : Option Entry) (s : State) (h : Here) → IsDeeperOn deeper → IsOn s → Holds IsOnHere IsOn (included deeper o s h)
  included_on (Some read) (Some to) s h d n = holds_then (d to s n) (λ after k. holds_ok k)
  included_on (Some read) None s h d n = holds_ok n
  included_on None o s h d n = holds_ok n

  ---- files

  control_on : (kind : LineKind) (f : File) (l : FileLine) (s : State) (h : Here) → IsDeeperOn f.deeper → IsOn s → Holds IsOnHere IsOn (control_of kind f l s h)
  control_on (Include m target) f l s h d n =
      holds_then (holds_halting f (line_of_tokens l.tokens) s (include_target m target f l s h) n (target_on m target f l s h n)) (λ r k. included_on f.deeper r.0 r.1 h d k)
  control_on Text f l s h d n = holds_ok n
  control_on (Other directive) f l s h d n = holds_halting f (line_of_tokens l.tokens) s (changed directive f l s h) n (changed_on directive f l s h n)

  by_test : (b : Bool) (x y : Result (State × Here) Halt) → Holds IsOnHere IsOn x → Holds IsOnHere IsOn y
      → Holds IsOnHere IsOn (elim b as (λ _. Result (State × Here) Halt) [ true ↦ x | false ↦ y ])
  by_test true x y h k = h
  by_test false x y h k = k

  mutual
    group_on : (f : File) (g : Group) (s : State) (h : Here) → IsDeeperOn f.deeper → IsOn s → Holds IsOnHere IsOn (group_read f g s h)
    group_on f Empty s h d n = holds_ok n
    group_on f (Run ls g) s h d n = holds_then (run_on f ls s h n) (λ r k. group_on f g r.0 r.1 d k)
    group_on f (Control l g) s h d n =
        holds_then (holds_then (before_on l f s h n) (λ p k. holds_then (line_on f l p.0 k) (λ _ _. control_on l.kind f l p.0 p.1 d k))) (λ r k. group_on f g r.0 r.1 d k)
    group_on f (Section bs g) s h d n = holds_then (section_on f bs s h d n) (λ r k. group_on f g r.0 r.1 d k)

    section_on : (f : File) (bs : Branches) (s : State) (h : Here) → IsDeeperOn f.deeper → IsOn s → Holds IsOnHere IsOn (section_read f bs s h)
    section_on f (Branch l g bs) s h d n =
        holds_then
        (holds_then (line_on f l s n) (λ _ _. holds_halting f (line_of_tokens l.tokens) s (condition_of l.kind f l s h) n (condition_on l.kind f l s h n)))
        (λ r k. by_test r.0 (group_read f g r.1 h) (section_read f bs r.1 h) (group_on f g r.1 h d k) (section_on f bs r.1 h d k))
    section_on f (Otherwise l g e) s h d n = group_on f g s h d n
    section_on f (Close e) s h d n = holds_ok n

  tree_on : (f : File) (r : Result Group FileFault) (s : State) (h : Here) → IsDeeperOn f.deeper → IsOn s → Holds IsOn IsOn (tree_read f r s h)
  tree_on f (Ok g) s h d n = holds_then (group_on f g s h d n) (λ r k. holds_then (waiting_on f (first_line_in r.1.waiting) r.0 r.1 k) (λ q i. holds_ok i))
  tree_on f (Err fault) s h d n = holds_halting f fault.1 s (Err fault.0) n keeps_err

  counted_on : (much : Bool) (f : File) (to : Entry) (r : Result Group FileFault) (s : State) (h : Here) → IsDeeperOn f.deeper → IsOn s
      → Holds IsOn IsOn (counted_read much f to r s h)
  counted_on true f to r s h d n = record { outcome = n }
  counted_on false f to r s h d n = tree_on f r s h d n

  ---- what is left of a file

  ending_on : (f : File) (e : Ending) (s : State) (h : Here) → IsDeeperOn f.deeper → IsOn s → Holds IsOnHere IsOn (ending_read f e s h)
  ending_on f FileEnd s h d n = waiting_on f (first_line_in h.waiting) s h n
  ending_on f (Faulty fault) s h d n = holds_ok n
  ending_on f (AtElif l g e) s h d n = ending_on f e s h d n
  ending_on f (AtElse l g e) s h d n = ending_on f e s h d n
  ending_on f (AtEndif l g e) s h d n = holds_then (group_on f g s h d n) (λ r k. ending_on f e r.0 r.1 d k)

  lines_on : (f : File) (ls : List FileLine) (s : State) (h : Here) → IsDeeperOn f.deeper → IsOn s → Holds IsOnHere IsOn (lines_read f ls s h)
  lines_on f ls s h d n = holds_then (group_on f (group_at ls).0 s h d n) (λ r k. ending_on f (group_at ls).1 r.0 r.1 d k)

  module _ (t : Task) where
    -- a file that was added to the reads is read on, and what it includes with it
    entered_on : (deeper : Deeper) (to : Entry) (s : State) → IsDeeperOn deeper → Begins before (s.reads ++ (to.at.file ∷ [])) → Holds IsOn IsOn (file_read t deeper to s)
    entered_on deeper to s d n =
        let size = length (bytes_at t.listing to.at.file) in
        counted_on (is_too_much t.settings.most_read (s.bytes_read + size))
        (record { task = t; index = to.at.file; next = to.at.next; deeper = deeper }) to (tree_of t.settings.language t.listing t.without to.at.file)
        (with_read to.at.file size s) (start (layout_in t) to) d n

    reading_on : (left : ℕ) (to : Entry) (s : State) → Begins before (s.reads ++ (to.at.file ∷ [])) → Holds IsOn IsOn (reading left t to s)
    reading_on zero to s n = entered_on None to s tt n
    reading_on (suc left) to s n = entered_on (Some (reading left t)) to s (λ e u k. reading_on left e u (with_one e.at.file u k)) n

    deeper_on : (left : ℕ) → IsDeeperOn (deeper_at t left)
    deeper_on zero = tt
    deeper_on (suc left) = λ e u k. reading_on left e u (with_one e.at.file u k)

    open_on : (held : Held) (o : Frame) (depth : ℕ) (s : State) → IsOn s → Holds IsOn IsOn (open_read t held o depth s)
    open_on held o depth s n =
        holds_then (lines_on (file_at t o.at depth) (lines_from o.part (parts_in held o.at.file)) s o.here (deeper_on (most_depth - depth)) n) (λ r k. holds_ok k)

    all_on : (held : Held) (os : List Frame) (r : Result State Halt) → Holds IsOn IsOn r → Holds IsOn IsOn (all_read t held os r)
    all_on held [] r n = n
    all_on held (o ∷ os) r n = all_on held os (r >>= open_read t held o (length os)) (holds_then n (λ s k. open_on held o (length os) s k))

---- what is read

-- the files that were read, to the end or to the stop
abbrev pub reads_of : Result State Halt → List ℕ
reads_of r = (outcome_of r).reads

-- they begin with those that were read before
abbrev pub Grows : List ℕ → Result State Halt → Type 0
Grows before r = (more : List ℕ) × (reads_of r ≡ before ++ more)

grown : (before : List ℕ) (r : Result State Halt) → Holds (IsOn before) (IsOn before) r → Grows before r
grown before (Ok s) h = (h.outcome.more, h.outcome.is)
grown before (Err halt) h = (h.outcome.more, h.outcome.is)

-- those before a file, the file, and more
behind : (before : List ℕ) (file : ℕ) (r : Result State Halt) → Grows (before ++ (file ∷ [])) r → (more : List ℕ) × (reads_of r ≡ before ++ file ∷ more)
behind before file r g = (g.0, g.1 ∙ append_assoc before (file ∷ []) g.0)

-- a file that is read comes next among the reads
pub grows-reading : (t : Task) (left : ℕ) (to : Entry) (s : State) → (more : List ℕ) × (reads_of (reading left t to s) ≡ s.reads ++ to.at.file ∷ more)
grows-reading t left to s =
    let before = s.reads ++ (to.at.file ∷ []) in
    behind s.reads to.at.file (reading left t to s) (grown before (reading left t to s) (reading_on before t left to s (begins_same before)))

-- what is left of all files that are being read adds to the reads
pub grows-all : (t : Task) (held : Held) (os : List Frame) (s : State) → Grows s.reads (all_read t held os (Ok s))
grows-all t held os s = grown s.reads (all_read t held os (Ok s)) (all_on s.reads t held os (Ok s) (holds_ok (begins_same s.reads)))

-- so it does where a file is read first
pub grows-entering : (t : Task) (held : Held) (os : List Frame) (left : ℕ) (to : Entry) (s : State)
    → (more : List ℕ) × (reads_of (all_read t held os (file_read t (deeper_at t left) to s)) ≡ s.reads ++ to.at.file ∷ more)
grows-entering t held os left to s =
    let before = s.reads ++ (to.at.file ∷ []) in
    let r = file_read t (deeper_at t left) to s in
    behind s.reads to.at.file (all_read t held os r)
    (grown before (all_read t held os r) (all_on before t held os r (entered_on before t (deeper_at t left) to s (deeper_on before t left) (begins_same before))))
