-- A preprocessing reads bare trees as it reads the trees, and of a project it sees the settings, the paths and the
-- trees.
use Rattle.std.proofs.Common.{◌≡◌, ℕ, nat_lt, Bool, true, false, cond, List, [], ◌∷◌, ◌++◌, Option, Some, None, Result, Ok, Err, map, option_map, refl, sym, ap, ◌∙◌}
use Rattle.inc_token.specs.declared.kinds.IncludeName.{IncludeName}
use Rattle.inc_token.specs.TokenLines.{Tok}
use Rattle.inc_directive.specs.Groups.{FileLine, Group, Empty, Run, Control, Section, Branches, Branch, Otherwise, Close}
use Rattle.inc_directive.specs.LineKinds.{LineKind, Text, Include, Other, Target, Quoted, line_of_tokens, search_after}
use Rattle.inc_directive.specs.declared.kinds.DirectiveKind.{DirectiveKind}
use Rattle.inc_directive.specs.declared.kinds.DirectiveKind.TheVariants.{Define, Ifdef, Ifndef, Elifdef, Elifndef}
use Rattle.inc_directive.specs.Runs.{run_tokens}
use Rattle.inc_lookup.specs.declared.projects.DirectiveId.{DirectiveId}
use Rattle.inc_lookup.specs.declared.projects.Found.{Found}
use Rattle.inc_lookup.specs.Projects.{Layout, Listing, found_place, layout_of, path_at}
use Rattle.inc_macro.specs.Results.{◌>>=◌}
use Rattle.inc_expand.specs.declared.faults.ExpandFault.TheVariants.{UnclosedCall}
use Rattle.inc_expand.specs.Openings.{Held, held_source}
use Rattle.inc_cond.specs.Conditions.{condition}
use Rattle.inc_pp.specs.declared.causes.Cause.{Cause}
use Rattle.inc_pp.specs.declared.causes.Cause.TheVariants as cause
use Rattle.inc_pp.specs.Directives.{changed, control_line, control_of, control_read, directive_read, ends_call, released_for}
use Rattle.inc_pp.specs.Files.{FileFault}
use Rattle.inc_pp.specs.Includes.{Header, entry_in, header_of, include_target, included, led_to}
use Rattle.inc_pp.specs.Preprocessing.{group_read, section_read, tree_read}
use Rattle.inc_pp.specs.OpenCalls.{called_name, first_line_in, open_behind, open_in_call, spellings}
use Rattle.inc_pp.specs.Poison.{asked, asked_directive, line_asked}
use Rattle.inc_pp.specs.Runs.{asked_read, line_of_run, released, released_at, run_given, run_read, text_read, tokens_read, with_meter, with_waiting}
use Rattle.inc_pp.specs.Sections.{condition_of, if_true, is_chosen, is_taken, is_true, operands}
use Rattle.inc_pp.specs.Settings.{Settings}
use Rattle.inc_pp.specs.Tasks.{File, State, Entry, Here, Halt, Deeper, caused, halting, place_of}
use Rattle.inc_pp.proofs.BareTrees.{bare, bare_branches, bare_run, unplaced, run_bare}

-- the same of two files that differ in their task
halting_same : {A : Type 0} (f g : File) → f.index ≡ g.index → (line : ℕ) (s : State) (r : Result A Cause)
    → halting f line s r ≡ halting g line s r
halting_same f g is line s (Ok x) = refl
halting_same f g is line s (Err c) = ap (λ (i : ℕ). Err
    (record { state = s; stop = record { file = i; line = line; cause = c } })) is

pub then_same : {A B E : Type 0} (r : Result A E) (k m : A → Result B E) → ((x : A) → k x ≡ m x)
    → (r >>= k) ≡ (r >>= m)
then_same (Ok x) k m same = same x
then_same (Err e) k m same = refl

branch_same : {A : Type 0} (t : Bool) (x y u v : A) → x ≡ u → y ≡ v
    → ◌≡◌ {A = A} (elim t [ true ↦ x | false ↦ y ]) (elim t [ true ↦ u | false ↦ v ])
branch_same true x y u v a b = a
branch_same false x y u v a b = b

-- the bare tree, or the fault
abbrev pub bare_result : Result Group FileFault → Result Group FileFault
bare_result (Ok t) = Ok (bare t)
bare_result (Err fault) = Err fault

module _ (settings : Settings) (one two : Listing) (without others : List DirectiveId)
    (layouts : layout_of one ≡ layout_of two) (at : Found) (deeper : Deeper) where
  abbrev f : File
  f = record { task = record { listing = one; settings = settings; without = without }; index = at.file; next = at.next; deeper = deeper }

  abbrev g : File
  g = record { task = record { listing = two; settings = settings; without = others }; index = at.file; next = at.next; deeper = deeper }

  tokens_same : (ts : List Tok) (s : State) (h : Here) → tokens_read f ts s h ≡ tokens_read g ts s h
  tokens_same ts s h =
      ap (λ (r : Result (State × List Held) Halt). r >>= λ x. Ok (x.0, with_waiting x.1 (open_in_call x.1) h)) (halting_same f g refl (line_of_run h.waiting ts) s (run_given f h s ts))

  wait_same : (b : Bool) (x : Result (State × Here) Halt) (ts : List Tok) (s : State) (h : Here)
      → ◌≡◌ {A = Result (State × Here) Halt} (elim b [ true ↦ x | false ↦ tokens_read f ts s h ]) (elim b [ true ↦ x | false ↦ tokens_read g ts s h ])
  wait_same true x ts s h = refl
  wait_same false x ts s h = tokens_same ts s h

  waits_same : (ts : List Tok) (s : State) (h : Here) → asked_read f ts s h ≡ asked_read g ts s h
  waits_same ts s h =
      wait_same (nat_lt 0 (open_behind h.deep (spellings ts))) (Ok (s, with_waiting (h.waiting ++ map held_source ts) (open_behind h.deep (spellings ts)) h)) ts s h

  text_same : (ts : List Tok) (s : State) (h : Here) → text_read f ts s h ≡ text_read g ts s h
  text_same [] s h = refl
  text_same (t ∷ ts) s h =
      ap (λ (r : Result (List Tok) Halt). r >>= λ _. asked_read f (t ∷ ts) s h) (halting_same f g refl (line_of_tokens (t ∷ ts)) s (asked s.poisoned (t ∷ ts)))
      ∙ ap (λ (r : Result (State × Here) Halt). halting g (line_of_tokens (t ∷ ts)) s (asked s.poisoned (t ∷ ts)) >>= λ _. r) (waits_same (t ∷ ts) s h)

  waiting_same : (line : Option ℕ) (s : State) (h : Here) → released_at f line s h ≡ released_at g line s h
  waiting_same None s h = refl
  waiting_same (Some line) s h = halting_same f g refl line s (Err (cause.Expand UnclosedCall))

  before_same : (l : FileLine) (s : State) (h : Here) → released_for l f s h ≡ released_for (unplaced l) g s h
  before_same l s h =
      ap (λ (r : Result (State × Here) Halt). cond (ends_call l.kind s.table.language (called_name h.waiting) (operands l)) r (Ok (s, h))) (waiting_same (first_line_in h.waiting) s h)

  run_same : (ls : List FileLine) (s : State) (h : Here) → run_read f ls s h ≡ run_read g (bare_run ls) s h
  run_same ls s h =
      text_same (run_tokens ls) s h ∙ ap (λ ts. text_read g ts s h) (sym (run_bare ls))

  -- the answer of a condition that looks for headers among these paths
  abbrev value_in : FileLine → State → Here → Layout → Result (Bool × State) Cause
  value_in l s h layout =
      caused cause.Condition (condition (record { layout = layout; file = at.file; next = at.next }) s.table (place_of f h) s.meter (operands l)) >>= λ r.
      Ok (is_true r.0, with_meter r.1 s)

  true_same : (l : FileLine) (s : State) (h : Here) → if_true f l s h ≡ if_true g (unplaced l) s h
  true_same l s h = ap (value_in l s h) layouts

  condition_same : (k : LineKind) (l : FileLine) (s : State) (h : Here)
      → condition_of k f l s h ≡ condition_of k g (unplaced l) s h
  condition_same (Other Ifdef) l s h = refl
  condition_same (Other Ifndef) l s h = refl
  condition_same (Other Elifdef) l s h = refl
  condition_same (Other Elifndef) l s h = refl
  condition_same _ l s h = true_same l s h

  -- a line in which no name was taken away
  asked_same : (l : FileLine) (s : State) → line_asked f l s ≡ line_asked g (unplaced l) s
  asked_same l s = halting_same f g refl (line_of_tokens l.tokens) s (asked_directive s l.tokens)

  chosen_same : (l : FileLine) (s : State) (h : Here) → is_chosen f l s h ≡ is_chosen g (unplaced l) s h
  chosen_same l s h =
      halting_same f g refl (line_of_tokens l.tokens) s (condition_of l.kind f l s h)
      ∙ ap (halting g (line_of_tokens l.tokens) s) (condition_same l.kind l s h)

  taken_same : (l : FileLine) (s : State) (h : Here) → is_taken f l s h ≡ is_taken g (unplaced l) s h
  taken_same l s h =
      ap (λ (r : Result (List Tok) Halt). r >>= λ _. is_chosen f l s h) (asked_same l s)
      ∙ ap (λ (r : Result (Bool × State) Halt). line_asked g (unplaced l) s >>= λ _. r) (chosen_same l s h)

  header_same : (target : Target) (l : FileLine) (s : State) (h : Here)
      → header_of target f l s h ≡ header_of target g (unplaced l) s h
  header_same (Quoted name) l s h = refl
  header_same _ l s h = refl

  led_same : (n : IncludeName) (s : State) (o : Option Found) → led_to n f s o ≡ led_to n g s o
  led_same n s None = refl
  led_same n s (Some j) = refl

  -- what a header names in a directive of the file
  abbrev named : IncludeName → Layout → Header → Option Found
  named n layout header = found_place layout (path_at layout at.file) header.form (search_after n at.next) header.name

  -- how what was found is read
  abbrev entering : Layout → (line : ℕ) → Here → List ℕ → Option Found × State → Result (Option Entry × State) Cause
  entering layout line h name q = Ok (option_map (entry_in layout settings (record { file = at.file; line = line }) h name) q.0, q.1)

  abbrev found : IncludeName → File → (line : ℕ) → Here → Layout → Header × State → Result (Option Entry × State) Cause
  found n k line h layout r = led_to n k r.1 (named n layout r.0) >>= entering layout line h r.0.name

  target_same : (n : IncludeName) (target : Target) (l : FileLine) (s : State) (h : Here)
      → include_target n target f l s h ≡ include_target n target g (unplaced l) s h
  target_same n target l s h =
      ap (λ (r : Result (Header × State) Cause). r >>= found n f (line_of_tokens l.tokens) h (layout_of one)) (header_same target l s h)
      ∙ ap (λ (layout : Layout). header_of target g (unplaced l) s h >>= found n f (line_of_tokens l.tokens) h layout) layouts
      ∙ then_same (header_of target g (unplaced l) s h) (found n f (line_of_tokens l.tokens) h (layout_of two)) (found n g (line_of_tokens l.tokens) h (layout_of two))
      (λ r. ap (λ (x : Result (Option Found × State) Cause). x >>= entering (layout_of two) (line_of_tokens l.tokens) h r.0.name)
      (led_same n r.1 (named n (layout_of two) r.0)))

  changed_same : (k : DirectiveKind) (l : FileLine) (s : State) (h : Here)
      → changed k f l s h ≡ changed k g (unplaced l) s h
  changed_same Define l s h = refl
  changed_same _ l s h = refl

  control_same : (k : LineKind) (l : FileLine) (s : State) (h : Here)
      → control_of k f l s h ≡ control_of k g (unplaced l) s h
  control_same (Include n target) l s h =
      ap (λ (r : Result (Option Entry × State) Halt). r >>= λ x. included deeper x.0 x.1 h)
      (halting_same f g refl (line_of_tokens l.tokens) s (include_target n target f l s h)
      ∙ ap (halting g (line_of_tokens l.tokens) s) (target_same n target l s h))
  control_same Text l s h = refl
  control_same (Other k) l s h =
      halting_same f g refl (line_of_tokens l.tokens) s (changed k f l s h)
      ∙ ap (halting g (line_of_tokens l.tokens) s) (changed_same k l s h)

  read_same : (l : FileLine) (s : State) (h : Here) → control_read f l s h ≡ control_read g (unplaced l) s h
  read_same l s h =
      ap (λ (r : Result (List Tok) Halt). r >>= λ _. control_line f l s h) (asked_same l s)
      ∙ ap (λ (r : Result (State × Here) Halt). line_asked g (unplaced l) s >>= λ _. r) (control_same l.kind l s h)

  directive_same : (l : FileLine) (s : State) (h : Here) → directive_read f l s h ≡ directive_read g (unplaced l) s h
  directive_same l s h =
      ap (λ (r : Result (State × Here) Halt). r >>= λ p. control_read f l p.0 p.1) (before_same l s h)
      ∙ then_same (released_for (unplaced l) g s h) (λ p. control_read f l p.0 p.1) (λ p. control_read g (unplaced l) p.0 p.1) (λ p. read_same l p.0 p.1)

  mutual
    group_same : (t : Group) (s : State) (h : Here) → group_read f t s h ≡ group_read g (bare t) s h
    group_same Empty s h = refl
    group_same (Run ls t) s h =
        ap (λ (r : Result (State × Here) Halt). r >>= λ x. group_read f t x.0 x.1) (run_same ls s h)
        ∙ then_same (run_read g (bare_run ls) s h) (λ x. group_read f t x.0 x.1) (λ x. group_read g (bare t) x.0 x.1)
        (λ x. group_same t x.0 x.1)
    group_same (Control l t) s h =
        ap (λ (r : Result (State × Here) Halt). r >>= λ x. group_read f t x.0 x.1) (directive_same l s h)
        ∙ then_same (directive_read g (unplaced l) s h) (λ x. group_read f t x.0 x.1)
        (λ x. group_read g (bare t) x.0 x.1) (λ x. group_same t x.0 x.1)
    group_same (Section bs t) s h =
        ap (λ (r : Result (State × Here) Halt). r >>= λ x. group_read f t x.0 x.1) (section_same bs s h)
        ∙ then_same (section_read g (bare_branches bs) s h) (λ x. group_read f t x.0 x.1)
        (λ x. group_read g (bare t) x.0 x.1) (λ x. group_same t x.0 x.1)

    section_same : (bs : Branches) (s : State) (h : Here)
        → section_read f bs s h ≡ section_read g (bare_branches bs) s h
    section_same (Branch l t bs) s h =
        ap (λ (r : Result (Bool × State) Halt). r >>= λ x. elim x.0
        [ true ↦ group_read f t x.1 h | false ↦ section_read f bs x.1 h ]) (taken_same l s h)
        ∙ then_same (is_taken g (unplaced l) s h)
        (λ x. elim x.0 [ true ↦ group_read f t x.1 h | false ↦ section_read f bs x.1 h ])
        (λ x. elim x.0 [ true ↦ group_read g (bare t) x.1 h | false ↦ section_read g (bare_branches bs) x.1 h ])
        (λ x. branch_same x.0 (group_read f t x.1 h) (section_read f bs x.1 h) (group_read g (bare t) x.1 h)
        (section_read g (bare_branches bs) x.1 h) (group_same t x.1 h) (section_same bs x.1 h))
    section_same (Otherwise l t e) s h = group_same t s h
    section_same (Close e) s h = refl

  pub tree_same : (r : Result Group FileFault) (s : State) (h : Here)
      → tree_read f r s h ≡ tree_read g (bare_result r) s h
  tree_same (Ok t) s h =
      ap (λ (r : Result (State × Here) Halt). r >>= λ x. released f x.0 x.1 >>= λ q. Ok q.0) (group_same t s h)
      ∙ then_same (group_read g (bare t) s h) (λ x. released f x.0 x.1 >>= λ q. Ok q.0) (λ x. released g x.0 x.1 >>= λ q. Ok q.0)
      (λ x. ap (λ (r : Result (State × Here) Halt). r >>= λ q. Ok q.0) (waiting_same (first_line_in x.1.waiting) x.0 x.1))
  tree_same (Err fault) s h = halting_same f g refl fault.1 s (Err fault.0)
