-- What is left to read from a line on, by the line's role.
use Rattle.std.proofs.Common.{◌≡◌, ◌≢◌, ℕ, true, false, List, [], ◌∷◌, Result, Ok, Err, Bool, IfOk, refl, ap, sym, ◌∙◌, ◌++◌}
use Rattle.std.specs.List.{All}
use Rattle.std.proofs.lemmas.List.Elements.{All-head, All-tail}
use Rattle.inc_directive.specs.declared.kinds.Role.{Role}
use Rattle.inc_directive.specs.declared.kinds.Role.TheVariants.{IfGroup, ElifGroup, ElseGroup, EndifLine, TextLine, ControlLine}
use Rattle.inc_directive.specs.Groups.{FileLine, Group, Empty, Run, Control, Section, Branches, Branch, Close, Ending, FileEnd, Faulty, AtElif, AtElse, AtEndif, Closed, directive_line, with_branch, with_text, with_section, role, with_line, branches, else_branch, group_at}
use Rattle.inc_directive.specs.Jumps.{closing, Closes}
use Rattle.inc_macro.specs.Results.{◌>>=◌}
use Rattle.inc_pp.specs.Tasks.{File, State, Here, Halt}
use Rattle.inc_pp.specs.Preprocessing.{group_read, section_read}
use Rattle.inc_pp.specs.Directives.{directive_read}
use Rattle.inc_pp.specs.Runs.{run_read}
use Rattle.inc_pp.specs.Sections.{is_taken}
use Rattle.inc_pp.specs.Walks.{ending_read, rest_read, lines_read}
use Rattle.inc_pp.proofs.ChoiceReads.{choice_read, next_read}

---- steps in a row

pub then_then : {A B C E : Type 0} (r : Result A E) (f : A → Result B E) (g : B → Result C E) → ((r >>= f) >>= g) ≡ (r >>= (λ x. f x >>= g))
then_then (Ok x) f g = refl
then_then (Err e) f g = refl

pub then_ap : {A B E : Type 0} (r : Result A E) (f g : A → Result B E) → ((x : A) → f x ≡ g x) → (r >>= f) ≡ (r >>= g)
then_ap (Ok x) f g h = h x
then_ap (Err e) f g h = refl

---- sections

-- what ends a group that was read leads after the section
abbrev Behind : File → Ending → Closed → Type 0
Behind f e r = IfOk r (λ x. (s : State) (h : Here) → ending_read f e s h ≡ rest_read f (x.1, x.2) s h)

behind-with_branch : (f : File) (l : FileLine) (g : Group) (e : Ending) (r : Closed) → Behind f e r → Behind f e (with_branch l g r)
behind-with_branch f l g e (Ok x) b = b
behind-with_branch f l g e (Err fault) b = tt

behind-else_branch : (f : File) (opening : ℕ) (l : FileLine) (g : Group) (e : Ending) → Behind f e (else_branch opening l g e)
behind-else_branch f opening l g FileEnd = tt
behind-else_branch f opening l g (Faulty fault) = tt
behind-else_branch f opening l g (AtElif n k e) = tt
behind-else_branch f opening l g (AtElse n k e) = tt
behind-else_branch f opening l g (AtEndif n k e) = λ s h. refl

pub behind-branches : (f : File) (opening : ℕ) (l : FileLine) (g : Group) (e : Ending) → Behind f e (branches opening l g e)
behind-branches f opening l g FileEnd = tt
behind-branches f opening l g (Faulty fault) = tt
behind-branches f opening l g (AtElif n k e) =
    behind-with_branch f l g e (branches opening n k e) (behind-branches f opening n k e)
behind-branches f opening l g (AtElse n k e) =
    behind-with_branch f l g e (else_branch opening n k e) (behind-else_branch f opening n k e)
behind-branches f opening l g (AtEndif n k e) = λ s h. refl

-- a test that leads on by either way
turn : {A B E : Type 0} (b : Bool) (x y : Result B E) (x' y' : Result A E) (k : A → Result B E) → x ≡ (x' >>= k) → y ≡ (y' >>= k)
    → elim b as (λ _. Result B E) [ true ↦ x | false ↦ y ] ≡ ((elim b as (λ _. Result A E) [ true ↦ x' | false ↦ y' ]) >>= k)
turn true x y x' y' k p q = p
turn false x y x' y' k p q = q

-- the branches of a section, and then what follows it
abbrev AsSection : File → (State → Here → Result (State × Here) Halt) → Closed → Type 0
AsSection f read r =
    IfOk r (λ x. (s : State) (h : Here) → read s h ≡ (section_read f x.0 s h >>= λ q. rest_read f (x.1, x.2) q.0 q.1))

-- a branch before branches
before : (f : File) (l : FileLine) (g : Group) (e : Ending) (next : State → Here → Result (State × Here) Halt) (r : Closed)
    → ((s : State) (h : Here) → next_read f e s h ≡ next s h) → Behind f e r → AsSection f next r → AsSection f (choice_read f l g e) (with_branch l g r)
before f l g e next (Err fault) _ _ _ = tt
before f l g e next (Ok x) same behind section = λ s h.
    then_ap (is_taken f l s h)
    (λ t. elim t.0 [ true ↦ rest_read f (g, e) t.1 h | false ↦ next_read f e t.1 h ])
    (λ t. (elim t.0 [ true ↦ group_read f g t.1 h | false ↦ section_read f x.0 t.1 h ]) >>= λ q. rest_read f (x.1, x.2) q.0 q.1)
    (λ t. turn t.0 _ _ _ _ _
    (then_ap (group_read f g t.1 h) (λ q. ending_read f e q.0 q.1) (λ q. rest_read f (x.1, x.2) q.0 q.1) (λ q. behind q.0 q.1))
    (same t.1 h ∙ section t.1 h))
    ∙ sym (then_then (is_taken f l s h) (λ t. elim t.0 [ true ↦ group_read f g t.1 h | false ↦ section_read f x.0 t.1 h ])
    (λ q. rest_read f (x.1, x.2) q.0 q.1))

-- #else, its group and #endif are no choice
section-else_branch : (f : File) (opening : ℕ) (l : FileLine) (g : Group) (e : Ending) → AsSection f (rest_read f (g, e)) (else_branch opening l g e)
section-else_branch f opening l g FileEnd = tt
section-else_branch f opening l g (Faulty fault) = tt
section-else_branch f opening l g (AtElif n k e) = tt
section-else_branch f opening l g (AtElse n k e) = tt
section-else_branch f opening l g (AtEndif n k e) = λ s h. refl

pub section-branches : (f : File) (opening : ℕ) (l : FileLine) (g : Group) (e : Ending) → AsSection f (choice_read f l g e) (branches opening l g e)
section-branches f opening l g FileEnd = tt
section-branches f opening l g (Faulty fault) = tt
section-branches f opening l g (AtElif n k e) =
    before f l g (AtElif n k e) (choice_read f n k e) (branches opening n k e) (λ s h. refl) (behind-branches f opening n k e)
    (section-branches f opening n k e)
section-branches f opening l g (AtElse n k e) =
    before f l g (AtElse n k e) (rest_read f (k, e)) (else_branch opening n k e) (λ s h. refl) (behind-else_branch f opening n k e)
    (section-else_branch f opening n k e)
section-branches f opening l g (AtEndif n k e) = closed
  where
    closed : AsSection f (choice_read f l g (AtEndif n k e)) (Ok (Branch l g (Close n), k, e))
    closed = λ s h.
        then_ap (is_taken f l s h)
        (λ t. elim t.0 [ true ↦ rest_read f (g, AtEndif n k e) t.1 h | false ↦ next_read f (AtEndif n k e) t.1 h ])
        (λ t. (elim t.0 [ true ↦ group_read f g t.1 h | false ↦ section_read f (Close n) t.1 h ]) >>= λ q. rest_read f (k, e) q.0 q.1)
        (λ t. turn t.0 _ _ _ _ _ refl refl)
        ∙ sym (then_then (is_taken f l s h) (λ t. elim t.0 [ true ↦ group_read f g t.1 h | false ↦ section_read f (Close n) t.1 h ])
        (λ q. rest_read f (k, e) q.0 q.1))

-- a section that closes is read from its first line on
pub lines-if : (f : File) (l : FileLine) (ls : List FileLine) → role l.kind ≡ IfGroup → Closes l (group_at ls) → (s : State) (h : Here)
    → lines_read f (l ∷ ls) s h ≡ choice_read f l (group_at ls).0 (group_at ls).1 s h
lines-if f l ls is closes s h =
    rw is (closed (branches (directive_line l) l (group_at ls).0 (group_at ls).1) closes.section closes.whole
    (section-branches f (directive_line l) l (group_at ls).0 (group_at ls).1))
  where
    closed : (r : Closed) (x : Branches × Group × Ending) → r ≡ Ok x → AsSection f (choice_read f l (group_at ls).0 (group_at ls).1) r
        → rest_read f (with_section r) s h ≡ choice_read f l (group_at ls).0 (group_at ls).1 s h
    closed (Err fault) x is _ = cc
    closed (Ok y) x is section =
        then_then (section_read f y.0 s h) (λ q. group_read f y.1 q.0 q.1) (λ q. ending_read f y.2 q.0 q.1) ∙ sym (section s h)

---- other lines

pub lines-control : (f : File) (l : FileLine) (ls : List FileLine) → role l.kind ≡ ControlLine → (s : State) (h : Here)
    → lines_read f (l ∷ ls) s h ≡ (directive_read f l s h >>= λ r. lines_read f ls r.0 r.1)
lines-control f l ls is s h =
    rw is (then_then (directive_read f l s h) (λ r. group_read f (group_at ls).0 r.0 r.1) (λ r. ending_read f (group_at ls).1 r.0 r.1))

pub lines-endif : (f : File) (l : FileLine) (ls : List FileLine) → role l.kind ≡ EndifLine → (s : State) (h : Here)
    → lines_read f (l ∷ ls) s h ≡ lines_read f ls s h
lines-endif f l ls is s h = rw is refl

pub lines-elif : (f : File) (l : FileLine) (ls : List FileLine) → role l.kind ≡ ElifGroup → (s : State) (h : Here)
    → lines_read f (l ∷ ls) s h ≡ ending_read f (group_at ls).1 s h
lines-elif f l ls is s h = rw is refl

pub lines-else : (f : File) (l : FileLine) (ls : List FileLine) → role l.kind ≡ ElseGroup → (s : State) (h : Here)
    → lines_read f (l ∷ ls) s h ≡ ending_read f (group_at ls).1 s h
lines-else f l ls is s h = rw is refl

-- what ends a section is what its endings lead to
pub closing-read : (f : File) (e : Ending) (s : State) (h : Here) → ending_read f (closing e) s h ≡ ending_read f e s h
closing-read f FileEnd s h = refl
closing-read f (Faulty fault) s h = refl
closing-read f (AtElif l g e) s h = closing-read f e s h
closing-read f (AtElse l g e) s h = closing-read f e s h
closing-read f (AtEndif l g e) s h = refl

-- lines whose first part is nothing, and which this ends
pub lines-ended : (f : File) (ls : List FileLine) (e : Ending) → group_at ls ≡ (Empty, e) → (s : State) (h : Here)
    → lines_read f ls s h ≡ ending_read f e s h
lines-ended f ls e is s h = rw is refl

---- runs

-- the first part is no run
abbrev NoRun : Group → Type 0
NoRun (Run ls g) = ⊥
NoRun _ = Unit {0}

no_run-with_section : (r : Closed) → NoRun (with_section r).0
no_run-with_section (Ok x) = tt
no_run-with_section (Err fault) = tt

no_run-with_line : (k : Role) (l : FileLine) (x : Group × Ending) → k ≢ TextLine → NoRun (with_line k l x).0
no_run-with_line TextLine l x other = absurd (other refl)
no_run-with_line IfGroup l x other = no_run-with_section (branches (directive_line l) l x.0 x.1)
no_run-with_line k l x other = tt

-- no text line comes first
abbrev pub NoTextFirst : List FileLine → Type 0
NoTextFirst [] = Unit {0}
NoTextFirst (l ∷ ls) = role l.kind ≢ TextLine

no_run-group_at : (ls : List FileLine) → NoTextFirst ls → NoRun (group_at ls).0
no_run-group_at [] other = tt
no_run-group_at (l ∷ ls) other = no_run-with_line (role l.kind) l (group_at ls) other

with_text-no_run : (l : FileLine) (g : Group) → NoRun g → with_text l g ≡ Run (l ∷ []) g
with_text-no_run l Empty other = refl
with_text-no_run l (Run ls g) other = absurd other
with_text-no_run l (Control m g) other = refl
with_text-no_run l (Section bs g) other = refl

-- text lines up to one that is none are one run
group_at-run : (l : FileLine) (ts ls : List FileLine) → role l.kind ≡ TextLine → All (λ (t : FileLine). role t.kind ≡ TextLine) ts → NoTextFirst ls
    → group_at (l ∷ (ts ++ ls)) ≡ (Run (l ∷ ts) (group_at ls).0, (group_at ls).1)
group_at-run l [] ls is all other =
    rw is (ap (λ (g : Group). (g, (group_at ls).1)) (with_text-no_run l (group_at ls).0 (no_run-group_at ls other)))
group_at-run l (t ∷ ts) ls is all other = rw (is, group_at-run t ts ls (All-head P t ts all) (All-tail P t ts all) other) refl
  where
    P : FileLine → Type 0
    P = λ t. role t.kind ≡ TextLine

pub lines-run : (f : File) (l : FileLine) (ts ls : List FileLine) → role l.kind ≡ TextLine → All (λ (t : FileLine). role t.kind ≡ TextLine) ts
    → NoTextFirst ls → (s : State) (h : Here)
    → lines_read f (l ∷ (ts ++ ls)) s h ≡ (run_read f (l ∷ ts) s h >>= λ r. lines_read f ls r.0 r.1)
lines-run f l ts ls is all other s h =
    ap (λ (x : Group × Ending). rest_read f x s h) (group_at-run l ts ls is all other)
    ∙ then_then (run_read f (l ∷ ts) s h) (λ r. group_read f (group_at ls).0 r.0 r.1) (λ r. ending_read f (group_at ls).1 r.0 r.1)

---- from a condition that is false

-- a group with a line of text
pub text_is_some : (l : FileLine) (g : Group) → with_text l g ≢ Empty
text_is_some l Empty = λ e. cc
text_is_some l (Run ls g) = λ e. cc
text_is_some l (Control m g) = λ e. cc
text_is_some l (Section bs g) = λ e. cc

-- what ends a group that was not taken, where its line comes first
pub next-line : (f : File) (l : FileLine) (ls : List FileLine) (e : Ending) (k : Role) → role l.kind ≡ k → k ≢ ElifGroup → (k ≡ IfGroup → Closes l (group_at ls))
    → group_at (l ∷ ls) ≡ (Empty, e) → (s : State) (h : Here) → next_read f e s h ≡ lines_read f ls s h
next-line f l ls e ElifGroup is other closes at s h = absurd (other refl)
next-line f l ls e ElseGroup is other closes at s h =
    ap (λ (x : Group × Ending). next_read f x.1 s h) (sym at ∙ ap (λ (r : Role). with_line r l (group_at ls)) is)
next-line f l ls e EndifLine is other closes at s h =
    ap (λ (x : Group × Ending). next_read f x.1 s h) (sym at ∙ ap (λ (r : Role). with_line r l (group_at ls)) is)
next-line f l ls e TextLine is other closes at s h =
    absurd (text_is_some l (group_at ls).0 (ap (λ (x : Group × Ending). x.0) (sym (ap (λ (r : Role). with_line r l (group_at ls)) is) ∙ at)))
next-line f l ls e ControlLine is other closes at s h =
    absurd (control_is_some (ap (λ (x : Group × Ending). x.0) (sym (ap (λ (r : Role). with_line r l (group_at ls)) is) ∙ at)))
  where
    control_is_some : Control l (group_at ls).0 ≢ Empty
    control_is_some = λ e. cc
next-line f l ls e IfGroup is other closes at s h =
    absurd (section_is_some (ap (λ (x : Group × Ending). x.0) (sym (ap (λ r. with_section r) (closes refl).whole) ∙ sym (ap (λ (r : Role). with_line r l (group_at ls)) is) ∙ at)))
  where
    section_is_some : Section (closes refl).section.0 (closes refl).section.1 ≢ Empty
    section_is_some = λ e. cc

-- the same at an #elif: its condition is next
pub next-elif : (f : File) (l : FileLine) (ls : List FileLine) (e : Ending) → role l.kind ≡ ElifGroup → group_at (l ∷ ls) ≡ (Empty, e)
    → (s : State) (h : Here) → next_read f e s h ≡ choice_read f l (group_at ls).0 (group_at ls).1 s h
next-elif f l ls e is at s h =
    ap (λ (x : Group × Ending). next_read f x.1 s h) (sym at ∙ ap (λ (r : Role). with_line r l (group_at ls)) is)

-- a condition that is true leads into its group, one that is false after it
pub chosen : (f : File) (l : FileLine) (ls : List FileLine) (s s' : State) (h : Here) → is_taken f l s h ≡ Ok (true, s')
    → choice_read f l (group_at ls).0 (group_at ls).1 s h ≡ lines_read f ls s' h
chosen f l ls s s' h is = rw is refl

pub refused : (f : File) (l : FileLine) (ls : List FileLine) (s s' : State) (h : Here) → is_taken f l s h ≡ Ok (false, s')
    → choice_read f l (group_at ls).0 (group_at ls).1 s h ≡ next_read f (group_at ls).1 s' h
refused f l ls s s' h is = rw is refl

pub stopped : (f : File) (l : FileLine) (ls : List FileLine) (s : State) (h : Here) (halt : Halt) → is_taken f l s h ≡ Err halt
    → choice_read f l (group_at ls).0 (group_at ls).1 s h ≡ Err halt
stopped f l ls s h halt is = rw is refl
