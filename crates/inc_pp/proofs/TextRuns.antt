-- Tokens of text lines that are put out, and the calls that wait.
use Rattle.std.proofs.Common.{◌≡◌, ◌≢◌, ℕ, Bool, true, false, cond, List, [], ◌∷◌, ◌++◌, Option, Some, None, Result, Ok, Err, map, nat_lt, refl, ap, sym, ◌∙◌}
use Rattle.std.specs.Prelude.{◌&&◌, unwrap_or}
use Rattle.inc_text.specs.Languages.{is_gnu}
use Rattle.inc_token.specs.TokenLines.{Tok}
use Rattle.inc_directive.specs.Groups.{FileLine}
use Rattle.inc_directive.specs.LineKinds.{line_of_tokens}
use Rattle.inc_macro.specs.Results.{◌>>=◌}
use Rattle.inc_expand.specs.Openings.{Held, held_source}
use Rattle.inc_pp.specs.declared.causes.Cause.{Cause}
use Rattle.inc_pp.specs.declared.faults.Break.{Break}
use Rattle.inc_pp.specs.declared.faults.Break.TheVariants.{Stop, Unread, NoMemory}
use Rattle.inc_pp.specs.Directives.{ends_call, released_for}
use Rattle.inc_pp.specs.OpenCalls.{called_name, first_line_in, open_behind, open_in_call, spellings}
use Rattle.inc_pp.specs.Poison.{asked}
use Rattle.inc_pp.specs.Runs.{asked_read, closed_or, is_unclosed, line_of_run, released, released_at, run_expanded, run_given, run_opened, text_read, tokens_read, with_waiting}
use Rattle.inc_pp.specs.Sections.{operands}
use Rattle.inc_pp.specs.Settings.{Settings}
use Rattle.inc_pp.specs.Stops.{IfStop, IsUnder, halt_at, is_unclosed_stop}
use Rattle.inc_pp.specs.Tasks.{File, State, Here, Halt, halting}
use Rattle.inc_pp.proofs.StopSteps.{if-stop}

---- whether a name was taken away

text_is : (f : File) (ts : List Tok) (s : State) (h : Here) → ts ≢ [] → text_read f ts s h ≡ (halting f (line_of_tokens ts) s (asked s.poisoned ts) >>= λ _. asked_read f ts s h)
text_is f [] s h some = absurd (some refl)
text_is f (t ∷ ts) s h some = refl

pub text-asked : (f : File) (ts : List Tok) (s : State) (h : Here) (r : Result (State × Here) Halt) → ts ≢ [] → asked s.poisoned ts ≡ Ok ts → asked_read f ts s h ≡ r → text_read f ts s h ≡ r
text-asked f ts s h r some is reads =
    text_is f ts s h some ∙ ap (λ (a : Result (List Tok) Cause). halting f (line_of_tokens ts) s a >>= λ _. asked_read f ts s h) is ∙ reads

pub text-poisoned : (settings : Settings) (file : ℕ) (ts : List Tok) (s : State) (h : Here) (fault : Break) → ts ≢ []
    → IfStop fault (λ line cause. (line ≡ line_of_tokens ts) × (asked s.poisoned ts ≡ Err cause))
    → IfStop fault (λ line cause. (s ≡ s) × ((f : File) → IsUnder settings f → f.index ≡ file → text_read f ts s h ≡ Err (halt_at f s line cause)))
text-poisoned settings file ts s h fault some stops =
    if-stop fault _ _
    (λ line cause p. (
      refl,
      λ f under index.
          text_is f ts s h some ∙ ap (λ (a : Result (List Tok) Cause). halting f (line_of_tokens ts) s a >>= λ _. asked_read f ts s h) p.1 ∙ ap (λ n. Err (halt_at f s n cause)) (sym p.0),
    )) stops

pub text-stop : (settings : Settings) (file : ℕ) (ts : List Tok) (s t : State) (h : Here) (fault : Break) → ts ≢ [] → asked s.poisoned ts ≡ Ok ts
    → IfStop fault (λ line cause. (t ≡ s) × ((f : File) → IsUnder settings f → f.index ≡ file → asked_read f ts s h ≡ Err (halt_at f s line cause)))
    → IfStop fault (λ line cause. (t ≡ s) × ((f : File) → IsUnder settings f → f.index ≡ file → text_read f ts s h ≡ Err (halt_at f s line cause)))
text-stop settings file ts s t h fault some is stops =
    if-stop fault _ _ (λ line cause p. (p.0, λ f under index. text-asked f ts s h _ some is (p.1 f under index))) stops

---- whether the call that waits is open after them

-- some tokens, by that
abbrev by_call : File → List Tok → State → Here → (deep : ℕ) → Bool → Result (State × Here) Halt
by_call f ts s h deep b = elim b [ true ↦ Ok (s, with_waiting (h.waiting ++ map held_source ts) deep h) | false ↦ tokens_read f ts s h ]

-- it is
pub asked-waits : (f : File) (ts : List Tok) (s : State) (h : Here) (deep : ℕ) → deep ≡ open_behind h.deep (spellings ts) → nat_lt 0 deep ≡ true
    → asked_read f ts s h ≡ Ok (s, with_waiting (h.waiting ++ map held_source ts) deep h)
asked-waits f ts s h deep is more = ap (λ n. by_call f ts s h n (nat_lt 0 n)) (sym is) ∙ ap (by_call f ts s h deep) more

-- it is not
pub asked-put : (f : File) (ts : List Tok) (s : State) (h : Here) (deep : ℕ) → deep ≡ open_behind h.deep (spellings ts) → nat_lt 0 deep ≡ false → asked_read f ts s h ≡ tokens_read f ts s h
asked-put f ts s h deep is none = ap (λ n. by_call f ts s h n (nat_lt 0 n)) (sym is) ∙ ap (by_call f ts s h deep) none

pub asked-stop : (settings : Settings) (file : ℕ) (ts : List Tok) (s t : State) (h : Here) (deep : ℕ) (fault : Break) → deep ≡ open_behind h.deep (spellings ts) → nat_lt 0 deep ≡ false
    → IfStop fault (λ line cause. (t ≡ s) × ((f : File) → IsUnder settings f → f.index ≡ file → tokens_read f ts s h ≡ Err (halt_at f s line cause)))
    → IfStop fault (λ line cause. (t ≡ s) × ((f : File) → IsUnder settings f → f.index ≡ file → asked_read f ts s h ≡ Err (halt_at f s line cause)))
asked-stop settings file ts s t h deep fault is none stops =
    if-stop fault _ _ (λ line cause p. (p.0, λ f under index. asked-put f ts s h deep is none ∙ p.1 f under index)) stops

---- tokens are put out, or stop

pub tokens-done : (f : File) (ts : List Tok) (s t : State) (h k : Here) (hs : List Held) (deep : ℕ) → run_given f h s ts ≡ Ok (t, hs) → deep ≡ open_in_call hs → k ≡ with_waiting hs deep h
    → tokens_read f ts s h ≡ Ok (t, k)
tokens-done f ts s t h k hs deep is count same =
    ap (λ (r : Result (State × List Held) Cause). halting f (line_of_run h.waiting ts) s r >>= λ x. Ok (x.0, with_waiting x.1 (open_in_call x.1) h)) is
    ∙ ap (λ n. Ok (t, with_waiting hs n h)) (sym count) ∙ ap (λ x. Ok (t, x)) (sym same)

pub tokens-stop : (settings : Settings) (file : ℕ) (ts : List Tok) (s t : State) (h : Here) (fault : Break)
    → IfStop fault (λ line cause. (t ≡ s) × (line ≡ line_of_run h.waiting ts) × ((f : File) → IsUnder settings f → f.index ≡ file → run_given f h s ts ≡ Err cause))
    → IfStop fault (λ line cause. (t ≡ s) × ((f : File) → IsUnder settings f → f.index ≡ file → tokens_read f ts s h ≡ Err (halt_at f s line cause)))
tokens-stop settings file ts s t h fault stops =
    if-stop fault _ _
    (λ line cause p. (
      p.0,
      λ f under index.
          ap (λ (r : Result (State × List Held) Cause). halting f (line_of_run h.waiting ts) s r >>= λ x. Ok (x.0, with_waiting x.1 (open_in_call x.1) h)) (p.2 f under index)
          ∙ ap (λ n. Err (halt_at f s n cause)) (sym p.1),
    )) stops

---- where none wait

abbrev given_by : List Held → File → Here → State → List Tok → Result (State × List Held) Cause
given_by hs f h s ts = elim hs [ [] ↦ closed_or s.table.language (run_expanded f h s ts) (run_opened f h s ts) | name ∷ more ↦ run_opened f h s ts ]

none_is : (f : File) (ts : List Tok) (s : State) (h : Here) → h.waiting ≡ [] → run_given f h s ts ≡ closed_or s.table.language (run_expanded f h s ts) (run_opened f h s ts)
none_is f ts s h none = ap (λ hs. given_by hs f h s ts) none

pub closed-done : (f : File) (ts : List Tok) (s t : State) (h : Here) (hs : List Held) → hs ≡ [] → h.waiting ≡ [] → run_expanded f h s ts ≡ Ok t → run_given f h s ts ≡ Ok (t, hs)
closed-done f ts s t h hs empty none is =
    none_is f ts s h none ∙ ap (λ (r : Result State Cause). closed_or s.table.language r (run_opened f h s ts)) is ∙ ap (λ (ws : List Held). Ok (t, ws)) (sym empty)

-- no call is open
pub closed-stop : (settings : Settings) (file : ℕ) (ts : List Tok) (s t : State) (h : Here) (fault : Break) (b : Bool) → b ≡ (is_gnu s.table.language && is_unclosed_stop fault) → b ≡ false → h.waiting ≡ []
    → IfStop fault (λ line cause. (t ≡ s) × (line ≡ line_of_tokens ts) × ((f : File) → IsUnder settings f → f.index ≡ file → run_expanded f h s ts ≡ Err cause))
    → IfStop fault (λ line cause. (t ≡ s) × (line ≡ line_of_run h.waiting ts) × ((f : File) → IsUnder settings f → f.index ≡ file → run_given f h s ts ≡ Err cause))
closed-stop settings file ts s t h (Stop line cause) b is closed none p = (
  p.0,
  p.1 ∙ sym (ap (λ hs. line_of_run hs ts) none),
  λ f under index.
      none_is f ts s h none ∙ ap (λ (r : Result State Cause). closed_or s.table.language r (run_opened f h s ts)) (p.2 f under index)
      ∙ ap (λ (c : Bool). if_open c (run_opened f h s ts) cause) (sym is ∙ closed),
)
  where
    if_open : Bool → Result (State × List Held) Cause → Cause → Result (State × List Held) Cause
    if_open c opened why = cond c opened (Err why)
closed-stop settings file ts s t h (Unread fault) b is closed none p = p
closed-stop settings file ts s t h NoMemory b is closed none p = p

never : (a : Bool) → (a && false) ≢ true
never true = λ e. cc
never false = λ e. cc

-- one is
pub open-then : (settings : Settings) (file : ℕ) (ts : List Tok) (s t : State) (h : Here) (fault : Break) (b : Bool) → b ≡ (is_gnu s.table.language && is_unclosed_stop fault) → b ≡ true → h.waiting ≡ []
    → IfStop fault (λ line cause. (t ≡ s) × (line ≡ line_of_tokens ts) × ((f : File) → IsUnder settings f → f.index ≡ file → run_expanded f h s ts ≡ Err cause))
    → (t ≡ s) × ((f : File) → IsUnder settings f → f.index ≡ file → run_given f h s ts ≡ run_opened f h t ts)
open-then settings file ts s t h (Stop line cause) b is opens none p = (
  p.0,
  λ f under index.
      none_is f ts s h none ∙ ap (λ (r : Result State Cause). closed_or s.table.language r (run_opened f h s ts)) (p.2 f under index)
      ∙ ap (λ (c : Bool). if_open c (run_opened f h s ts) cause) (sym is ∙ opens)
      ∙ ap (λ x. run_opened f h x ts) (sym p.0),
)
  where
    if_open : Bool → Result (State × List Held) Cause → Cause → Result (State × List Held) Cause
    if_open c opened why = cond c opened (Err why)
open-then settings file ts s t h (Unread fault) b is opens none p = absurd (never (is_gnu s.table.language) (sym is ∙ opens))
open-then settings file ts s t h NoMemory b is opens none p = absurd (never (is_gnu s.table.language) (sym is ∙ opens))

pub open-stop : (settings : Settings) (file : ℕ) (ts : List Tok) (s t u : State) (h : Here) (fault : Break)
    → (t ≡ s) × ((f : File) → IsUnder settings f → f.index ≡ file → run_given f h s ts ≡ run_opened f h t ts)
    → IfStop fault (λ line cause. (u ≡ t) × (line ≡ line_of_run h.waiting ts) × ((f : File) → IsUnder settings f → f.index ≡ file → run_opened f h t ts ≡ Err cause))
    → IfStop fault (λ line cause. (u ≡ s) × (line ≡ line_of_run h.waiting ts) × ((f : File) → IsUnder settings f → f.index ≡ file → run_given f h s ts ≡ Err cause))
open-stop settings file ts s t u h fault same stops =
    if-stop fault _ _ (λ line cause p. (p.0 ∙ same.0, p.1, λ f under index. same.1 f under index ∙ p.2 f under index)) stops

---- where some wait

pub some-is : (f : File) (ts : List Tok) (s : State) (h : Here) → h.waiting ≢ [] → run_given f h s ts ≡ run_opened f h s ts
some-is f ts s h some = by h.waiting some
  where
    by : (hs : List Held) → hs ≢ [] → given_by hs f h s ts ≡ run_opened f h s ts
    by [] s = absurd (s refl)
    by (name ∷ more) s = refl

pub some-stop : (settings : Settings) (file : ℕ) (ts : List Tok) (s t : State) (h : Here) (fault : Break) → h.waiting ≢ []
    → IfStop fault (λ line cause. (t ≡ s) × (line ≡ line_of_run h.waiting ts) × ((f : File) → IsUnder settings f → f.index ≡ file → run_opened f h s ts ≡ Err cause))
    → IfStop fault (λ line cause. (t ≡ s) × (line ≡ line_of_run h.waiting ts) × ((f : File) → IsUnder settings f → f.index ≡ file → run_given f h s ts ≡ Err cause))
some-stop settings file ts s t h fault some stops =
    if-stop fault _ _ (λ line cause p. (p.0, p.1, λ f under index. some-is f ts s h some ∙ p.2 f under index)) stops

-- no test has both answers
pub some-waits : (b : Bool) (hs : List Held) → (hs ≡ [] → b ≡ true) → b ≡ false → hs ≢ []
some-waits b hs answer no_answer = λ none. both (answer none) no_answer
  where
    both : b ≡ true → b ≢ false
    both x = λ y. cc

---- no call waits on

pub released-is : (f : File) (s : State) (h : Here) (o : Option ℕ) → o ≡ first_line_in h.waiting → released f s h ≡ released_at f o s h
released-is f s h o is = ap (λ x. released_at f x s h) (sym is)

-- before a directive, where none waits
pub for-none : (l : FileLine) (f : File) (s : State) (h : Here) → called_name h.waiting ≡ None → released_for l f s h ≡ Ok (s, h)
for-none l f s h none = by h.waiting none (ends_call l.kind s.table.language (called_name h.waiting) (operands l))
  where
    by : (hs : List Held) → called_name hs ≡ None → (b : Bool) → cond {A = Result (State × Here) Halt} b (released_at f (first_line_in hs) s h) (Ok (s, h)) ≡ Ok (s, h)
    by [] e true = refl
    by [] e false = refl
    by (name ∷ hs) e b = cc

-- where a call waits that goes over it, or does not
pub for-over : (l : FileLine) (f : File) (s : State) (h : Here) (name : Option (List ℕ)) → name ≡ called_name h.waiting → ends_call l.kind s.table.language name (operands l) ≡ false → released_for l f s h ≡ Ok (s, h)
for-over l f s h name is over =
    ap (λ (b : Bool). cond {A = Result (State × Here) Halt} b (released f s h) (Ok (s, h))) (ap (λ n. ends_call l.kind s.table.language n (operands l)) (sym is) ∙ over)

pub for-ended : (l : FileLine) (f : File) (s : State) (h : Here) (name : Option (List ℕ)) → name ≡ called_name h.waiting → ends_call l.kind s.table.language name (operands l) ≡ true → released_for l f s h ≡ released f s h
for-ended l f s h name is over =
    ap (λ (b : Bool). cond {A = Result (State × Here) Halt} b (released f s h) (Ok (s, h))) (ap (λ n. ends_call l.kind s.table.language n (operands l)) (sym is) ∙ over)

---- where no call waits, none is open behind more tokens

pub none-open : (deep : ℕ) (xs : List (List ℕ)) → deep ≡ 0 → 0 ≡ open_behind deep xs
none-open deep xs none = sym (ap (λ n. open_behind n xs) none ∙ stays xs)
  where
    stays : (ys : List (List ℕ)) → open_behind 0 ys ≡ 0
    stays [] = refl
    stays (y ∷ ys) = stays ys
