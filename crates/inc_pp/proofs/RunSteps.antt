-- The state after a run, by what it puts out.
use Rattle.std.proofs.Common.{◌≡◌, refl, ap, sym, ◌∙◌, ℕ, Bool, true, false, List, ◌++◌, Option, None, Result, Ok, Err, length}
use Rattle.std.specs.Prelude.{if◌then◌else◌}
use Rattle.inc_text.specs.declared.languages.Language.{Language}
use Rattle.inc_token.specs.TokenLines.{Tok}
use Rattle.inc_macro.specs.Results.{◌>>=◌}
use Rattle.inc_expand.specs.Expansion.{Item, Place, Meter}
use Rattle.inc_expand.specs.declared.places.Mode.TheVariants.{Plain}
use Rattle.inc_expand.specs.Openings.{Held, opening}
use Rattle.inc_pp.specs.declared.causes.Cause.{Cause}
use Rattle.inc_pp.specs.declared.causes.Cause.TheVariants.{Expand, TooMuchOutput}
use Rattle.inc_pp.specs.Pragmas.{Laid, laid}
use Rattle.inc_pp.specs.LineMarkers.{marks_of}
use Rattle.inc_pp.specs.Printed.{printed}
use Rattle.inc_pp.specs.Runs.{bounded, marks_in, put_laid, run_expanded, run_opened, with_once, with_meter}
use Rattle.inc_pp.specs.Settings.{Settings, is_too_much}
use Rattle.inc_pp.specs.Steps.{expansion_at, fitting, fitting_open, laid_at, opened_at, place_under, short}
use Rattle.inc_pp.specs.Stops.{IsUnder}
use Rattle.inc_pp.specs.Tasks.{File, State, Here, OutToken, caused, place_of}
use Rattle.inc_pp.proofs.OperatorSteps.{paid, paid_open, with_call, with_left}
use Rattle.inc_pp.proofs.StopSteps.{in_state}

-- what a run puts out becomes part of the state
abbrev put_by : ℕ → State → Result (Laid × Meter) Cause → Result State Cause
put_by file s r = r >>= λ x. Ok (put_laid file x.0 (with_meter x.1 s))

-- whether the text of what is put out is too long, with the state or with the meter alone
bounded_by : (b : Bool) (file : ℕ) (meter : Meter) (s : State) (l : Laid)
    → ◌≡◌ {A = Result State Cause} (if b then Err TooMuchOutput else Ok (put_laid file l (with_meter meter s)))
    (put_by file s (◌>>=◌ {A = Laid} {B = Laid × Meter} (if b then Err TooMuchOutput else Ok l) (λ m. Ok (m, meter))))
bounded_by true file meter s l = refl
bounded_by false file meter s l = refl

-- one step after the other, with the state or with the meter alone
laid_then : (most : Option ℕ) (file : ℕ) (meter : Meter) (s : State) (r : Result Laid Cause)
    → (r >>= λ l. bounded most (put_laid file l (with_meter meter s))) ≡ put_by file s (fitting most s.output (with_left meter r))
laid_then most file meter s (Ok l) = bounded_by (is_too_much most (length (printed (s.output ++ l.tokens)))) file meter s l
laid_then most file meter s (Err cause) = refl

put_then : (language : Language) (marks : Option Place) (most : Option ℕ) (file : ℕ) (s : State) (r : Result (List Item × Meter) Cause)
    → (in_state s r >>= λ x. laid language marks None x.0 >>= λ l. bounded most (put_laid file l x.1)) ≡ put_by file s (fitting most s.output (paid language marks r))
put_then language marks most file s (Ok x) = laid_then most file x.1 s (laid language marks None x.0)
put_then language marks most file s (Err cause) = refl

-- where the tokens are, if lines are marked
abbrev marks_under : Settings → Here → Option Place
marks_under settings h = marks_of settings (place_under settings h)

put-is : (f : File) (settings : Settings) → IsUnder settings f → (h : Here) (s : State) (ts : List Tok)
    → run_expanded f h s ts ≡ put_by f.index s (fitting settings.most_output s.output (laid_at (marks_under settings h) (place_under settings h) s.table s.meter ts))
put-is f settings under h s ts =
    put_then s.table.language (marks_in f h) f.task.settings.most_output f.index s (expansion_at (place_of f h) s.table s.meter ts)
    ∙ ap (λ (u : Settings). put_by f.index s (fitting u.most_output s.output (laid_at (marks_under u h) (place_under u h) s.table s.meter ts))) under

-- the state with what was put out, and the file perhaps among those that are read once
abbrev noted : ℕ → State → (meter : Meter) → List OutToken → Bool → State
noted file s meter now once =
    if once then with_once file (record { table = s.table; once = s.once; poisoned = s.poisoned; meter = meter; reads = s.reads; bytes_read = s.bytes_read; output = now })
    else record { table = s.table; once = s.once; poisoned = s.poisoned; meter = meter; reads = s.reads; bytes_read = s.bytes_read; output = now }

once_is : (file : ℕ) (s : State) (out : List OutToken) (meter : Meter) (once : Bool)
    → put_laid file (record { tokens = out; once = once }) (with_meter meter s) ≡ noted file s meter (s.output ++ out) once
once_is file s out meter true = refl
once_is file s out meter false = refl

-- the same of what is before an open call
abbrev open_by : ℕ → State → Result (Laid × List Held × Meter) Cause → Result (State × List Held) Cause
open_by file s r = r >>= λ x. Ok (put_laid file x.0 (with_meter x.2 s), x.1)

open_bounded : (b : Bool) (file : ℕ) (call : List Held) (meter : Meter) (s : State) (l : Laid)
    → ◌≡◌ {A = Result (State × List Held) Cause} (◌>>=◌ {A = State} {B = State × List Held} (if b then Err TooMuchOutput else Ok (put_laid file l (with_meter meter s))) (λ t. Ok (t, call)))
    (open_by file s (◌>>=◌ {A = Laid} {B = Laid × List Held × Meter} (if b then Err TooMuchOutput else Ok l) (λ m. Ok (m, call, meter))))
open_bounded true file call meter s l = refl
open_bounded false file call meter s l = refl

open_then : (language : Language) (marks : Option Place) (most : Option ℕ) (file : ℕ) (s : State) (r : Result (List Item × List Held × Meter) Cause)
    → (r >>= λ x. laid language marks None x.0 >>= λ l. bounded most (put_laid file l (with_meter x.2 s)) >>= λ t. Ok (t, x.1))
    ≡ open_by file s (fitting_open most s.output (paid_open language marks r))
open_then language marks most file s (Err cause) = refl
open_then language marks most file s (Ok x) = by (laid language marks None x.0)
  where
    by : (r : Result Laid Cause) → (r >>= λ l. bounded most (put_laid file l (with_meter x.2 s)) >>= λ t. Ok (t, x.1)) ≡ open_by file s (fitting_open most s.output (with_call x.1 x.2 r))
    by (Ok l) = open_bounded (is_too_much most (length (printed (s.output ++ l.tokens)))) file x.1 x.2 s l
    by (Err cause) = refl

open-is : (f : File) (settings : Settings) → IsUnder settings f → (h : Here) (s : State) (ts : List Tok)
    → run_opened f h s ts ≡ open_by f.index s (fitting_open settings.most_output s.output (opened_at (marks_under settings h) (place_under settings h) s.table s.meter h.waiting ts))
open-is f settings under h s ts =
    open_then s.table.language (marks_in f h) f.task.settings.most_output f.index s (caused Expand (opening (record { table = s.table; mode = Plain; place = place_of f h }) s.meter h.waiting ts))
    ∙ ap (λ (u : Settings). open_by f.index s (fitting_open u.most_output s.output (opened_at (marks_under u h) (place_under u h) s.table s.meter h.waiting ts))) under

module _ (f : File) (settings : Settings) (under : IsUnder settings f) (ts : List Tok) (s : State) (h : Here) (most : Option ℕ) (limited : most ≡ settings.most_output) where
  open_at : (place : Place) → place ≡ place_under settings h → (marks : Option Place) → marks ≡ marks_of settings (place_under settings h) → (hs : List Held) → hs ≡ h.waiting
      → run_opened f h s ts ≡ open_by f.index s (fitting_open most s.output (opened_at marks place s.table s.meter hs ts))
  open_at place at marks marked hs waits =
      open-is f settings under h s ts
      ∙ ap (λ (n : Option ℕ). open_by f.index s (fitting_open n s.output (opened_at (marks_under settings h) (place_under settings h) s.table s.meter h.waiting ts))) (sym limited)
      ∙ ap (λ (m : Option Place). open_by f.index s (fitting_open most s.output (opened_at m (place_under settings h) s.table s.meter h.waiting ts))) (sym marked)
      ∙ ap (λ (q : Place). open_by f.index s (fitting_open most s.output (opened_at marks q s.table s.meter h.waiting ts))) (sym at)
      ∙ ap (λ (ws : List Held). open_by f.index s (fitting_open most s.output (opened_at marks place s.table s.meter ws ts))) (sym waits)

  -- what is before an open call is put out
  pub open-done : (file : ℕ) → f.index ≡ file → (place : Place) → place ≡ place_under settings h → (marks : Option Place)
      → marks ≡ marks_of settings (place_under settings h) → (hs : List Held) → hs ≡ h.waiting → (t : State) (out now : List OutToken) (call : List Held) (meter : Meter) (once : Bool)
      → fitting_open most s.output (opened_at marks place s.table s.meter hs ts) ≡ Ok (record { tokens = out; once = once }, call, meter) → now ≡ s.output ++ out
      → t ≡ noted file s meter now once → run_opened f h s ts ≡ Ok (t, call)
  open-done file index place at marks marked hs waits t out now call meter once is put e =
      open_at place at marks marked hs waits ∙ ap (open_by f.index s) is
      ∙ ap (λ k. Ok (put_laid k (record { tokens = out; once = once }) (with_meter meter s), call)) index
      ∙ ap (λ u. Ok (u, call)) (once_is file s out meter once ∙ ap (λ us. noted file s meter us once) (sym put) ∙ sym e)

  -- it has a fault
  pub open-stop : (place : Place) → place ≡ place_under settings h → (marks : Option Place) → marks ≡ marks_of settings (place_under settings h) → (hs : List Held) → hs ≡ h.waiting
      → (c : Cause) → fitting_open most s.output (opened_at marks place s.table s.meter hs ts) ≡ Err c → run_opened f h s ts ≡ Err c
  open-stop place at marks marked hs waits c is = open_at place at marks marked hs waits ∙ ap (open_by f.index s) is

  -- what tokens of a file put out, by how it is known where they are
  put_at : (place : Place) → place ≡ place_under settings h → (marks : Option Place) → marks ≡ marks_of settings (place_under settings h)
      → run_expanded f h s ts ≡ put_by f.index s (fitting most s.output (laid_at marks place s.table s.meter ts))
  put_at place at marks marked =
      put-is f settings under h s ts
      ∙ ap (λ (n : Option ℕ). put_by f.index s (fitting n s.output (laid_at (marks_under settings h) (place_under settings h) s.table s.meter ts))) (sym limited)
      ∙ ap (λ (m : Option Place). put_by f.index s (fitting most s.output (laid_at m (place_under settings h) s.table s.meter ts))) (sym marked)
      ∙ ap (λ (p : Place). put_by f.index s (fitting most s.output (laid_at marks p s.table s.meter ts))) (sym at)

  -- they are put out
  pub put-done : (file : ℕ) → f.index ≡ file → (place : Place) → place ≡ place_under settings h → (marks : Option Place)
      → marks ≡ marks_of settings (place_under settings h) → (t : State) (out now : List OutToken) (meter : Meter) (once : Bool)
      → fitting most s.output (laid_at marks place s.table s.meter ts) ≡ Ok (record { tokens = out; once = once }, meter) → now ≡ s.output ++ out → t ≡ noted file s meter now once
      → run_expanded f h s ts ≡ Ok t
  put-done file index place at marks marked t out now meter once is put e =
      put_at place at marks marked ∙ ap (put_by f.index s) is
      ∙ ap (λ k. Ok (put_laid k (record { tokens = out; once = once }) (with_meter meter s))) index
      ∙ ap (λ u. Ok u) (once_is file s out meter once ∙ ap (λ us. noted file s meter us once) (sym put) ∙ sym e)

  -- they have a fault
  pub put-stop : (place : Place) → place ≡ place_under settings h → (marks : Option Place) → marks ≡ marks_of settings (place_under settings h)
      → (c : Cause) → fitting most s.output (laid_at marks place s.table s.meter ts) ≡ Err c → run_expanded f h s ts ≡ Err c
  put-stop place at marks marked c is = put_at place at marks marked ∙ ap (put_by f.index s) is

-- the meter and what was put out are as they were
pub same-state : (s : State) (meter : Meter) (output : List OutToken) → meter ≡ s.meter → output ≡ s.output
    → record { table = s.table; once = s.once; poisoned = s.poisoned; meter = meter; reads = s.reads; bytes_read = s.bytes_read; output = output } ≡ s
same-state s meter output m o =
    ap (λ (x : Meter). record { table = s.table; once = s.once; poisoned = s.poisoned; meter = x; reads = s.reads; bytes_read = s.bytes_read; output = output }) m
    ∙ ap (λ (ts : List OutToken). record { table = s.table; once = s.once; poisoned = s.poisoned; meter = s.meter; reads = s.reads; bytes_read = s.bytes_read; output = ts }) o
