-- The length of the text of a run: what is counted of it while its tokens are let go, and whether there is room for it.
use Rattle.std.proofs.Common.{◌≡◌, refl, ap, ap₂, sym, ◌∙◌, ℕ, suc, ◌+◌, Bool, true, false, List, [], ◌∷◌, ◌++◌, Option, Some, None, Result, Ok, Err, arith, length, take}
use Rattle.std.specs.Prelude.{if◌then◌else◌, nat_lt}
use Rattle.std.proofs.Math.Seq.{take-append_seam}
use Rattle.std.proofs.lemmas.List.{length-append}
use Rattle.inc_text.specs.declared.languages.Language.{Language}
use Rattle.inc_token.specs.TokenLines.{Tok}
use Rattle.inc_directive.specs.LineKinds.{line_of_tokens}
use Rattle.inc_macro.specs.Results.{◌>>=◌}
use Rattle.inc_expand.specs.Expansion.{Item, Meter, Place}
use Rattle.inc_expand.specs.Openings.{Held}
use Rattle.inc_expand.specs.Sinks.{Taken}
use Rattle.inc_pp.specs.declared.causes.Cause.{Cause}
use Rattle.inc_pp.specs.declared.causes.Cause.TheVariants.{TooMuchOutput}
use Rattle.inc_pp.specs.declared.measures.Measure.{Measure}
use Rattle.inc_pp.specs.declared.operators.Operators.{Operators}
use Rattle.inc_pp.specs.DirectiveSteps.{put_by}
use Rattle.inc_pp.specs.Measures.{length_after, measured, takes_measured, text_length}
use Rattle.inc_pp.specs.Operators.{laid_from, marks_in, outcome}
use Rattle.inc_pp.specs.Pragmas.{Laid, before, laid, put_pragma}
use Rattle.inc_pp.specs.Printed.{printed, printed_after}
use Rattle.inc_pp.specs.Settings.{is_too_much}
use Rattle.inc_pp.specs.Steps.{fitting, fitting_open, short}
use Rattle.inc_pp.specs.Tasks.{OutToken, State}
use Rattle.inc_pp.proofs.OperatorSteps.{paid, paid_open, with_call, with_left}

---- the length of a text

-- the bytes of tokens, and one after each
abbrev size : List OutToken → ℕ
size [] = 0
size (t ∷ ts) = length t.spelling + suc (size ts)

after_size : (ts : List OutToken) → length (printed_after ts) ≡ suc (size ts)
after_size [] = refl
after_size (t ∷ ts) = ap suc (length-append t.spelling (printed_after ts) ∙ ap (λ n. length t.spelling + n) (after_size ts))

printed_size : (ts : List OutToken) → length (printed ts) ≡ size ts
printed_size [] = refl
printed_size (t ∷ ts) = length-append t.spelling (printed_after ts) ∙ ap (λ n. length t.spelling + n) (after_size ts)

both_size : (as' bs : List OutToken) → size (as' ++ bs) ≡ size as' + size bs
both_size [] bs = omega arith
both_size (t ∷ ts) bs =
    let more = both_size ts bs in
    ap (λ n. length t.spelling + suc n) more ∙ shifted (length t.spelling) (size ts) (size bs)
  where
    shifted : (a b c : ℕ) → a + suc (b + c) ≡ (a + suc b) + c
    shifted a b c = omega arith

-- that of tokens after others
pub printed-both : (as' bs : List OutToken) → length (printed (as' ++ bs)) ≡ length (printed as') + length (printed bs)
printed-both as' bs =
    printed_size (as' ++ bs) ∙ both_size as' bs ∙ ap (λ n. n + size bs) (sym (printed_size as')) ∙ ap (λ n. length (printed as') + n) (sym (printed_size bs))

---- what is counted

-- no token was taken
pub new-measured : (o : Operators) (out : List OutToken) (r : Result Laid Cause) (is : List Item) → out ≡ [] → outcome o is ≡ before (record { tokens = out; once = false }) r
    → length_after 0 (outcome o is) ≡ length_after 0 r
new-measured o out r is none e = ap (length_after 0) e ∙ ap (λ (ts : List OutToken). length_after 0 (before (record { tokens = ts; once = false }) r)) none ∙ by r
  where
    by : (q : Result Laid Cause) → length_after 0 (before (record { tokens = []; once = false }) q) ≡ length_after 0 q
    by (Ok l) = refl
    by (Err cause) = refl

-- what was put out is counted, and let go
counted_laid : (bytes more : ℕ) (ts us : List OutToken) (once : Bool) (r : Result Laid Cause) → us ≡ [] → more ≡ length (printed ts)
    → length_after (bytes + more) (before (record { tokens = us; once = once }) r) ≡ length_after bytes (before (record { tokens = ts; once = once }) r)
counted_laid bytes more ts us once (Err cause) none is = refl
counted_laid bytes more ts us once (Ok l) none is =
    ap (λ (xs : List OutToken). Ok ((bytes + more) + length (printed (xs ++ l.tokens)))) none
    ∙ ap (λ n. Ok n) (ap (λ n. (bytes + n) + length (printed l.tokens)) is ∙ shifted bytes (length (printed ts)) (length (printed l.tokens))
    ∙ ap (λ n. bytes + n) (sym (printed-both ts l.tokens)))
  where
    shifted : (a b c : ℕ) → (a + b) + c ≡ a + (b + c)
    shifted a b c = omega arith

pub counted : (o : Operators) (us : List OutToken) (bytes total : ℕ) (text : List ℕ) (is : List Item) → us ≡ [] → text ≡ printed o.output → total ≡ bytes + length text
    → length_after total (outcome (record o { output = us }) is) ≡ length_after bytes (outcome o is)
counted o us bytes total text is none counts sum =
    ap (λ n. length_after n (outcome (record o { output = us }) is)) sum ∙ by o.fault
  where
    by : (fault : Option Cause)
        → length_after (bytes + length text) (elim fault as (λ _. Result Laid Cause) [
          | Some cause ↦ Err cause
          | None ↦ before (record { tokens = us; once = o.once }) (laid_from o.next o.language (marks_in o) o.last o.literal.items is)
        ]) ≡ length_after bytes (elim fault as (λ _. Result Laid Cause) [
          | Some cause ↦ Err cause
          | None ↦ before (record { tokens = o.output; once = o.once }) (laid_from o.next o.language (marks_in o) o.last o.literal.items is)
        ])
    by (Some cause) = refl
    by None = counted_laid bytes (length text) o.output us o.once (laid_from o.next o.language (marks_in o) o.last o.literal.items is) none (ap (λ (t : List ℕ). length t) counts)

-- nothing is left to be counted
pub ended-measured : (bytes : ℕ) (once : Bool) (out : List OutToken) (r : Result Laid Cause) → out ≡ [] → r ≡ Ok (record { tokens = out; once = once }) → length_after bytes r ≡ Ok bytes
ended-measured bytes once out r none e =
    ap (length_after bytes) e ∙ ap (λ (ts : List OutToken). Ok (bytes + length (printed ts))) none ∙ ap (λ n. Ok n) (nothing bytes)
  where
    nothing : (a : ℕ) → a + 0 ≡ a
    nothing a = omega arith

-- all tokens were taken
pub all-measured : (first : Bool) (old new : Measure) (js : List Item) → Taken takes_measured first old js new → measured new [] ≡ measured old js
all-measured first old new [] e = ap (λ (m : Measure). measured m []) (sym e)
all-measured first old new (j ∷ js) (mid, t, rest) = all-measured false mid new js rest ∙ t js

---- what a run gives

length_is : (r : Result Laid Cause) (left : Meter) → text_length (with_left left r) ≡ length_after 0 r
length_is (Ok l) left = ap (λ n. Ok n) (nothing (length (printed l.tokens)))
  where
    nothing : (a : ℕ) → a ≡ 0 + a
    nothing a = omega arith
length_is (Err cause) left = refl

pub bad-measured : (r : Result Laid Cause) (bytes : ℕ) (cause : Cause) → length_after bytes r ≡ Err cause → r ≡ Err cause
bad-measured (Ok l) bytes cause e = cc
bad-measured (Err other) bytes cause e = cc

module _ (language : Language) (marks : Option Place) (items : List Item) (left : Meter) (r : Result (List Item × Meter) Cause) (is : r ≡ Ok (items, left)) where
  pub measured-done : (bytes : ℕ) → length_after 0 (laid language marks None items) ≡ Ok bytes → text_length (paid language marks r) ≡ Ok bytes
  measured-done bytes e = ap (λ q. text_length (paid language marks q)) is ∙ length_is (laid language marks None items) left ∙ e

  pub measured-bad : (cause : Cause) → length_after 0 (laid language marks None items) ≡ Err cause → paid language marks r ≡ Err cause
  measured-bad cause e = ap (paid language marks) is ∙ ap (with_left left) (bad-measured (laid language marks None items) 0 cause e)

---- whether there is room

ok_is : (a b : ℕ) → ◌≡◌ {A = Result ℕ Cause} (Ok a) (Ok b) → a ≡ b
ok_is a b e = ap (λ (r : Result ℕ Cause). number_of r) e
  where
    number_of : Result ℕ Cause → ℕ
    number_of (Ok n) = n
    number_of (Err cause) = 0

-- whether a text is too long, by how long it is
too_much_is : (most already bytes : ℕ) (old more : List OutToken) (b : Bool) → already ≡ length (printed old) → length (printed more) ≡ bytes → nat_lt most (already + bytes) ≡ b
    → is_too_much (Some most) (length (printed (old ++ more))) ≡ b
too_much_is most already bytes old more b counts is e =
    ap (nat_lt most) (printed-both old more ∙ ap (λ n. n + length (printed more)) (sym counts) ∙ ap (λ n. already + n) is) ∙ e

-- there is no limit
pub short-none : (old : List OutToken) (r : Result Laid Cause) → (r >>= short None old) ≡ r
short-none old (Ok l) = refl
short-none old (Err cause) = refl

pub fitting-none : (old : List OutToken) (r : Result (Laid × Meter) Cause) → fitting None old r ≡ r
fitting-none old (Ok x) = refl
fitting-none old (Err cause) = refl

zero_is : (a b : ℕ) → 0 + a ≡ b → a ≡ b
zero_is a b e = omega (arith, e)

-- by what was counted of it
module _ (most already bytes : ℕ) (old : List OutToken) (counts : already ≡ length (printed old)) where
  short_by : (b : Bool) (r : Result Laid Cause) → length_after 0 r ≡ Ok bytes → nat_lt most (already + bytes) ≡ b
      → (r >>= short (Some most) old) ≡ (if b then Err TooMuchOutput else r)
  short_by b (Err cause) is e = cc
  short_by b (Ok l) is e =
      ap (λ c. if c then Err TooMuchOutput else Ok l)
      (too_much_is most already bytes old l.tokens b counts (zero_is (length (printed l.tokens)) bytes (ok_is (0 + length (printed l.tokens)) bytes is)) e)

  pub short-fits : (r : Result Laid Cause) → length_after 0 r ≡ Ok bytes → nat_lt most (already + bytes) ≡ false → (r >>= short (Some most) old) ≡ r
  short-fits r is e = short_by false r is e

  pub short-over : (r : Result Laid Cause) → length_after 0 r ≡ Ok bytes → nat_lt most (already + bytes) ≡ true → (r >>= short (Some most) old) ≡ Err TooMuchOutput
  short-over r is e = short_by true r is e

  fitting_by : (b : Bool) (r : Result (Laid × Meter) Cause) → text_length r ≡ Ok bytes → nat_lt most (already + bytes) ≡ b
      → fitting (Some most) old r ≡ (if b then Err TooMuchOutput else r)
  fitting_by b (Err cause) is e = cc
  fitting_by b (Ok x) is e =
      ap (λ c. ◌>>=◌ {A = Laid} (if c then Err TooMuchOutput else Ok x.0) (λ l. Ok (l, x.1)))
      (too_much_is most already bytes old x.0.tokens b counts (ok_is (length (printed x.0.tokens)) bytes is) e) ∙ by b
    where
      by : (c : Bool) → ◌≡◌ {A = Result (Laid × Meter) Cause} (◌>>=◌ {A = Laid} (if c then Err TooMuchOutput else Ok x.0) (λ l. Ok (l, x.1))) (if c then Err TooMuchOutput else Ok x)
      by true = refl
      by false = refl

  pub fitting-fits : (r : Result (Laid × Meter) Cause) → text_length r ≡ Ok bytes → nat_lt most (already + bytes) ≡ false → fitting (Some most) old r ≡ r
  fitting-fits r is e = fitting_by false r is e

  pub fitting-over : (r : Result (Laid × Meter) Cause) → text_length r ≡ Ok bytes → nat_lt most (already + bytes) ≡ true → fitting (Some most) old r ≡ Err TooMuchOutput
  fitting-over r is e = fitting_by true r is e

-- what has a fault
pub short-bad : (most : Option ℕ) (old : List OutToken) (r : Result Laid Cause) (cause : Cause) → r ≡ Err cause → (r >>= short most old) ≡ Err cause
short-bad most old r cause e = ap (λ (q : Result Laid Cause). q >>= short most old) e

pub fitting-bad : (most : Option ℕ) (old : List OutToken) (r : Result (Laid × Meter) Cause) (cause : Cause) → r ≡ Err cause → fitting most old r ≡ Err cause
fitting-bad most old r cause e = ap (fitting most old) e

---- what is before an open call

fit_call : (most : Option ℕ) (old : List OutToken) (call : List Held) (left : Meter) (r : Result Laid Cause)
    → fitting_open most old (with_call call left r) ≡ with_call call left (r >>= short most old)
fit_call most old call left (Ok l) = refl
fit_call most old call left (Err cause) = refl

module _ (language : Language) (marks : Option Place) (most : Option ℕ) (old : List OutToken) (items : List Item) (call : List Held) (left : Meter)
    (r : Result (List Item × List Held × Meter) Cause) (is : r ≡ Ok (items, call, left)) where
  opened_is : (q : Result Laid Cause) → (laid language marks None items >>= short most old) ≡ q → fitting_open most old (paid_open language marks r) ≡ with_call call left q
  opened_is q e =
      ap (λ x. fitting_open most old (paid_open language marks x)) is ∙ fit_call most old call left (laid language marks None items) ∙ ap (with_call call left) e

  pub opened-done : (l : Laid) → (laid language marks None items >>= short most old) ≡ laid language marks None items → laid language marks None items ≡ Ok l
      → fitting_open most old (paid_open language marks r) ≡ Ok (l, call, left)
  opened-done l fits given = opened_is (Ok l) (fits ∙ given)

  pub opened-bad : (cause : Cause) → (laid language marks None items >>= short most old) ≡ Err cause → fitting_open most old (paid_open language marks r) ≡ Err cause
  opened-bad cause e = opened_is (Err cause) e

pub opened-none : (language : Language) (marks : Option Place) (most : Option ℕ) (old : List OutToken) (r : Result (List Item × List Held × Meter) Cause) (cause : Cause) → r ≡ Err cause
    → fitting_open most old (paid_open language marks r) ≡ Err cause
opened-none language marks most old r cause e = ap (λ x. fitting_open most old (paid_open language marks x)) e

---- a pragma

-- with these tokens put out
abbrev pub with_output : List OutToken → State → State
with_output out s = record { table = s.table; once = s.once; poisoned = s.poisoned; meter = s.meter; reads = s.reads; bytes_read = s.bytes_read; output = out }

pub pragma-put : (most : Option ℕ) (marks : Option Place) (ts : List Tok) (s : State) (out : List OutToken) (text : List ℕ) (b : Bool)
    → out ≡ s.output ++ put_pragma s.table.language marks (line_of_tokens ts) ts → text ≡ printed out → is_too_much most (length text) ≡ b
    → put_by most marks ts s ≡ (if b then Err TooMuchOutput else Ok (with_output out s))
pragma-put most marks ts s out text b put texts e =
    ap (λ (us : List OutToken). if is_too_much most (length (printed us)) then Err TooMuchOutput else Ok (with_output us s)) (sym put)
    ∙ ap (λ c. if c then Err TooMuchOutput else Ok (with_output out s)) (ap (λ (t : List ℕ). is_too_much most (length t)) (sym texts) ∙ e)

pub pragma-back : (s : State) (more out now : List OutToken) (count : ℕ) → count ≡ length s.output → out ≡ s.output ++ more → now ≡ take count out → with_output now s ≡ s
pragma-back s more out now count counts put back =
    ap (λ (us : List OutToken). with_output us s) (back ∙ ap₂ (λ k us. take k us) counts put ∙ take-append_seam s.output more)
