-- Operators among expanded tokens that are taken one by one: what all give stays.
use Rattle.std.proofs.Common.{◌≡◌, refl, ap, sym, subst, ◌∙◌, ℕ, suc, ◌+◌, ◌<◌, Bool, true, false, List, [], ◌∷◌, ◌++◌, Option, Some, None, Result, Ok, Err, arith, get_or, length, map, take, append_assoc}
use Rattle.std.specs.List.{list_any}
use Rattle.std.specs.Prelude.{◌==◌, ◌||◌, ◌&&◌, ◌↔◌, if◌then◌else◌, codes, bytes_eq, is_some, option_map}
use Rattle.std.proofs.Math.Seq.{take-suc}
use Rattle.std.proofs.lemmas.List.{append-nil, map-append}
use Rattle.inc_text.specs.declared.phases.TextFault.{TextFault}
use Rattle.inc_text.specs.declared.phases.TextFault.TheVariants.{TooLong}
use Rattle.inc_text.specs.PhaseText.{Cell, is_too_long, phase_text}
use Rattle.inc_text.specs.declared.languages.Language.{Language}
use Rattle.inc_token.specs.declared.lines.Token.{Token}
use Rattle.inc_token.specs.TokenLines.{Tok, token_lines}
use Rattle.inc_token.specs.Views.{seen}
use Rattle.inc_macro.specs.Macros.{is_identifier_kind}
use Rattle.inc_macro.specs.Results.{◌>>=◌}
use Rattle.inc_expand.specs.Expansion.{Item, Meter, Place}
use Rattle.inc_expand.specs.Openings.{Held}
use Rattle.inc_expand.specs.Sinks.{Taken, item_of_source}
use Rattle.inc_pp.specs.declared.causes.Cause.{Cause}
use Rattle.inc_pp.specs.declared.causes.Cause.TheVariants.{BadPragma}
use Rattle.inc_pp.specs.declared.operators.Operators.{Operators}
use Rattle.inc_pp.specs.Operators.{Grows, marks_in, outcome, outcome_behind, takes_operand, tokens_in_text}
use Rattle.inc_text.specs.Languages.{is_gnu}
use Rattle.inc_pp.specs.Pragmas.{Laid, after_name, before, is_other_kind, laid, line_behind, plain, pragma_text, pragma_tokens, tokens_or_bad}
use Rattle.inc_pp.specs.Tasks.{OutToken, line_tokens}

---- a pragma's text

-- that of the line for a literal
pub text-tokens : (language : Language) (literal bytes : List ℕ) (text : List Cell) → bytes ≡ pragma_text literal → text ≡ phase_text language bytes → is_too_long bytes ≡ false
    → pragma_tokens language literal ≡ tokens_or_bad language (token_lines language text)
text-tokens language literal bytes text are is short =
    ap (λ b. if b then Err BadPragma else tokens_or_bad language (token_lines language (phase_text language (pragma_text literal)))) (ap is_too_long (sym are) ∙ short)
    ∙ ap (λ (cells : List Cell). tokens_or_bad language (token_lines language cells)) (ap (phase_text language) (sym are) ∙ sym is)

-- a text that was not too long
pub short-text : (b : Bool) (text : List Cell) → (◌≡◌ {A = Result (List Cell) TextFault} (Ok text) (Err TooLong) ↔ (b ≡ true)) → b ≡ false
short-text true text iff = not_long (iff.1 refl)
  where
    not_long : ◌≡◌ {A = Result (List Cell) TextFault} (Ok text) (Err TooLong) → true ≡ false
    not_long e = cc
short-text false text iff = refl

module _ (o : Operators) (literal : List ℕ) (at : ℕ) (line : Option (List Cell)) (is_literal : literal ≡ o.literal.items)
    (reads : pragma_tokens o.language literal ≡ tokens_in_text o.language line) where
  reads_own : pragma_tokens o.language o.literal.items ≡ tokens_in_text o.language line
  reads_own = ap (pragma_tokens o.language) (sym is_literal) ∙ reads

  pub text-acted : (new : Operators) (text : List Cell) → line ≡ Some text → ((is : List Item) → outcome new is ≡ outcome_behind (tokens_in_text o.language (Some text)) at o is)
      → (is : List Item) → outcome new is ≡ outcome_behind (pragma_tokens o.language o.literal.items) at o is
  text-acted new text some same is =
      same is ∙ ap (λ (r : Result (List Tok) Cause). outcome_behind r at o is) (sym (reads_own ∙ ap (tokens_in_text o.language) some))

  pub no-text : line ≡ None → (is : List Item) → ◌≡◌ {A = Result Laid Cause} (Err BadPragma) (outcome_behind (pragma_tokens o.language o.literal.items) at o is)
  no-text none is = ap (λ (r : Result (List Tok) Cause). outcome_behind r at o is) (sym (reads_own ∙ ap (tokens_in_text o.language) none))

---- several tokens

taken_more : {S : Type 0} (takes : S → Bool → Item → S → Type 0) (first : Bool) (old between new : S) (js : List Item) (i : Item) → Taken takes first old js between
    → ((c : Bool) → takes between c i new) → Taken takes first old (js ++ i ∷ []) new
taken_more takes first old between new [] i t k = (new, subst (λ o. takes o first i new) (sym t) (k first), refl)
taken_more takes first old between new (j ∷ js) i (mid, t, rest) k = (mid, t, taken_more takes false mid between new js i rest k)

-- where it does not count whether a token is the first
pub source-more : {S : Type 0} (takes : S → Bool → Item → S → Type 0) (first : Bool) (old between new : S) (ts : List Token) (k : ℕ) (d : Token) (i : Item) → k < length ts
    → Taken takes first old (map item_of_source (map seen (take k ts))) between → i ≡ item_of_source (seen (get_or ts k d)) → ((c : Bool) → takes between c i new)
    → Taken takes first old (map item_of_source (map seen (take (k + 1) ts))) new
source-more takes first old between new ts k d i l h e t =
    let n : k + 1 ≡ suc k = omega arith in
    subst (λ is. Taken takes first old is new)
    (ap (λ j. map item_of_source (map seen (take k ts)) ++ j ∷ []) e
    ∙ sym (ap (λ j. map item_of_source (map seen (take j ts))) n ∙ ap (λ us. map item_of_source (map seen us)) (take-suc ts k d l)
    ∙ ap (map item_of_source) (map-append seen (take k ts) (get_or ts k d ∷ [])) ∙ map-append item_of_source (map seen (take k ts)) (seen (get_or ts k d) ∷ [])))
    (taken_more takes first old between new (map item_of_source (map seen (take k ts))) i h t)

-- what all give, and that more was put out
pub all-taken : (first : Bool) (old new : Operators) (js : List Item) → Taken takes_operand first old js new → (outcome new [] ≡ outcome old js) × Grows old.output new.output
all-taken first old new [] e = (ap (λ (o : Operators). outcome o []) (sym e), ([], ap (λ (o : Operators). o.output) (sym e) ∙ sym (append-nil old.output)))
all-taken first old new (j ∷ js) (mid, t, rest) =
    let more = all-taken false mid new js rest in (
      more.0 ∙ t.0 js,
      (t.1.0 ++ more.1.0, more.1.1 ∙ ap (λ ts. ts ++ more.1.0) t.1.1 ∙ append_assoc old.output t.1.0 more.1.0),
    )

---- the whole

before_ok : (out new : List OutToken) (once : Bool) (r : Result Laid Cause) → before (record { tokens = out; once = false }) r ≡ Ok (record { tokens = new; once = once })
    → (more : List OutToken) × (new ≡ out ++ more) × (r ≡ Ok (record { tokens = more; once = once }))
before_ok out new once (Ok l) e =
    (l.tokens, ap (λ (x : Result Laid Cause). tokens_in x) (sym e), ap (λ (o : Bool). Ok (record { tokens = l.tokens; once = o })) (ap (λ (x : Result Laid Cause). once_in x) e))
  where
    tokens_in : Result Laid Cause → List OutToken
    tokens_in (Ok m) = m.tokens
    tokens_in (Err c) = []

    once_in : Result Laid Cause → Bool
    once_in (Ok m) = m.once
    once_in (Err c) = false
before_ok out new once (Err cause) e = cc

before_err : (a : Laid) (cause : Cause) (r : Result Laid Cause) → before a r ≡ Err cause → r ≡ Err cause
before_err a cause (Ok l) e = cc
before_err a cause (Err other) e = cc

-- what an expansion gives, with its tokens put out
abbrev pub paid : Language → (marks : Option Place) → Result (List Item × Meter) Cause → Result (Laid × Meter) Cause
paid language marks r = r >>= λ x. laid language marks None x.0 >>= λ l. Ok (l, x.1)

abbrev pub with_left : Meter → Result Laid Cause → Result (Laid × Meter) Cause
with_left left r = r >>= λ l. Ok (l, left)

module _ (language : Language) (marks : Option Place) (out new : List OutToken) (items : List Item) (left : Meter) (r : Result (List Item × Meter) Cause) (is : r ≡ Ok (items, left)) where
  -- an expansion that has no fault, and what its tokens give
  pub operated-done : (once : Bool) → before (record { tokens = out; once = false }) (laid language marks None items) ≡ Ok (record { tokens = new; once = once })
      → (more : List OutToken) × (new ≡ out ++ more) × (paid language marks r ≡ Ok (record { tokens = more; once = once }, left))
  operated-done once e =
      let b = before_ok out new once (laid language marks None items) e in
      (b.0, b.1, ap (paid language marks) is ∙ ap (with_left left) b.2)

  pub operated-bad : (cause : Cause) → before (record { tokens = out; once = false }) (laid language marks None items) ≡ Err cause → paid language marks r ≡ Err cause
  operated-bad cause e = ap (paid language marks) is ∙ ap (with_left left) (before_err (record { tokens = out; once = false }) cause (laid language marks None items) e)

-- what comes before an open call gives, with its tokens put out, and that call
abbrev pub paid_open : Language → (marks : Option Place) → Result (List Item × List Held × Meter) Cause → Result (Laid × List Held × Meter) Cause
paid_open language marks r = r >>= λ x. laid language marks None x.0 >>= λ l. Ok (l, x.1, x.2)

abbrev pub with_call : List Held → Meter → Result Laid Cause → Result (Laid × List Held × Meter) Cause
with_call call left r = r >>= λ l. Ok (l, call, left)

-- an expansion up to an open call that has no fault, and what its tokens give
pub open-done : (language : Language) (marks : Option Place) (items : List Item) (call : List Held) (left : Meter) (l : Laid) (r : Result (List Item × List Held × Meter) Cause) → r ≡ Ok (items, call, left)
    → laid language marks None items ≡ Ok l → paid_open language marks r ≡ Ok (l, call, left)
open-done language marks items call left l r is given = ap (paid_open language marks) is ∙ ap (with_call call left) given

pub open-bad : (language : Language) (marks : Option Place) (items : List Item) (call : List Held) (left : Meter) (cause : Cause) (r : Result (List Item × List Held × Meter) Cause) → r ≡ Ok (items, call, left)
    → laid language marks None items ≡ Err cause → paid_open language marks r ≡ Err cause
open-bad language marks items call left cause r is given = ap (paid_open language marks) is ∙ ap (with_call call left) given

-- what all items give
pub items-done : (language : Language) (marks : Option Place) (o : Operators) (out new : List OutToken) (is : List Item) (once : Bool)
    → outcome o is ≡ before (record { tokens = out; once = false }) (laid language marks None is) → outcome o is ≡ Ok (record { tokens = new; once = once })
    → (more : List OutToken) × (new ≡ out ++ more) × (laid language marks None is ≡ Ok (record { tokens = more; once = once }))
items-done language marks o out new is once begun e = before_ok out new once (laid language marks None is) (sym begun ∙ e)

pub items-bad : (language : Language) (marks : Option Place) (o : Operators) (out : List OutToken) (is : List Item) (cause : Cause)
    → outcome o is ≡ before (record { tokens = out; once = false }) (laid language marks None is) → outcome o is ≡ Err cause → laid language marks None is ≡ Err cause
items-bad language marks o out is cause begun e = before_err (record { tokens = out; once = false }) cause (laid language marks None is) (sym begun ∙ e)

-- more was put out, and then more
pub grows-both : (a b c : List OutToken) → Grows a b → Grows b c → Grows a c
grows-both a b c p q = (p.0 ++ q.0, q.1 ∙ ap (λ ts. ts ++ q.0) p.1 ∙ append_assoc a p.0 q.0)

pub grows-none : (a : List OutToken) → Grows a a
grows-none a = ([], sym (append-nil a))

-- what all give, before any of them, where lines are marked so
pub begun-operators : (language : Language) (marks : Option Place) (o : Operators) (out : List OutToken)
    → ((is : List Item) → outcome o is ≡ before (record { tokens = out; once = false }) (laid language marks None is)) → marks_in o ≡ marks → o.output ≡ out
    → (is : List Item) → outcome o is ≡ before (record { tokens = o.output; once = false }) (laid language (marks_in o) None is)
begun-operators language marks o out none marked put is =
    none is ∙ ap (λ (m : Option Place). before (record { tokens = out; once = false }) (laid language m None is)) (sym marked)
    ∙ ap (λ (ts : List OutToken). before (record { tokens = ts; once = false }) (laid language (marks_in o) None is)) (sym put)

---- without operators

pub none-mapped : {A B : Type 0} (f : A → B) (o : Option A) → is_some o ≡ false → option_map f o ≡ None
none-mapped f None e = refl
none-mapped f (Some x) e = cc

-- whether a token begins a line that comes after one that is from a line, or after none
abbrev begins : Option ℕ → Bool
begins None = true
begins (Some last) = false

plain_is : (language : Language) (last : Option ℕ) (i : Item) → plain language None last i ≡ record { tokens = line_tokens (begins last) (i ∷ []); once = false }
plain_is language None i = refl
plain_is language (Some last) i = refl

pub laid-plain : (language : Language) → is_gnu language ≡ false → (last : Option ℕ) (is : List Item)
    → laid language None last is ≡ Ok (record { tokens = line_tokens (begins last) is; once = false })
laid-plain language other last [] = refl
laid-plain language other last (i ∷ is) =
    ap (λ b. if b && (is_identifier_kind i.kind && bytes_eq i.spelling (codes "_Pragma")) then after_name language None is
    else before (plain language None last i) (laid language None (line_behind language i) is)) other
    ∙ ap (λ b. before (plain language None last i) (laid language None (if b && (is_other_kind i.kind && list_any (λ b. (b == 39) || (b == 34)) i.spelling) then None else Some i.line) is)) other
    ∙ ap (before (plain language None last i)) (laid-plain language other (Some i.line) is)
    ∙ ap (λ (l : Laid). before l (Ok (record { tokens = line_tokens false is; once = false }))) (plain_is language last i)

pub plain-done : (language : Language) → is_gnu language ≡ false → (marks : Option Place) → marks ≡ None → (old new : List OutToken) (items : List Item) (left : Meter)
    (r : Result (List Item × Meter) Cause) → r ≡ Ok (items, left) → new ≡ old ++ line_tokens true items
    → (more : List OutToken) × (new ≡ old ++ more) × (paid language marks r ≡ Ok (record { tokens = more; once = false }, left))
plain-done language other marks none old new items left r is e = (
  line_tokens true items,
  e,
  ap (λ (m : Option Place). paid language m r) none ∙ ap (paid language None) is ∙ ap (with_left left) (laid-plain language other None items),
)
