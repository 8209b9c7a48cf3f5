-- Whether a branch is taken, from what was read to the file at hand.
use Rattle.std.proofs.Common.{◌≡◌, ℕ, Bool, not, List, [], ◌∷◌, Option, Some, Result, Ok, Err, drop, option_map, refl, sym, ap, ◌∙◌}
use Rattle.std.specs.Prelude.{slice_get}
use Rattle.inc_token.specs.TokenLines.{Tok}
use Rattle.inc_directive.specs.Groups.{FileLine}
use Rattle.inc_directive.specs.Parts.{FilePart, DirectivePart, part_kind}
use Rattle.inc_directive.specs.LineKinds.{LineKind, Other, line_of_tokens}
use Rattle.inc_directive.specs.declared.kinds.DirectiveKind.TheVariants.{Ifdef, Ifndef, Elifdef, Elifndef}
use Rattle.inc_macro.specs.Results.{◌>>=◌}
use Rattle.inc_macro.specs.Macros.{Table, is_defined}
use Rattle.inc_pp.specs.StateViews.{only}
use Rattle.inc_cond.specs.declared.values.CondValue.{CondValue}
use Rattle.inc_cond.specs.Conditions.{condition}
use Rattle.inc_cond.specs.Headers.{HeaderSearch}
use Rattle.inc_expand.specs.Expansion.{Place, Meter}
use Rattle.inc_pp.specs.declared.conditions.Test.{Test}
use Rattle.inc_pp.specs.declared.conditions.Test.TheVariants.{Defined, Undefined, Value}
use Rattle.inc_pp.specs.declared.causes.Cause.{Cause}
use Rattle.inc_pp.specs.declared.causes.Cause.TheVariants.{Condition}
use Rattle.inc_pp.specs.Runs.{with_meter}
use Rattle.inc_pp.specs.Sections.{operands, first_name, is_true, if_defined, if_not_defined, if_true, condition_of, is_chosen}
use Rattle.inc_pp.specs.Settings.{Settings}
use Rattle.inc_pp.specs.Steps.{place_under, name_defined, opposite, test_of, value_true}
use Rattle.inc_pp.specs.Stops.{IsSearched, halt_at}
use Rattle.inc_pp.specs.Tasks.{File, State, Here, caused, halting, place_of, search_of}
use Rattle.inc_pp.proofs.StopSteps.{in_state, kind-read}

-- a test that expands nothing
abbrev pub with_all : Meter → Result Bool Cause → Result (Bool × Meter) Cause
with_all meter r = r >>= λ b. Ok (b, meter)

-- what a line with these operands answers, and the meter after it
abbrev pub taken_by : Test → HeaderSearch → Place → Table → Meter → List Tok → Result (Bool × Meter) Cause
taken_by Defined search place table meter ts = with_all meter (name_defined table ts)
taken_by Undefined search place table meter ts = with_all meter (opposite (name_defined table ts))
taken_by Value search place table meter ts = value_true search place table meter ts

defined-is : (l : FileLine) (s : State) → if_defined l s ≡ in_state s (with_all s.meter (name_defined s.table (operands l)))
defined-is l s = by (first_name (operands l))
  where
    by : (r : Result (List ℕ) Cause) → (r >>= λ n. Ok (is_defined n s.table, s)) ≡ in_state s (with_all s.meter (r >>= λ n. Ok (is_defined n s.table)))
    by (Ok n) = refl
    by (Err c) = refl

pub not-defined-is : (l : FileLine) (s : State) → if_not_defined l s ≡ in_state s (with_all s.meter (opposite (name_defined s.table (operands l))))
not-defined-is l s = by (first_name (operands l))
  where
    by : (r : Result (List ℕ) Cause) → (r >>= λ n. Ok (not (is_defined n s.table), s)) ≡ in_state s (with_all s.meter (opposite (r >>= λ n. Ok (is_defined n s.table))))
    by (Ok n) = refl
    by (Err c) = refl

true-is : (f : File) (l : FileLine) (s : State) (h : Here) → if_true f l s h
    ≡ in_state s (value_true (search_of f) (place_of f h) s.table s.meter (operands l))
true-is f l s h = by (caused Condition (condition (search_of f) s.table (place_of f h) s.meter (operands l)))
  where
    by : (r : Result (CondValue × Meter) Cause) → (r >>= λ x. Ok (is_true x.0, with_meter x.1 s)) ≡ in_state s (r >>= λ x. Ok (is_true x.0, x.1))
    by (Ok x) = refl
    by (Err c) = refl

condition-is : (kind : LineKind) (f : File) (l : FileLine) (s : State) (h : Here) → condition_of kind f l s h
    ≡ in_state s (taken_by (test_of kind) (search_of f) (place_of f h) s.table s.meter (operands l))
condition-is (Other Ifdef) f l s h = defined-is l s
condition-is (Other Ifndef) f l s h = not-defined-is l s
condition-is (Other Elifdef) f l s h = defined-is l s
condition-is (Other Elifndef) f l s h = not-defined-is l s
condition-is _ f l s h = true-is f l s h

-- the first operand is the third token
pub third-name : (table : Table) (ts : List Tok) (o : Option Tok) (r : Result Bool Cause) → o ≡ slice_get ts 2 → r ≡ name_defined table (only o) → name_defined table (drop 2 ts) ≡ r
third-name table ts o r third is = same ts ∙ ap (λ x. name_defined table (only x)) (sym third) ∙ sym is
  where
    same : (us : List Tok) → name_defined table (drop 2 us) ≡ name_defined table (only (slice_get us 2))
    same [] = refl
    same (t ∷ []) = refl
    same (t ∷ u ∷ []) = refl
    same (t ∷ u ∷ v ∷ us) = refl

module _ (f : File) (l : FileLine) (s : State) (h : Here) (settings : Settings) (search : HeaderSearch) (ps : List FilePart) (i : ℕ) (kind : LineKind) (t : Test) (asks : t ≡ test_of kind)
    (u : IsSearched settings search f) (at : slice_get ps i ≡ Some (DirectivePart l)) (is : option_map part_kind (slice_get ps i) ≡ Some kind) where
  taken-is : condition_of l.kind f l s h ≡ in_state s (taken_by t search (place_under settings h) s.table s.meter (operands l))
  taken-is =
      ap (λ k. condition_of k f l s h) (kind-read ps i l kind at is) ∙ condition-is kind f l s h
      ∙ ap (λ (st : Settings). in_state s (taken_by (test_of kind) (search_of f) (place_under st h) s.table s.meter (operands l))) u.under
      ∙ ap (λ (x : HeaderSearch). in_state s (taken_by (test_of kind) x (place_under settings h) s.table s.meter (operands l))) u.looks
      ∙ ap (λ k. in_state s (taken_by k search (place_under settings h) s.table s.meter (operands l))) (sym asks)

  pub taken-done : (b : Bool) (meter : Meter) → taken_by t search (place_under settings h) s.table s.meter (operands l) ≡ Ok (b, meter) → is_chosen f l s h ≡ Ok (b, with_meter meter s)
  taken-done b meter e = ap (λ x. halting f (line_of_tokens l.tokens) s x) (taken-is ∙ ap (in_state s) e)

  pub taken-stop : (line : ℕ) (c : Cause) → line ≡ line_of_tokens l.tokens → taken_by t search (place_under settings h) s.table s.meter (operands l) ≡ Err c → is_chosen f l s h ≡ Err (halt_at f s line c)
  taken-stop line c where_is e =
      ap (λ x. halting f (line_of_tokens l.tokens) s x) (taken-is ∙ ap (in_state s) e)
      ∙ ap (λ n. Err (halt_at f s n c)) (sym where_is)
