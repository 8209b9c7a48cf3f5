-- What happens at the front of a list, by the tokens there.
use Rattle.std.proofs.Common.{◌≡◌, ℕ, zero, suc, ◌+◌, ◌<◌, ◌≤◌, arith, Bool, true, false, ◌&&◌, if◌then◌else◌, List, [], ◌∷◌, ◌++◌, Option, Some, None, length, slice_get, take, drop, codes, refl, sym, ap, ap₂, ◌∙◌, append_assoc}
use Rattle.inc_macro.specs.Macros.{Definition, Params, is_identifier_kind}
use Rattle.inc_expand.specs.declared.carried.Carried.{Carried}
use Rattle.inc_expand.specs.declared.cases.Case.{Case as CaseValue}
use Rattle.inc_expand.specs.Sets.{Sets}
use Rattle.inc_expand.specs.Expansion.{Carrier, Case, Passes, IsObject, IsCall, Surroundings, asked_count, case_of, function_case, header_count, macro_case, through_close}
use Rattle.inc_expand.specs.Carriers.{carrier, carriers}
use Rattle.inc_expand.specs.Cases.{case_value, is_name_in, is_spelled_in}

-- an identifier in parentheses is first
in_parentheses : List Carried → Bool
in_parentheses ts = is_spelled_in (codes "(") (slice_get ts 0) && (is_name_in (slice_get ts 1) && is_spelled_in (codes ")") (slice_get ts 2))

count_by_tests : (name parentheses : Bool) → ℕ
count_by_tests name parentheses = if name then 1 else if parentheses then 3 else 0

no-close : (name opens next : Bool) → count_by_tests name (opens && (next && false)) ≡ (if name then 1 else 0)
unfolding count_by_tests
no-close true opens next = refl
no-close false true true = refl
no-close false true false = refl
no-close false false next = refl

no-next : (name opens : Bool) → count_by_tests name (opens && false) ≡ (if name then 1 else 0)
unfolding count_by_tests
no-next true opens = refl
no-next false true = refl
no-next false false = refl

asked-by : (s : Sets) (ts : List Carried) → asked_count (carriers s ts) ≡ count_by_tests (is_name_in (slice_get ts 0)) (in_parentheses ts)
unfolding count_by_tests in_parentheses
asked-by s [] = refl
asked-by s (a ∷ []) = sym (no-next (is_identifier_kind a.kind) (is_spelled_in (codes "(") (Some a)))
asked-by s (a ∷ b ∷ []) = sym (no-close (is_identifier_kind a.kind) (is_spelled_in (codes "(") (Some a)) (is_identifier_kind b.kind))
asked-by s (a ∷ b ∷ c ∷ ts) = refl

pub asked-one : (s : Sets) (ts : List Carried) → is_name_in (slice_get ts 0) ≡ true → 1 ≡ asked_count (carriers s ts)
unfolding count_by_tests
asked-one s ts e = sym (asked-by s ts ∙ ap (λ b. count_by_tests b (in_parentheses ts)) e)

pub asked-more : (s : Sets) (ts : List Carried) (p : Bool) → is_name_in (slice_get ts 0) ≡ false →
    (is_spelled_in (codes "(") (slice_get ts 0) && (is_name_in (slice_get ts 1) && is_spelled_in (codes ")") (slice_get ts 2))) ≡ p →
    (if p then 3 else 0) ≡ asked_count (carriers s ts)
unfolding count_by_tests in_parentheses
asked-more s ts p e f = sym (asked-by s ts ∙ ap₂ count_by_tests e f)

---- the name of a header

-- the first of the tokens from a place on
pub through-front : (s : Sets) (ts : List Carried) (k : ℕ) → k < length ts → through_close (carriers s (drop k ts))
    ≡ (if is_spelled_in (codes ">") (slice_get ts k) then 1 else 1 + through_close (carriers s (drop (suc k) ts)))
through-front s [] k l = absurd (omega (arith, l))
through-front s (a ∷ ts) zero l = refl
through-front s (a ∷ ts) (suc k) l = through-front s ts k (omega (arith, l))

-- none are left
pub through-past : (s : Sets) (ts : List Carried) (k : ℕ) → length ts ≤ k → through_close (carriers s (drop k ts)) ≡ 0
through-past s [] zero l = refl
through-past s [] (suc k) l = refl
through-past s (a ∷ ts) zero l = absurd (omega (arith, l))
through-past s (a ∷ ts) (suc k) l = through-past s ts k (omega (arith, l))

-- the tokens that are taken with a question
header-tests : List Carried → Bool
header-tests ts = is_spelled_in (codes "(") (slice_get ts 0) && is_spelled_in (codes "<") (slice_get ts 1)

header-by : (s : Sets) (ts : List Carried) → header_count (carriers s ts) ≡ (if header-tests ts then 2 + through_close (carriers s (drop 2 ts)) else 0)
unfolding header-tests
header-by s [] = refl
header-by s (a ∷ []) = by (is_spelled_in (codes "(") (Some a)) (2 + through_close [])
  where
    by : (b : Bool) (n : ℕ) → 0 ≡ (if b && false then n else 0)
    by true n = refl
    by false n = refl
header-by s (a ∷ b ∷ ts) = refl

pub header-taken : (s : Sets) (ts : List Carried) (n : ℕ) → is_spelled_in (codes "(") (slice_get ts 0) ≡ true → is_spelled_in (codes "<") (slice_get ts 1) ≡ true
    → n ≡ 2 + through_close (carriers s (drop 2 ts)) → n ≡ header_count (carriers s ts)
unfolding header-tests
header-taken s ts n e f is =
    is ∙ sym (header-by s ts ∙ ap₂ (λ a b. if a && b then 2 + through_close (carriers s (drop 2 ts)) else 0) e f)

pub header-left : (s : Sets) (ts : List Carried) → (is_spelled_in (codes "(") (slice_get ts 0) && is_spelled_in (codes "<") (slice_get ts 1)) ≡ false → 0 ≡ header_count (carriers s ts)
unfolding header-tests
header-left s ts e = sym (header-by s ts ∙ ap (λ b. if b then 2 + through_close (carriers s (drop 2 ts)) else 0) e)

-- a function-like macro
module _ (s : Sets) (d : Definition) (p : Params) (t : Carrier) (ts : List Carried) (e : d.params ≡ Some p) where
  by_params : Option Params → Case
  by_params o = elim o as (λ _. Case) [ None ↦ IsObject d | Some q ↦ function_case d q t (carriers s ts) ]

  pub call-case : is_spelled_in (codes "(") (slice_get ts 0) ≡ true → macro_case t (carriers s ts) (Some d) ≡ IsCall d p (drop 1 (carriers s ts))
  unfolding by_params
  call-case h = ap by_params e ∙ by ts h
    where
      by : (us : List Carried) → is_spelled_in (codes "(") (slice_get us 0) ≡ true → function_case d p t (carriers s us) ≡ IsCall d p (drop 1 (carriers s us))
      by [] k = cc
      by (u ∷ us) k = ap (λ b. if b then IsCall d p (carriers s us) else Passes (t ∷ []) (carrier s u ∷ carriers s us)) k

  pub no-call-case : is_spelled_in (codes "(") (slice_get ts 0) ≡ false → macro_case t (carriers s ts) (Some d) ≡ Passes (t ∷ []) (carriers s ts)
  unfolding by_params
  no-call-case h = ap by_params e ∙ by ts h
    where
      by : (us : List Carried) → is_spelled_in (codes "(") (slice_get us 0) ≡ false → function_case d p t (carriers s us) ≡ Passes (t ∷ []) (carriers s us)
      by [] k = refl
      by (u ∷ us) k = ap (λ b. if b then IsCall d p (carriers s us) else Passes (t ∷ []) (carrier s u ∷ carriers s us)) k

-- the case that was found
pub case-at : (s : Surroundings) (now : Sets) (t : Carried) (list : List Carried) (found case : CaseValue) →
    case_of s (carrier now t) (carriers now list) ≡ case_value found (carrier now t) (carriers now list) → found ≡ case →
    case_of s (carrier now t) (carriers now list) ≡ case_value case (carrier now t) (carriers now list)
case-at s now t list found case e f = e ∙ ap (λ (x : CaseValue). case_value x (carrier now t) (carriers now list)) f

---- tokens that pass

pub one-more : (k : ℕ) (all rest : List Carried) (t : Carried) → drop k all ≡ t ∷ rest → (take (suc k) all ≡ take k all ++ t ∷ []) × (rest ≡ drop (suc k) all)
one-more zero [] rest t e = cc
one-more zero (a ∷ all) rest t e = (let f : a ≡ t = cc in ap (λ x. x ∷ []) f, cc)
one-more (suc k) [] rest t e = cc
one-more (suc k) (a ∷ all) rest t e = let h = one-more k all rest t e in (ap (λ ts. a ∷ ts) h.0, h.1)

pub none-more : (k : ℕ) (all : List Carried) → drop k all ≡ [] → (take (suc k) all ≡ take k all) × (drop (suc k) all ≡ [])
none-more zero [] e = (refl, refl)
none-more zero (a ∷ all) e = cc
none-more (suc k) [] e = (refl, refl)
none-more (suc k) (a ∷ all) e = let h = none-more k all e in (ap (λ ts. a ∷ ts) h.0, h.1)

pub passed-token : (before mid after all list rest : List Carried) (k : ℕ) (t : Carried) → mid ≡ before ++ take k all → list ≡ drop k all → list ≡ t ∷ rest →
    after ≡ mid ++ t ∷ [] → (after ≡ before ++ take (k + 1) all) × (rest ≡ drop (k + 1) all)
passed-token before mid after all list rest k t e f g h =
    let m = one-more k all rest t (sym f ∙ g) in
    let n : suc k ≡ k + 1 = omega arith in
    (h ∙ ap (λ ts. ts ++ t ∷ []) e ∙ append_assoc before (take k all) (t ∷ []) ∙ ap (λ ts. before ++ ts) (sym m.0 ∙ ap (λ j. take j all) n), m.1 ∙ ap (λ j. drop j all) n)

pub passed-end : (before mid all list rest : List Carried) (k : ℕ) → mid ≡ before ++ take k all → list ≡ drop k all → list ≡ [] → rest ≡ list →
    (mid ≡ before ++ take (k + 1) all) × (rest ≡ drop (k + 1) all)
passed-end before mid all list rest k e f g h =
    let m = none-more k all (sym f ∙ g) in
    let n : suc k ≡ k + 1 = omega arith in
    (e ∙ ap (λ ts. before ++ ts) (sym m.0 ∙ ap (λ j. take j all) n), h ∙ g ∙ sym m.1 ∙ ap (λ j. drop j all) n)
