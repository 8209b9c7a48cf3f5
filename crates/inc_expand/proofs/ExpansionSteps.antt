-- One level of an expansion, step by step: steps never run out, and units are never won.
use Rattle.std.proofs.Common.{◌≡◌, ℕ, zero, suc, Bool, true, false, List, [], ◌∷◌, ◌++◌, ◌+◌, ap, refl, ◌∙◌, ◌&&◌, ◌||◌, not, ◌==◌, ◌<◌, ◌≤◌, arith, length, take, drop, Option, Some, None, Result, Ok, Err, IfOk}
use Rattle.std.specs.Prelude.{nat_lt, if◌then◌else◌, option_map, ⊤}
use Rattle.std.proofs.lemmas.List.{length-append, length-drop, take-append-drop}
use Rattle.std.proofs.lemmas.Bool.{ltb-false}
use Rattle.inc_macro.specs.Results.{◌>>=◌}
use Rattle.inc_token.specs.declared.kinds.Kind.{Kind}
use Rattle.inc_macro.specs.Macros.{Definition, Params, definition_of, is_identifier_kind}
use Rattle.inc_expand.specs.declared.faults.ExpandFault.{ExpandFault}
use Rattle.inc_expand.specs.declared.faults.ExpandFault.TheVariants.{OverBudget}
use Rattle.inc_expand.specs.declared.rules.Rule.{Rule}
use Rattle.inc_expand.specs.Elements.{Element, elements_of}
use Rattle.inc_expand.specs.Expansion.{Expander, Carrier, Surroundings, Case, Passes, IsPredefined, IsObject, IsCall, Call, Argument, Content, Count, Fixed, Meter, union, only, intersection, replaced, treated, called, level, levels, case_of, call_behind, depth_after, is_close, taken_count, function_case, macro_case, name_case, is_asking, is_open, predefined, bound, expanded_arguments, expanded_argument, substituted, replacing, is_expanded_in, counted, spent, text_of, taken, rule_in}

-- a count costs nothing by itself
pub counted-units : (content : Content) (meter : Meter) → (counted content meter).units ≡ meter.units
counted-units (Fixed text) meter = refl
counted-units Count meter = refl

-- two expanders agree at all smaller sums of units and length
Agree : Expander → Expander → ℕ → Type 0
Agree a b m = (meter : Meter) (ts : List Carrier) → meter.units + length ts < m → a meter ts ≡ b meter ts

replaced_agree : (a b : Expander) (meter : Meter) (new rest : List Carrier) → Agree a b (meter.units + suc (length rest)) →
    replaced a meter new rest ≡ replaced b meter new rest
unfolding Agree
replaced_agree a b meter new rest h = go (nat_lt meter.units (1 + length new)) refl
  where
    go : (t : Bool) → nat_lt meter.units (1 + length new) ≡ t →
        (elim t as (λ _. Result (List Carrier × Meter) ExpandFault) [ true ↦ Err OverBudget | false ↦ a (spent (1 + length new) meter) (new ++ rest) ])
        ≡ (elim t as (λ _. Result (List Carrier × Meter) ExpandFault) [ true ↦ Err OverBudget | false ↦ b (spent (1 + length new) meter) (new ++ rest) ])
    go true e = refl
    go false e = h (spent (1 + length new) meter) (new ++ rest) (let k = ltb-false meter.units (1 + length new) e in omega (arith, length-append new rest))

-- what a case leaves is no longer than the list after the token
Shorter : List Carrier → Case → Type 0
Shorter ts (Passes front rest) = length rest ≤ length ts
Shorter ts (IsPredefined k content) = ⊤
Shorter ts (IsObject d) = ⊤
Shorter ts (IsCall d p behind) = length behind ≤ length ts

function_shorter : (d : Definition) (p : Params) (t : Carrier) (ts : List Carrier) → Shorter ts (function_case d p t ts)
unfolding Shorter
function_shorter d p t [] = omega arith
function_shorter d p t (u ∷ us) = go (is_open u)
  where
    go : (b : Bool) → Shorter (u ∷ us) (if b then IsCall d p us else Passes (t ∷ []) (u ∷ us))
    go true = omega arith
    go false = omega arith

macro_shorter : (t : Carrier) (ts : List Carrier) (d : Option Definition) → Shorter ts (macro_case t ts d)
unfolding Shorter
macro_shorter t ts None = omega arith
macro_shorter t ts (Some d) = go d.params
  where
    go : (p : Option Params) → Shorter ts (elim p as (λ _. Case) [ None ↦ IsObject d | Some q ↦ function_case d q t ts ])
    go None = tt
    go (Some q) = function_shorter d q t ts

name_shorter : (s : Surroundings) (t : Carrier) (ts : List Carrier) (p : Option (List ℕ × Kind × Content)) → Shorter ts (name_case s t ts p)
unfolding Shorter
name_shorter s t ts (Some p) = tt
name_shorter s t ts None = macro_shorter t ts (definition_of t.spelling s.table)

case_shorter : (s : Surroundings) (t : Carrier) (ts : List Carrier) → Shorter ts (case_of s t ts)
unfolding Shorter
case_shorter s t ts = go (is_asking s.mode s.table.language t) (not (is_identifier_kind t.kind) || t.hidden t.spelling)
  where
    go : (a b : Bool) → Shorter ts (if a then Passes (t ∷ take (taken_count t.spelling ts) ts) (drop (taken_count t.spelling ts) ts) else
        if b then Passes (t ∷ []) ts else name_case s t ts (predefined s t.line t.spelling))
    go true b = omega (arith, length-drop (taken_count t.spelling ts) ts)
    go false true = omega arith
    go false false = name_shorter s t ts (predefined s t.line t.spelling)

rest_length : Option Call → ℕ
rest_length None = 0
rest_length (Some c) = length c.rest

-- a call after its `(` leaves less
pub call_shorter : (deep : ℕ) (ts : List Carrier) (c : Call) → call_behind deep ts ≡ Some c → length c.rest < length ts
unfolding rest_length
call_shorter deep [] c e = cc
call_shorter deep (t ∷ ts) c e =
    go (is_close t && (deep == 0)) (call_behind (depth_after deep t) ts) refl e (λ d f. call_shorter (depth_after deep t) ts d f)
  where
    go : (b : Bool) (more : Option Call) → call_behind (depth_after deep t) ts ≡ more →
        (if b then Some (record { inside = []; close = t; rest = ts }) else option_map (λ (d : Call). record d { inside = t ∷ d.inside }) more) ≡ Some c →
        ((d : Call) → call_behind (depth_after deep t) ts ≡ Some d → length d.rest < length ts) →
        length c.rest < suc (length ts)
    go true more f g r = let k = ap rest_length g in omega arith
    go false None f g r = cc
    go false (Some d) f g r = let k = ap rest_length g in let l = r d f in omega arith

-- never more units than before
unfoldable pub SpendsOnly : Expander → Type 0
SpendsOnly d = (meter : Meter) (ts : List Carrier) → IfOk (d meter ts) (λ r. r.1.units ≤ meter.units)

-- what follows two equal steps
then_same : {A B : Type 0} (r : Result A ExpandFault) (P : A → Type 0) (f g : A → Result B ExpandFault) →
    IfOk r P → ((x : A) → P x → f x ≡ g x) → (r >>= f) ≡ (r >>= g)
then_same (Ok x) P f g h k = k x h
then_same (Err e) P f g h k = refl

always : {A : Type 0} (r : Result A ExpandFault) → IfOk r (λ x. ⊤)
always (Ok x) = tt
always (Err e) = tt

argument_spends : (d : Expander) (es : List Element) (meter : Meter) (n : ℕ) (a : Argument) → SpendsOnly d → IfOk (expanded_argument d es meter n a) (λ r. r.1.units ≤ meter.units)
unfolding SpendsOnly
argument_spends d es meter n a h = go (is_expanded_in es n)
  where
    ok : (r : Result (List Carrier × Meter) ExpandFault) → IfOk r (λ x. x.1.units ≤ meter.units) →
        IfOk {T = Argument × Meter} (r >>= (λ e. Ok (record a { expanded = e.0 }, e.1))) (λ x. x.1.units ≤ meter.units)
    ok (Ok x) k = k
    ok (Err e) k = tt

    go : (b : Bool) → IfOk (elim b as (λ _. Result (Argument × Meter) ExpandFault) [ true ↦ d meter a.written >>= (λ e. Ok (record a { expanded = e.0 }, e.1)) | false ↦ Ok (a, meter) ]) (λ x. x.1.units ≤ meter.units)
    go true = ok (d meter a.written) (h meter a.written)
    go false = omega arith

arguments_spend : (d : Expander) (es : List Element) (meter : Meter) (n : ℕ) (as' : List Argument) → SpendsOnly d → IfOk (expanded_arguments d es meter n as') (λ r. r.1.units ≤ meter.units)
arguments_spend d es meter n [] h = omega arith
arguments_spend d es meter n (a ∷ as') h = first (expanded_argument d es meter n a) (argument_spends d es meter n a h) (λ u. arguments_spend d es u (suc n) as' h)
  where
    rest : (x : Argument × Meter) → x.1.units ≤ meter.units → (r : Result (List Argument × Meter) ExpandFault) → IfOk r (λ y. y.1.units ≤ x.1.units) →
        IfOk {T = List Argument × Meter} (r >>= (λ y. Ok (x.0 ∷ y.0, y.1))) (λ y. y.1.units ≤ meter.units)
    rest x k (Ok y) l = omega arith
    rest x k (Err e) l = tt

    first : (r : Result (Argument × Meter) ExpandFault) → IfOk r (λ x. x.1.units ≤ meter.units) → ((u : Meter) → IfOk (expanded_arguments d es u (suc n) as') (λ y. y.1.units ≤ u.units)) →
        IfOk {T = List Argument × Meter} (r >>= (λ e. expanded_arguments d es e.1 (suc n) as' >>= (λ y. Ok (e.0 ∷ y.0, y.1)))) (λ y. y.1.units ≤ meter.units)
    first (Ok x) k r = rest x k (expanded_arguments d es x.1 (suc n) as') (r x.1)
    first (Err e) k r = tt

called_agree : (rule : Rule) (d a b : Expander) (t : Carrier) (meter : Meter) (n : ℕ) (m : Definition) (p : Params) (c : Option Call) → SpendsOnly d → rest_length c ≤ n →
    Agree a b (meter.units + suc n) → called rule d a t meter m p c ≡ called rule d b t meter m p c
unfolding Agree SpendsOnly rest_length
called_agree rule d a b t meter n m p None h l k = refl
called_agree rule d a b t meter n m p (Some c) h l k =
    then_same (bound p (taken rule c.close.hidden c.inside)) (λ args. ⊤) _ _ (always (bound p (taken rule c.close.hidden c.inside))) (λ args _.
    then_same (expanded_arguments d (elements_of m) meter 0 args) (λ e. e.1.units ≤ meter.units) _ _
    (arguments_spend d (elements_of m) meter 0 args h) (λ e spent_only.
    then_same (substituted rule e.0 (elements_of m)) (λ new. ⊤) _ _ (always (substituted rule e.0 (elements_of m))) (λ new _.
    replaced_agree a b e.1 (replacing rule t (union (only m.name) (intersection t.hidden c.close.hidden)) new) c.rest
    (λ u ts less. k u ts (omega arith)))))

treated_agree : (rule : Rule) (d a b : Expander) (t : Carrier) (meter : Meter) (ts : List Carrier) (c : Case) → SpendsOnly d → Shorter ts c →
    Agree a b (meter.units + suc (length ts)) → treated rule d a t meter ts c ≡ treated rule d b t meter ts c
unfolding Agree Shorter rest_length
treated_agree rule d a b t meter ts (Passes front rest) h l k = ap (λ r. r >>= (λ x. Ok (front ++ x.0, x.1))) (k meter rest (omega arith))
treated_agree rule d a b t meter ts (IsPredefined kind content) h l k =
    replaced_agree a b (counted content meter)
    (record t { kind = kind; spelling = text_of meter content; hidden = union (only t.spelling) t.hidden } ∷ []) ts
    (λ u us less. k u us (omega (arith, counted-units content meter, less)))
treated_agree rule d a b t meter ts (IsObject m) h l k =
    then_same (substituted rule [] (elements_of m)) (λ new. ⊤) _ _ (always (substituted rule [] (elements_of m)))
    (λ new _. replaced_agree a b meter (replacing rule t (union (only m.name) t.hidden) new) ts k)
treated_agree rule d a b t meter ts (IsCall m p behind) h l k =
    called_agree rule d a b t meter (length ts) m p (call_behind 0 behind) h (short (call_behind 0 behind) refl) k
  where
    short : (c : Option Call) → call_behind 0 behind ≡ c → rest_length c ≤ length ts
    short None e = omega arith
    short (Some c) e = let s = call_shorter 0 behind c e in omega arith

-- steps above units plus tokens never run out
enough_steps : (s : Surroundings) (d : Expander) → SpendsOnly d → (n m : ℕ) (meter : Meter) (ts : List Carrier) →
    meter.units + length ts < n → meter.units + length ts < m → level s d n meter ts ≡ level s d m meter ts
unfolding Agree
enough_steps s d h zero m meter ts l k = absurd (omega arith)
enough_steps s d h (suc n) zero meter ts l k = absurd (omega arith)
enough_steps s d h (suc n) (suc m) meter [] l k = refl
enough_steps s d h (suc n) (suc m) meter (t ∷ ts) l k =
    treated_agree (rule_in s) d (level s d n) (level s d m) t meter ts (case_of s t ts) h (case_shorter s t ts)
    (λ u us less. enough_steps s d h n m u us (omega arith) (omega arith))

---- what is left

-- a step that keeps the bound
then_spends : {A : Type 0} (r : Result A ExpandFault) (P : A → Type 0) (f : A → Result (List Carrier × Meter) ExpandFault) (n : ℕ) →
    IfOk r P → ((x : A) → P x → IfOk (f x) (λ y. y.1.units ≤ n)) → IfOk (r >>= f) (λ y. y.1.units ≤ n)
then_spends (Ok x) P f n h k = k x h
then_spends (Err e) P f n h k = tt

weaker : (r : Result (List Carrier × Meter) ExpandFault) (m n : ℕ) → m ≤ n → IfOk r (λ y. y.1.units ≤ m) → IfOk r (λ y. y.1.units ≤ n)
weaker (Ok x) m n l h = omega (arith, h)
weaker (Err e) m n l h = tt

replaced_spends : (again : Expander) → SpendsOnly again → (meter : Meter) (new rest : List Carrier) → IfOk (replaced again meter new rest) (λ y. y.1.units ≤ meter.units)
unfolding SpendsOnly
replaced_spends again h meter new rest = go (nat_lt meter.units (1 + length new))
  where
    go : (t : Bool) → IfOk (elim t as (λ _. Result (List Carrier × Meter) ExpandFault) [ true ↦ Err OverBudget | false ↦ again (spent (1 + length new) meter) (new ++ rest) ]) (λ y. y.1.units ≤ meter.units)
    go true = tt
    go false = weaker (again (spent (1 + length new) meter) (new ++ rest)) _ meter.units (omega arith) (h (spent (1 + length new) meter) (new ++ rest))

called_spends : (rule : Rule) (d again : Expander) → SpendsOnly d → SpendsOnly again → (t : Carrier) (meter : Meter) (m : Definition) (p : Params) (c : Option Call) →
    IfOk (called rule d again t meter m p c) (λ y. y.1.units ≤ meter.units)
called_spends rule d again h k t meter m p None = tt
called_spends rule d again h k t meter m p (Some c) =
    then_spends (bound p (taken rule c.close.hidden c.inside)) (λ args. ⊤) _ meter.units (always (bound p (taken rule c.close.hidden c.inside))) (λ args _.
    then_spends (expanded_arguments d (elements_of m) meter 0 args) (λ e. e.1.units ≤ meter.units) _ meter.units (arguments_spend d (elements_of m) meter 0 args h) (λ e spent_only.
    then_spends (substituted rule e.0 (elements_of m)) (λ new. ⊤) _ meter.units (always (substituted rule e.0 (elements_of m))) (λ new _.
    weaker (replaced again e.1 (replacing rule t (union (only m.name) (intersection t.hidden c.close.hidden)) new) c.rest) e.1.units meter.units spent_only
    (replaced_spends again k e.1 (replacing rule t (union (only m.name) (intersection t.hidden c.close.hidden)) new) c.rest))))

treated_spends : (rule : Rule) (d again : Expander) → SpendsOnly d → SpendsOnly again → (t : Carrier) (meter : Meter) (ts : List Carrier) (c : Case) →
    IfOk (treated rule d again t meter ts c) (λ y. y.1.units ≤ meter.units)
unfolding SpendsOnly
treated_spends rule d again h k t meter ts (Passes front rest) =
    then_spends (again meter rest) (λ r. r.1.units ≤ meter.units) _ meter.units (k meter rest) (λ r l. l)
treated_spends rule d again h k t meter ts (IsPredefined kind content) =
    weaker (replaced again (counted content meter)
    (record t { kind = kind; spelling = text_of meter content; hidden = union (only t.spelling) t.hidden } ∷ []) ts)
    (counted content meter).units meter.units (omega (arith, counted-units content meter))
    (replaced_spends again k (counted content meter)
    (record t { kind = kind; spelling = text_of meter content; hidden = union (only t.spelling) t.hidden } ∷ []) ts)
treated_spends rule d again h k t meter ts (IsObject m) =
    then_spends (substituted rule [] (elements_of m)) (λ new. ⊤) _ meter.units (always (substituted rule [] (elements_of m)))
    (λ new _. replaced_spends again k meter (replacing rule t (union (only m.name) t.hidden) new) ts)
treated_spends rule d again h k t meter ts (IsCall m p behind) = called_spends rule d again h k t meter m p (call_behind 0 behind)

level_spends : (s : Surroundings) (d : Expander) → SpendsOnly d → (steps : ℕ) → SpendsOnly (level s d steps)
unfolding SpendsOnly
level_spends s d h zero meter ts = tt
level_spends s d h (suc steps) meter [] = omega arith
level_spends s d h (suc steps) meter (t ∷ ts) = treated_spends (rule_in s) d (level s d steps) h (level_spends s d h steps) t meter ts (case_of s t ts)

pub levels_spend : (s : Surroundings) (n : ℕ) → SpendsOnly (levels s n)
unfolding SpendsOnly
levels_spend s zero meter ts = tt
levels_spend s (suc n) meter ts = level_spends s (levels s n) (levels_spend s n) (length ts + meter.units + 1) meter ts

---- one step of a list, whatever the steps that are left

pub one_step : (s : Surroundings) (n : ℕ) (meter : Meter) (t : Carrier) (ts : List Carrier) →
    levels s (suc n) meter (t ∷ ts) ≡ treated (rule_in s) (levels s n) (levels s (suc n)) t meter ts (case_of s t ts)
unfolding Agree
one_step s n meter t ts =
    let e : length (t ∷ ts) + meter.units + 1 ≡ suc (length ts + meter.units + 1) = omega arith in
    ap (λ m. level s (levels s n) m meter (t ∷ ts)) e
    ∙ treated_agree (rule_in s) (levels s n) (level s (levels s n) (length ts + meter.units + 1)) (levels s (suc n)) t meter ts (case_of s t ts) (levels_spend s n) (case_shorter s t ts)
    (λ u us less. enough_steps s (levels s n) (levels_spend s n) (length ts + meter.units + 1) (length us + u.units + 1) u us (omega arith) (omega arith))

pub no_step : (s : Surroundings) (n : ℕ) (meter : Meter) → levels s (suc n) meter [] ≡ Ok ([], meter)
no_step s n meter = let e : length {A = Carrier} [] + meter.units + 1 ≡ suc meter.units = omega arith in ap (λ m. level s (levels s n) m meter []) e

---- lists without names to replace

-- no definition and no predefined name has this spelling
abbrev pub IsPlain : Surroundings → Carrier → Type 0
IsPlain s t = (predefined s t.line t.spelling ≡ None) × (definition_of t.spelling s.table ≡ None)

abbrev pub ArePlain : Surroundings → List Carrier → Type 0
ArePlain s [] = ⊤
ArePlain s (t ∷ ts) = IsPlain s t × ArePlain s ts

plain-drop : (s : Surroundings) (k : ℕ) (ts : List Carrier) → ArePlain s ts → ArePlain s (drop k ts)
plain-drop s zero ts h = h
plain-drop s (suc k) [] h = tt
plain-drop s (suc k) (t ∷ ts) h = plain-drop s k ts h.1

-- such a token passes, and others with it
plain-case : (s : Surroundings) (t : Carrier) (ts : List Carrier) → IsPlain s t →
    (k : ℕ) × (case_of s t ts ≡ Passes (t ∷ take k ts) (drop k ts))
plain-case s t ts h = go (is_asking s.mode s.table.language t) (not (is_identifier_kind t.kind) || t.hidden t.spelling)
  where
    name : name_case s t ts (predefined s t.line t.spelling) ≡ Passes (t ∷ []) ts
    name = ap (name_case s t ts) h.0 ∙ ap (macro_case t ts) h.1

    go : (a b : Bool) → (k : ℕ) × ((if a then Passes (t ∷ take (taken_count t.spelling ts) ts) (drop (taken_count t.spelling ts) ts) else
        if b then Passes (t ∷ []) ts else name_case s t ts (predefined s t.line t.spelling)) ≡ Passes (t ∷ take k ts) (drop k ts))
    go true b = (taken_count t.spelling ts, refl)
    go false true = (0, refl)
    go false false = (0, name)

pub plain-levels : (s : Surroundings) (n m : ℕ) (meter : Meter) (ts : List Carrier) → length ts < m → ArePlain s ts → levels s (suc n) meter ts ≡ Ok (ts, meter)
plain-levels s n zero meter ts l h = absurd (omega arith)
plain-levels s n (suc m) meter [] l h = no_step s n meter
plain-levels s n (suc m) meter (t ∷ ts) l h =
    one_step s n meter t ts ∙ ap (treated (rule_in s) (levels s n) (levels s (suc n)) t meter ts) (plain-case s t ts h.0).1
    ∙ ap (λ r. r >>= put) (plain-levels s n m meter (drop k ts) (omega (arith, length-drop k ts)) (plain-drop s k ts h.1))
    ∙ ap (λ us. Ok (t ∷ us, meter)) (take-append-drop k ts)
  where
    k : ℕ
    k = (plain-case s t ts h.0).0

    put : List Carrier × Meter → Result (List Carrier × Meter) ExpandFault
    put x = Ok ((t ∷ take k ts) ++ x.0, x.1)
