-- Arguments beyond the parameters: how a call is bound does not depend on whether they are split.
use Rattle.std.proofs.Common.{◌≡◌, ℕ, zero, suc, ◌-◌, ◌<◌, ◌≤◌, ◌⊎◌, inl, inr, Bool, true, false, ◌&&◌, ◌==◌, if◌then◌else◌, List, [], ◌∷◌, length, map, Option, Some, None, Result, Ok, Err, refl, sym, ap, subst, ◌∙◌, arith, eqb-true, nat_lt}
use Rattle.std.proofs.lemmas.Bool.{cond-false, lt-ltb, ltb-true, ltb-false}
use Rattle.std.proofs.lemmas.List.{length-map}
use Rattle.inc_macro.specs.Macros.{Params, Variable, parameter_names}
use Rattle.inc_expand.specs.Arguments.{few_arguments}
use Rattle.inc_expand.specs.Expansion.{Carrier, Argument, is_comma, depth_after, onto_first, split_at_commas, bound, filled_up, unexpanded}
use Rattle.inc_expand.specs.declared.faults.ExpandFault.{ExpandFault}
use Rattle.inc_expand.specs.declared.faults.ExpandFault.TheVariants.{ArgumentCount}

-- the lists, by whether the first token is a comma that splits
abbrev Put : Bool → Carrier → List (List Carrier) → List (List Carrier)
Put b t as' = if b then [] ∷ as' else onto_first t as'

put-some : (b : Bool) (t : Carrier) (as' : List (List Carrier)) → 1 ≤ length as' → 1 ≤ length (Put b t as')
put-some true t as' l = omega arith
put-some false t [] l = omega arith
put-some false t (a ∷ as') l = omega arith

-- there is one argument at least
split-some : (most deep : ℕ) (ts : List Carrier) → 1 ≤ length (split_at_commas most deep ts)
split-some most deep [] = omega arith
split-some most deep (t ∷ ts) =
    put-some (is_comma t && ((deep == 0) && nat_lt 0 most)) t _
    (split-some (if is_comma t && ((deep == 0) && nat_lt 0 most) then most - 1 else most) (depth_after deep t) ts)

onto-length : (t : Carrier) (as' : List (List Carrier)) → 1 ≤ length as' → length (onto_first t as') ≡ length as'
onto-length t [] l = absurd (omega (arith, l))
onto-length t (a ∷ as') l = refl

never : (b c : Bool) → (b && (c && false)) ≡ false
never true true = refl
never true false = refl
never false c = refl

-- and no more where no comma splits
split-one : (deep : ℕ) (ts : List Carrier) → length (split_at_commas 0 deep ts) ≡ 1
split-one deep [] = refl
split-one deep (t ∷ ts) = by (is_comma t && ((deep == 0) && nat_lt 0 0)) (never (is_comma t) (deep == 0)) (split-one (depth_after deep t) ts)
  where
    by : (b : Bool) → b ≡ false → length (split_at_commas 0 (depth_after deep t) ts) ≡ 1 →
        length (Put b t (split_at_commas (if b then 0 - 1 else 0) (depth_after deep t) ts)) ≡ 1
    by true e one = cc
    by false e one = onto-length t _ (split-some 0 (depth_after deep t) ts) ∙ one

-- where some comma may still split
more-left : (m deep : ℕ) (t : Carrier) (ts : List Carrier) → split_at_commas (suc m) deep (t ∷ ts)
    ≡ Put (is_comma t && ((deep == 0) && true)) t (split_at_commas (if is_comma t && ((deep == 0) && true) then suc m - 1 else suc m) (depth_after deep t) ts)
more-left m deep t ts =
    ap (λ b. Put (is_comma t && ((deep == 0) && b)) t (split_at_commas (if is_comma t && ((deep == 0) && b) then suc m - 1 else suc m) (depth_after deep t) ts))
    (lt-ltb 0 (suc m) (omega arith))

-- with a greater limit the same, or more of them
abbrev Grows : ℕ → List (List Carrier) → List (List Carrier) → Type 0
Grows m few all = (few ≡ all) ⊎ ((length few ≡ suc m) × (suc m ≤ length all))

grows-at : (m : ℕ) (as' bs cs ds : List (List Carrier)) → as' ≡ bs → cs ≡ ds → Grows m bs ds → Grows m as' cs
grows-at m as' bs cs ds e f g = subst (λ x. Grows m x cs) (sym e) (subst (λ x. Grows m bs x) (sym f) g)

grows : (m n deep : ℕ) (ts : List Carrier) → m ≤ n → Grows m (split_at_commas m deep ts) (split_at_commas n deep ts)
grows m n deep [] l = inl refl
grows zero n deep (t ∷ ts) l = inr (split-one deep (t ∷ ts), split-some n deep (t ∷ ts))
grows (suc m) zero deep (t ∷ ts) l = absurd (omega (arith, l))
grows (suc m) (suc n) deep (t ∷ ts) l =
    grows-at (suc m) _ _ _ _ (more-left m deep t ts) (more-left n deep t ts)
    (by (is_comma t && ((deep == 0) && true)) (suc m - 1) (suc n - 1) (omega arith) (omega arith) (grows m n (depth_after deep t) ts (omega (arith, l))) (grows (suc m) (suc n) (depth_after deep t) ts l))
  where
    beside : Grows m (split_at_commas m (depth_after deep t) ts) (split_at_commas n (depth_after deep t) ts) →
        Grows (suc m) ([] ∷ split_at_commas m (depth_after deep t) ts) ([] ∷ split_at_commas n (depth_after deep t) ts)
    beside (inl e) = inl (ap (λ as'. [] ∷ as') e)
    beside (inr e) = inr (omega (arith, e.0), omega (arith, e.1))

    within : Grows (suc m) (split_at_commas (suc m) (depth_after deep t) ts) (split_at_commas (suc n) (depth_after deep t) ts) →
        Grows (suc m) (onto_first t (split_at_commas (suc m) (depth_after deep t) ts)) (onto_first t (split_at_commas (suc n) (depth_after deep t) ts))
    within (inl e) = inl (ap (onto_first t) e)
    within (inr e) =
        let x = onto-length t _ (split-some (suc m) (depth_after deep t) ts) in
        let y = onto-length t _ (split-some (suc n) (depth_after deep t) ts) in
        inr (x ∙ e.0, omega (arith, e.1, y))

    by : (b : Bool) (p q : ℕ) → p ≡ m → q ≡ n → Grows m (split_at_commas m (depth_after deep t) ts) (split_at_commas n (depth_after deep t) ts) →
        Grows (suc m) (split_at_commas (suc m) (depth_after deep t) ts) (split_at_commas (suc n) (depth_after deep t) ts) →
        Grows (suc m) (Put b t (split_at_commas (if b then p else suc m) (depth_after deep t) ts))
        (Put b t (split_at_commas (if b then q else suc n) (depth_after deep t) ts))
    by true p q e f less same = rw (e, f) (beside less)
    by false p q e f less same = within same

-- a limit that no list of this length reaches
unlimited : (m n deep : ℕ) (ts : List Carrier) → length ts ≤ m → length ts ≤ n → split_at_commas m deep ts ≡ split_at_commas n deep ts
unlimited m n deep [] k l = refl
unlimited zero n deep (t ∷ ts) k l = absurd (omega (arith, k))
unlimited (suc m) zero deep (t ∷ ts) k l = absurd (omega (arith, l))
unlimited (suc m) (suc n) deep (t ∷ ts) k l =
    more-left m deep t ts
    ∙ by (is_comma t && ((deep == 0) && true)) (suc m - 1) (suc n - 1) (omega arith) (omega arith) (unlimited m n (depth_after deep t) ts (omega (arith, k)) (omega (arith, l)))
    (unlimited (suc m) (suc n) (depth_after deep t) ts (omega (arith, k)) (omega (arith, l)))
    ∙ sym (more-left n deep t ts)
  where
    by : (b : Bool) (p q : ℕ) → p ≡ m → q ≡ n → split_at_commas m (depth_after deep t) ts ≡ split_at_commas n (depth_after deep t) ts →
        split_at_commas (suc m) (depth_after deep t) ts ≡ split_at_commas (suc n) (depth_after deep t) ts →
        Put b t (split_at_commas (if b then p else suc m) (depth_after deep t) ts)
        ≡ Put b t (split_at_commas (if b then q else suc n) (depth_after deep t) ts)
    by true p q e f less same = rw (e, f) (ap (λ as'. [] ∷ as') less)
    by false p q e f less same = ap (onto_first t) same

---- a call

-- as many arguments as are wanted, or a fault
abbrev pub if_count : ℕ → List Argument → Result (List Argument) ExpandFault
if_count n args = if length args == n then Ok args else Err ArgumentCount

refused : (n : ℕ) (args : List (List Carrier)) → suc n ≤ length args → if_count n (map unexpanded args) ≡ Err ArgumentCount
refused n args l = cond-false (length (map unexpanded args) == n) _ _ (by (length (map unexpanded args) == n) refl)
  where
    by : (b : Bool) → (length (map unexpanded args) == n) ≡ b → b ≡ false
    by true e = let f = eqb-true _ _ e in let k = length-map args unexpanded in absurd (omega (arith, l, f, k))
    by false e = refl

counted : (n : ℕ) (few all : List (List Carrier)) → Grows n few all → if_count n (map unexpanded few) ≡ if_count n (map unexpanded all)
counted n few all (inl e) = ap (λ ls. if_count n (map unexpanded ls)) e
counted n few all (inr e) = refused n few (omega (arith, e.0)) ∙ sym (refused n all e.1)

limited : (n deep : ℕ) (ts : List Carrier) → if_count n (map unexpanded (split_at_commas n deep ts)) ≡ if_count n (map unexpanded (split_at_commas (length ts) deep ts))
limited n deep ts = by (nat_lt (length ts) n) refl
  where
    by : (b : Bool) → nat_lt (length ts) n ≡ b → if_count n (map unexpanded (split_at_commas n deep ts)) ≡ if_count n (map unexpanded (split_at_commas (length ts) deep ts))
    by true e =
        let l : length ts < n = ltb-true (length ts) n e in
        ap (λ ls. if_count n (map unexpanded ls)) (unlimited n (length ts) deep ts (omega (arith, l)) (omega arith))
    by false e = counted n _ _ (grows n (length ts) deep ts (ltb-false (length ts) n e))

-- the same binding, without the further ones
pub few-bound : (p : Params) (ts : List Carrier) → if_count (length (parameter_names (Some p))) (filled_up p (map unexpanded (few_arguments p ts))) ≡ bound p ts
few-bound p [] = refl
few-bound p (t ∷ ts) = by p.variable
  where
    given : Option Variable → Params
    given v = record { names = p.names; variable = v }

    by : (v : Option Variable) → if_count (length (parameter_names (Some (given v)))) (filled_up (given v) (map unexpanded (few_arguments (given v) (t ∷ ts)))) ≡ bound (given v) (t ∷ ts)
    by (Some v) = refl
    by None = limited (length p.names) 0 (t ∷ ts)
