-- How many tokens a call and its arguments have.
use Rattle.std.proofs.Common.{◌≡◌, ℕ, suc, Bool, true, false, ◌&&◌, ◌==◌, ◌+◌, ◌-◌, ◌≤◌, if◌then◌else◌, nat_lt, List, [], ◌∷◌, ◌++◌, map, drop, length, is_some, Option, Some, None, option_map, Result, Ok, Err, refl, ap, arith}
use Rattle.std.proofs.lemmas.List.{length-map, length-drop}
use Rattle.inc_macro.specs.Macros.{Params, parameter_names}
use Rattle.inc_expand.specs.declared.carried.Carried.{Carried}
use Rattle.inc_expand.specs.declared.faults.ExpandFault.{ExpandFault}
use Rattle.inc_expand.specs.declared.faults.ExpandFault.TheVariants.{ArgumentCount}
use Rattle.inc_expand.specs.declared.rules.Rule.{Rule}
use Rattle.inc_expand.specs.declared.rules.Rule.TheVariants.{BySets, ByContexts}
use Rattle.inc_expand.specs.Sets.{Sets}
use Rattle.inc_expand.specs.Arguments.{ArgumentValue, argument_values}
use Rattle.inc_expand.specs.Carriers.{carrier, carriers}
use Rattle.inc_expand.specs.Expansion.{Argument, Call, Carrier, arguments, bound, call_behind, depth_after, filled_up, left_out, is_close, is_comma, onto_first, split_at_commas, unexpanded, Names, hidden_at, taken}
use Rattle.inc_expand.specs.Frames.{steps_of}

---- a call

of_call : Option Call → ℕ
of_call None = 0
of_call (Some c) = length c.inside + suc (length c.rest)

call_length : (deep : ℕ) (ts : List Carrier) (c : Call) → call_behind deep ts ≡ Some c → length c.inside + suc
    (length c.rest) ≡ length ts
unfolding of_call
call_length deep [] c e = cc
call_length deep (t ∷ ts) c e = go (is_close t && (deep == 0)) (call_behind (depth_after deep t) ts) refl e
    (λ d f. call_length (depth_after deep t) ts d f)
  where
    go : (b : Bool) (more : Option Call) → call_behind (depth_after deep t) ts ≡ more →
        (if b then Some (record { inside = []; close = t; rest = ts }) else option_map
        (λ (d : Call). record d { inside = t ∷ d.inside }) more) ≡ Some c →
        ((d : Call) → call_behind (depth_after deep t) ts ≡ Some d → length d.inside + suc (length d.rest)
        ≡ length ts) →
        length c.inside + suc (length c.rest) ≡ suc (length ts)
    go true more f g r = let k = ap of_call g in omega (arith, k)
    go false None f g r = cc
    go false (Some d) f g r = let k = ap of_call g in let l = r d f in omega (arith, k, l)

---- its arguments

-- the tokens of lists, and one more for each
total : List (List Carrier) → ℕ
total [] = 0
total (a ∷ as') = suc (length a + total as')

total-onto : (t : Carrier) (as' : List (List Carrier)) (n : ℕ) → total as' ≡ suc n → total (onto_first t as') ≡ suc
    (suc n)
unfolding total
total-onto t [] n e = absurd (omega (arith, e))
total-onto t (a ∷ as') n e = omega (arith, e)

split-total : (most deep : ℕ) (ts : List Carrier) → total (split_at_commas most deep ts) ≡ suc (length ts)
unfolding total
split-total most deep [] = refl
split-total most deep (t ∷ ts) = go (is_comma t && ((deep == 0) && nat_lt 0 most))
    (λ m. split-total m (depth_after deep t) ts)
  where
    go : (b : Bool) → ((m : ℕ) → total (split_at_commas m (depth_after deep t) ts) ≡ suc (length ts)) →
        total (let o = split_at_commas (if b then most - 1 else most)
        (depth_after deep t) ts in if b then [] ∷ o else onto_first t o) ≡ suc (suc (length ts))
    go true r = let k = r (most - 1) in omega (arith, k)
    go false r = total-onto t (split_at_commas most (depth_after deep t) ts) (length ts) (r most)

arguments-total : (p : Params) (ts : List Carrier) → total (arguments p ts) ≤ suc (length ts)
unfolding total
arguments-total p [] = go (length p.names == 0)
  where
    go : (b : Bool) → total (if b then [] else [] ∷ []) ≤ 1
    go true = omega arith
    go false = omega arith
arguments-total p (t ∷ ts) = let k = split-total (if is_some p.variable then length p.names else length (t ∷ ts)) 0
    (t ∷ ts) in omega (arith, k)

total_of : List Argument → ℕ
total_of [] = 0
total_of (a ∷ as') = suc (length a.written + total_of as')

total-append : (as' bs : List Argument) → total_of (as' ++ bs) ≡ total_of as' + total_of bs
unfolding total_of
total-append [] bs = omega arith
total-append (a ∷ as') bs = let k = total-append as' bs in omega (arith, k)

filled-total : (p : Params) (as' : List Argument) → total_of (filled_up p as') ≤ suc (total_of as')
unfolding total_of
filled-total p as' = go (is_some p.variable && (length as' == length p.names))
  where
    go : (b : Bool) → total_of (if b then as' ++ left_out ∷ [] else as') ≤ suc (total_of as')
    go true = let k = total-append as' (left_out ∷ []) in omega (arith, k)
    go false = omega arith

unexpanded-total : (as' : List (List Carrier)) → total_of (map unexpanded as') ≡ total as'
unfolding total total_of
unexpanded-total [] = refl
unexpanded-total (a ∷ as') = ap (λ n. suc (length a + n)) (unexpanded-total as')

steps-total : (s : Sets) (as' : List ArgumentValue) → steps_of as' ≡ total_of (argument_values s as')
unfolding total_of
steps-total s [] = refl
steps-total s (a ∷ as') = let n = length-map a.written (carrier s) in let k = steps-total s as' in omega (arith, n, k)

total_in : Result (List Argument) ExpandFault → ℕ
total_in (Ok as') = total_of as'
total_in (Err fault) = 0

bound-total : (p : Params) (inside : List Carrier) (args : List Argument) → bound p inside ≡ Ok args →
    total_of args ≤ suc (suc (length inside))
unfolding total_in
bound-total p inside args e =
    let lists : List (List Carrier) = arguments p inside in
    go (length (filled_up p (map unexpanded lists)) == length (parameter_names (Some p))) e
    (arguments-total p inside) (filled-total p (map unexpanded lists)) (unexpanded-total lists)
  where
    go : (b : Bool) → (if b then Ok (filled_up p (map unexpanded (arguments p inside))) else Err ArgumentCount)
        ≡ Ok args →
        total (arguments p inside) ≤ suc (length inside) →
        total_of (filled_up p (map unexpanded (arguments p inside))) ≤ suc
        (total_of (map unexpanded (arguments p inside))) →
        total_of (map unexpanded (arguments p inside)) ≡ total (arguments p inside) →
        total_of args ≤ suc (suc (length inside))
    go true f n k j = let m = ap total_in f in omega (arith, m, n, k, j)
    go false f n k j = cc

length-taken : (rule : Rule) (names : Names) (ts : List Carrier) → length (taken rule names ts) ≡ length ts
length-taken BySets names ts = refl
length-taken ByContexts names ts = length-map ts (λ (t : Carrier). record t { hidden = hidden_at ByContexts names t })

-- a call after a name, and its arguments
pub taken-steps : (rule : Rule) (s : Sets) (p : Params) (list more : List Carried) (args : List ArgumentValue)
    (inside : List Carrier) (close : Carrier) →
    call_behind 0 (drop 1 (carriers s list)) ≡ Some
    (record { inside = inside; close = close; rest = carriers s more }) → bound p (taken rule close.hidden inside) ≡ Ok (argument_values s args) →
    length more + steps_of args ≤ length list
taken-steps rule s p list more args inside close call are =
    let c : Call = record { inside = inside; close = close; rest = carriers s more } in
    let n = call_length 0 (drop 1 (carriers s list)) c call in
    let k = bound-total p (taken rule close.hidden inside) (argument_values s args) are in
    let t = length-taken rule close.hidden inside in
    let j = steps-total s args in
    let a = length-map list (carrier s) in
    let b = length-map more (carrier s) in
    let d = length-drop 1 (carriers s list) in
    omega (arith, n, k, t, j, a, b, d)
