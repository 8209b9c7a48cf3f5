-- Slots that are taken stay taken in a list that grows, and where one of them is set.
use Rattle.std.proofs.Common.{◌≡◌, ℕ, ◌<◌, ◌≤◌, ◌++◌, Bool, true, false, refl, subst, List, length, sym, ap, ◌∙◌, arith, get_or, if◌then◌else◌, slice_set, take, nat_lt, eqb, ltb}
use Rattle.std.proofs.lemmas.Bool.{eq-eqb, eqb-true, lt-ltb, ltb-false, ltb-true, true≢false}
use Rattle.std.proofs.lemmas.List.{get_or_append_left, get_or_past, get_or-set_other, get_or-set_same, take_all}
use Rattle.inc_macro.specs.NameSlots.{is_taken}

pub kept-behind : (xs ys : List ℕ) (n other : ℕ) → length xs ≤ n → is_taken xs other ≡ true → is_taken (take n xs ++ ys) other ≡ true
kept-behind xs ys n other short taken = by (ltb other (length xs)) refl
  where
    by : (b : Bool) → ltb other (length xs) ≡ b → is_taken (take n xs ++ ys) other ≡ true
    by true e = ap (λ l. is_taken (l ++ ys) other) (take_all n xs short) ∙ (ap (nat_lt 0) (get_or_append_left xs ys 0 other (ltb-true other (length xs) e)) ∙ taken)
    by false e =
        let none : get_or xs other 0 ≡ 0 = get_or_past xs other 0 (ltb-false other (length xs) e) in
        absurd (true≢false (sym taken ∙ ap (nat_lt 0) none))

pub kept-set : (xs : List ℕ) (at v other : ℕ) → at < length xs → 1 ≤ v → is_taken xs other ≡ true → is_taken (slice_set xs at v) other ≡ true
kept-set xs at v other within some taken = by (eqb other at) refl
  where
    by : (b : Bool) → eqb other at ≡ b → is_taken (slice_set xs at v) other ≡ true
    by true e = subst (λ o. is_taken (slice_set xs at v) o ≡ true) (sym (eqb-true other at e)) (ap (nat_lt 0) (get_or-set_same xs at v 0 within) ∙ lt-ltb 0 v (omega (arith, some)))
    by false e = ap (nat_lt 0) (get_or-set_other xs at other v 0 (λ same. true≢false (sym (eq-eqb other at same) ∙ e))) ∙ taken

pub kept-grown : (xs ys new : List ℕ) (b : Bool) (n other : ℕ) → new ≡ (if b then take n xs ++ ys else xs) → length xs ≤ n → is_taken xs other ≡ true → is_taken new other ≡ true
kept-grown xs ys new true n other is short taken = ap (λ l. is_taken l other) is ∙ kept-behind xs ys n other short taken
kept-grown xs ys new false n other is short taken = ap (λ l. is_taken l other) is ∙ taken
