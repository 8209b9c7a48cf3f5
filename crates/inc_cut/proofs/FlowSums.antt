-- Sums over the numbers of edges, and what a change of one flow does to them.
use Rattle.std.proofs.Common.{◌≡◌, ℕ, ◌+◌, ◌*◌, ◌-◌, ◌<◌, ◌≤◌, Bool, true, false, List, length, zero, suc, inl, inr, refl, ap, ◌∙◌, arith}
use Rattle.std.specs.Prelude.{slice_set, sum_by, if◌then◌else◌}
use Rattle.std.specs.List.{range_with_len}
use Rattle.std.proofs.lemmas.List.{get_or-set_same, get_or-set_other}
use Rattle.std.proofs.lemmas.List.Sums.{sum_by-cons}
use Rattle.std.proofs.lemmas.Bool.{cases_eq}
use Rattle.inc_cut.specs.Flows.{flow_by, flow_on}

-- over numbers of which each has the same share
pub sum_range_same : (f h : ℕ → ℕ) (a n : ℕ) → ((i : ℕ) → a ≤ i → i < a + n → f i ≡ h i) → sum_by f (range_with_len a n) ≡ sum_by h (range_with_len a n)
sum_range_same f h a zero same = refl
sum_range_same f h a (suc n) same =
    let x = sum_by-cons f a (range_with_len (a + 1) n) in
    let y = sum_by-cons h a (range_with_len (a + 1) n) in
    let e = same a (omega arith) (omega arith) in
    let r = sum_range_same f h (a + 1) n (λ i low high. same i (omega arith) (omega arith)) in
    omega arith

-- over numbers of which all but one have the same share
pub sum_range_at : (f h : ℕ → ℕ) (e a n : ℕ) → ((i : ℕ) → (i ≡ e → ⊥) → f i ≡ h i) → a ≤ e → e < a + n
    → sum_by f (range_with_len a n) + h e ≡ sum_by h (range_with_len a n) + f e
sum_range_at f h e a zero same low high = absurd (omega arith)
sum_range_at f h e a (suc n) same low high =
    let x = sum_by-cons f a (range_with_len (a + 1) n) in
    let y = sum_by-cons h a (range_with_len (a + 1) n) in
    elim (cases_eq a e) [
      | inl is ↦
          let r = sum_range_same f h (a + 1) n (λ i above below. same i (λ equal. omega arith)) in
          let p = ap f is in
          let q = ap h is in
          omega arith
      | inr other ↦
          let r = sum_range_at f h e (a + 1) n same (omega arith) (omega arith) in
          let p = same a other in
          omega arith
    ]

-- two shares for two
pub sum_range_pairs : (f h k m : ℕ → ℕ) (a n : ℕ) → ((i : ℕ) → a ≤ i → i < a + n → f i + h i ≡ k i + m i)
    → sum_by f (range_with_len a n) + sum_by h (range_with_len a n) ≡ sum_by k (range_with_len a n) + sum_by m (range_with_len a n)
sum_range_pairs f h k m a zero same = refl
sum_range_pairs f h k m a (suc n) same =
    let x = sum_by-cons f a (range_with_len (a + 1) n) in
    let y = sum_by-cons h a (range_with_len (a + 1) n) in
    let z = sum_by-cons k a (range_with_len (a + 1) n) in
    let w = sum_by-cons m a (range_with_len (a + 1) n) in
    let e = same a (omega arith) (omega arith) in
    let r = sum_range_pairs f h k m (a + 1) n (λ i low high. same i (omega arith) (omega arith)) in
    omega arith

-- a share for two
pub sum_range_split : (f h k : ℕ → ℕ) (a n : ℕ) → ((i : ℕ) → a ≤ i → i < a + n → f i ≡ h i + k i)
    → sum_by f (range_with_len a n) ≡ sum_by h (range_with_len a n) + sum_by k (range_with_len a n)
sum_range_split f h k a zero same = refl
sum_range_split f h k a (suc n) same =
    let x = sum_by-cons f a (range_with_len (a + 1) n) in
    let y = sum_by-cons h a (range_with_len (a + 1) n) in
    let z = sum_by-cons k a (range_with_len (a + 1) n) in
    let e = same a (omega arith) (omega arith) in
    let r = sum_range_split f h k (a + 1) n (λ i low high. same i (omega arith) (omega arith)) in
    omega arith

-- a share that is at most another
pub sum_range_le : (f h : ℕ → ℕ) (a n : ℕ) → ((i : ℕ) → a ≤ i → i < a + n → f i ≤ h i) → sum_by f (range_with_len a n) ≤ sum_by h (range_with_len a n)
sum_range_le f h a zero less = omega arith
sum_range_le f h a (suc n) less =
    let x = sum_by-cons f a (range_with_len (a + 1) n) in
    let y = sum_by-cons h a (range_with_len (a + 1) n) in
    let e = less a (omega arith) (omega arith) in
    let r = sum_range_le f h (a + 1) n (λ i low high. less i (omega arith) (omega arith)) in
    omega arith

-- a share that is over another by at most 1,000,000
pub sum_range_over : (f h : ℕ → ℕ) (a n : ℕ) → ((i : ℕ) → a ≤ i → i < a + n → f i ≤ h i + 1_000_000)
    → sum_by f (range_with_len a n) ≤ sum_by h (range_with_len a n) + n * 1_000_000
sum_range_over f h a zero less = omega arith
sum_range_over f h a (suc n) less =
    let x = sum_by-cons f a (range_with_len (a + 1) n) in
    let y = sum_by-cons h a (range_with_len (a + 1) n) in
    let e = less a (omega arith) (omega arith) in
    let r = sum_range_over f h (a + 1) n (λ i low high. less i (omega arith) (omega arith)) in
    omega arith

-- a share is part of the sum
pub sum_range_has : (f : ℕ → ℕ) (e a n : ℕ) → a ≤ e → e < a + n → f e ≤ sum_by f (range_with_len a n)
sum_range_has f e a zero low high = absurd (omega arith)
sum_range_has f e a (suc n) low high =
    let x = sum_by-cons f a (range_with_len (a + 1) n) in
    elim (cases_eq a e) [
      | inl is ↦ let p = ap f is in omega arith
      | inr other ↦ let r = sum_range_has f e (a + 1) n (omega arith) (omega arith) in omega arith
    ]

-- shares that are each at most others and whose sums are not less are these
pub sum_range_tight : (f h : ℕ → ℕ) (e a n : ℕ) → ((i : ℕ) → a ≤ i → i < a + n → f i ≤ h i) → sum_by h (range_with_len a n) ≤ sum_by f (range_with_len a n)
    → a ≤ e → e < a + n → f e ≡ h e
sum_range_tight f h e a zero less all low high = absurd (omega arith)
sum_range_tight f h e a (suc n) less all low high =
    let x = sum_by-cons f a (range_with_len (a + 1) n) in
    let y = sum_by-cons h a (range_with_len (a + 1) n) in
    let p = less a (omega arith) (omega arith) in
    let q = sum_range_le f h (a + 1) n (λ i above below. less i (omega arith) (omega arith)) in
    elim (cases_eq a e) [
      | inl is ↦ let u = ap f is in let v = ap h is in omega arith
      | inr other ↦ sum_range_tight f h e (a + 1) n (λ i above below. less i (omega arith) (omega arith)) (omega arith) (omega arith) (omega arith)
    ]

---- a change of the flow on one edge

-- what an edge has of an amount, by a test
abbrev pub part : (ℕ → Bool) → ℕ → ℕ → ℕ
part test i n = if test i then n else 0

part_add : (b : Bool) (n d : ℕ) → (if b then n + d else 0) ≡ (if b then n else 0) + (if b then d else 0)
part_add true n d = refl
part_add false n d = refl

pub on_set : (flows : List ℕ) (e x n : ℕ) (test : ℕ → Bool) → e < length flows → e < n
    → flow_on (flow_by (slice_set flows e x)) test (range_with_len 0 n) + part test e (flow_by flows e) ≡ flow_on (flow_by flows) test (range_with_len 0 n) + part test e x
on_set flows e x n test low within =
    let here : flow_by (slice_set flows e x) e ≡ x = get_or-set_same flows e x 0 low in
    let r = sum_range_at (λ i. part test i (flow_by (slice_set flows e x) i)) (λ i. part test i (flow_by flows i)) e 0 n
    (λ i other. ap (part test i) (get_or-set_other flows e i x 0 other)) (omega arith) (omega arith) in
    r ∙ ap (λ (y : ℕ). flow_on (flow_by flows) test (range_with_len 0 n) + part test e y) here

pub on_more : (flows : List ℕ) (e d n : ℕ) (test : ℕ → Bool) → e < length flows → e < n
    → flow_on (flow_by (slice_set flows e (flow_by flows e + d))) test (range_with_len 0 n) ≡ flow_on (flow_by flows) test (range_with_len 0 n) + part test e d
on_more flows e d n test low within =
    let r = on_set flows e (flow_by flows e + d) n test low within in
    let s = part_add (test e) (flow_by flows e) d in
    omega arith

pub on_less : (flows : List ℕ) (e d n : ℕ) (test : ℕ → Bool) → e < length flows → e < n → d ≤ flow_by flows e
    → flow_on (flow_by (slice_set flows e (flow_by flows e - d))) test (range_with_len 0 n) + part test e d ≡ flow_on (flow_by flows) test (range_with_len 0 n)
on_less flows e d n test low within enough =
    let r = on_set flows e (flow_by flows e - d) n test low within in
    let s = part_add (test e) (flow_by flows e - d) d in
    let t : flow_by flows e - d + d ≡ flow_by flows e = omega arith in
    let u = ap (part test e) t in
    omega arith
