-- Parts of lists.
use Rattle.std.proofs.Common.{◌≡◌, ℕ, zero, suc, ◌+◌, ◌-◌, ◌<◌, ◌≤◌, List, [], ◌∷◌, ◌++◌, Some, None, length, drop, take, refl, sym, ap, ◌∙◌, arith, slice_get, slice_range}
use Rattle.std.proofs.lemmas.List.{take-append-le, drop-append-le, length-drop, length-append, take_all, take-take, append_assoc}

pub slice_range-append : {X : Type 0} (xs ys : List X) (a b : ℕ) → a ≤ b → b ≤ length xs → slice_range (xs ++ ys) a b ≡ slice_range xs a b
slice_range-append xs ys a b le within =
    ap (take (b - a)) (drop-append-le a xs ys (omega arith)) ∙ take-append-le (b - a) (drop a xs) ys (omega (arith, length-drop a xs))

drop-whole : {X : Type 0} (xs ys : List X) → drop (length xs) (xs ++ ys) ≡ ys
drop-whole [] ys = refl
drop-whole (x ∷ xs) ys = drop-whole xs ys

pub slice_range-last : {X : Type 0} (xs ys : List X) (a b : ℕ) → a ≡ length xs → b ≡ length (xs ++ ys) → slice_range (xs ++ ys) a b ≡ ys
slice_range-last xs ys a b is end =
    ap (λ n. take (b - n) (drop n (xs ++ ys))) is ∙ ap (take (b - length xs)) (drop-whole xs ys)
    ∙ take_all (b - length xs) ys (omega (arith, length-append xs ys))

-- an element and those after it
pub drop-at : {X : Type 0} (xs : List X) (i : ℕ) (x : X) → slice_get xs i ≡ Some x → drop i xs ≡ x ∷ drop (suc i) xs
drop-at [] i x is = cc
drop-at (y ∷ xs) zero x is = let same : y ≡ x = cc in ap (λ z. z ∷ xs) same
drop-at (y ∷ xs) (suc i) x is = drop-at xs i x is

pub slice_range-first : {X : Type 0} (xs : List X) (a b : ℕ) (x : X) → a < b → slice_get xs a ≡ Some x → slice_range xs a b ≡ x ∷ slice_range xs (a + 1) b
slice_range-first xs a b x less is =
    let some : b - a ≡ suc (b - (a + 1)) = omega arith in
    let next : suc a ≡ a + 1 = omega arith in
    ap (λ n. take n (drop a xs)) some ∙ ap (take (suc (b - (a + 1)))) (drop-at xs a x is) ∙ ap (λ n. x ∷ take (b - (a + 1)) (drop n xs)) next

pub slice_range-none : {X : Type 0} (xs : List X) (a b : ℕ) → b ≤ a → slice_range xs a b ≡ []
slice_range-none xs a b le = let none : b - a ≡ 0 = omega arith in ap (λ n. take n (drop a xs)) none

-- a part and the element after it
take-at : {X : Type 0} (xs : List X) (i k : ℕ) (x : X) → k ≡ suc i → slice_get xs i ≡ Some x → take k xs ≡ take i xs ++ x ∷ []
take-at [] i k x next is = cc
take-at (y ∷ xs) zero k x next is = let same : y ≡ x = cc in rw next (ap (λ z. z ∷ []) same)
take-at (y ∷ xs) (suc i) k x next is = rw next (ap (λ zs. y ∷ zs) (take-at xs i (suc i) x refl is))

pub slice_get-drop : {X : Type 0} (xs : List X) (a i k : ℕ) → k ≡ a + i → slice_get (drop a xs) i ≡ slice_get xs k
slice_get-drop xs zero i k is = let same : i ≡ k = omega arith in ap (slice_get xs) same
slice_get-drop [] (suc a) i k is = refl
slice_get-drop (x ∷ xs) (suc a) i zero is = absurd (omega arith)
slice_get-drop (x ∷ xs) (suc a) i (suc k) is = slice_get-drop xs a i k (omega arith)

pub slice_range-more : {X : Type 0} (xs : List X) (a i : ℕ) (x : X) → a ≤ i → slice_get xs i ≡ Some x → slice_range xs a (i + 1) ≡ slice_range xs a i ++ x ∷ []
slice_range-more xs a i x le is =
    take-at (drop a xs) (i - a) (i + 1 - a) x (omega arith) (slice_get-drop xs a (i - a) i (omega arith) ∙ is)

pub element_at : {X : Type 0} (xs : List X) (i : ℕ) → i < length xs → (x : X) × (slice_get xs i ≡ Some x)
element_at [] i less = absurd (omega arith)
element_at (x ∷ xs) zero less = (x, refl)
element_at (x ∷ xs) (suc i) less = element_at xs i (omega arith)

-- an element more is copied
pub copied_more : {X : Type 0} (all copied old new : List X) (from i : ℕ) (x : X) → copied ≡ old ++ slice_range all from i → from ≤ i → slice_get all i ≡ Some x
    → new ≡ copied ++ x ∷ [] → new ≡ old ++ slice_range all from (i + 1)
copied_more {X} all copied old new from i x so_far le is pushed =
    pushed ∙ ap (λ (xs : List X). xs ++ x ∷ []) so_far ∙ append_assoc old (slice_range all from i) (x ∷ [])
    ∙ ap (λ (xs : List X). old ++ xs) (sym (slice_range-more all from i x le is))

pub get_take : {X : Type 0} (xs : List X) (n k : ℕ) → k < n → slice_get (take n xs) k ≡ slice_get xs k
get_take xs zero k low = absurd (omega (arith, low))
get_take [] (suc n) k low = refl
get_take (x ∷ xs) (suc n) zero low = refl
get_take (x ∷ xs) (suc n) (suc k) low = get_take xs n k (omega (arith, low))

pub get_past : {X : Type 0} (xs : List X) (n k : ℕ) → n ≤ k → slice_get (take n xs) k ≡ None
get_past xs zero k le = refl
get_past [] (suc n) k le = refl
get_past (x ∷ xs) (suc n) zero le = absurd (omega (arith, le))
get_past (x ∷ xs) (suc n) (suc k) le = get_past xs n k (omega (arith, le))

pub slice_range-all : {X : Type 0} (xs : List X) (n : ℕ) → length xs ≤ n → slice_range xs 0 n ≡ xs
slice_range-all xs n le = take_all (n - 0) xs (omega (arith, le))

-- more is added than is wanted, and taken back
pub taken_back : {X : Type 0} (old ys new : List X) (n m k : ℕ) → n ≤ m → k ≡ length old + n → new ≡ take k (old ++ take m ys) → new ≡ old ++ take n ys
taken_back old ys new n m k le is added = added ∙ ap (λ j. take j (old ++ take m ys)) is ∙ seam old (take m ys) n ∙ ap (λ zs. old ++ zs) (take-take n m ys le)
  where
    seam : {X : Type 0} (xs zs : List X) (n : ℕ) → take (length xs + n) (xs ++ zs) ≡ xs ++ take n zs
    seam [] zs n = let e : 0 + n ≡ n = omega arith in ap (λ j. take j zs) e
    seam (x ∷ xs) zs n = let e : suc (length xs) + n ≡ suc (length xs + n) = omega arith in ap (λ j. take j (x ∷ xs ++ zs)) e ∙ ap (λ ys. x ∷ ys) (seam xs zs n)
