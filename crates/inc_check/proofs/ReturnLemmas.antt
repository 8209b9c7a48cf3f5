-- Texts without the CR before each LF.
use Rattle.std.proofs.Common.{◌≡◌, ℕ, zero, suc, ◌+◌, ◌-◌, ◌<◌, ◌≤◌, true, false, List, [], ◌∷◌, ◌++◌, length, take, drop, refl, sym, ap, ◌∙◌, arith, inl, inr}
use Rattle.std.specs.Prelude.{◌==◌, slice_index, if◌then◌else◌}
use Rattle.std.proofs.lemmas.Bool.{cases_Bool, eqb-true}
use Rattle.std.proofs.lemmas.List.{append_assoc, take_rest, drop-drop, get_or_default}
use Rattle.inc_graph.proofs.Lists.{drop_read}
use Rattle.inc_check.specs.Texts.{begins_return, without_returns}

-- what is left of a CR
abbrev pub left_of : List ℕ → List ℕ
left_of rest = if begins_return rest then [] else 13 ∷ []

-- a byte other than CR stays
kept : (x : ℕ) (xs : List ℕ) → (x == 13) ≡ false → without_returns (x ∷ xs) ≡ x ∷ without_returns xs
kept x xs other = rw other refl

one_return : (x : ℕ) (xs : List ℕ) → x ≡ 13 → left_of (x ∷ xs) ++ without_returns xs ≡ without_returns (x ∷ xs)
one_return x xs is = elim (cases_Bool (begins_return (x ∷ xs))) [
  | inl e ↦ rw e refl
  | inr e ↦ rw e (ap (λ (b : ℕ). b ∷ without_returns xs) (sym is))
]

-- bytes other than CR stay as they are
returns_passed : (rest : List ℕ) (n : ℕ) → n ≤ length rest → ((k : ℕ) → k < n → (slice_index rest k == 13) ≡ true → ⊥)
    → take n rest ++ without_returns (drop n rest) ≡ without_returns rest
returns_passed rest zero low none = refl
returns_passed [] (suc n) low none = absurd (omega arith)
returns_passed (x ∷ xs) (suc n) low none =
    let other : (x == 13) ≡ false = elim (cases_Bool (x == 13)) [
      | inl e ↦ absurd (none 0 (omega arith) e)
      | inr e ↦ e
    ] in
    ap (λ (ys : List ℕ). x ∷ ys) (returns_passed xs n (omega arith) (λ k below. none (suc k) (omega arith))) ∙ sym (kept x xs other)

-- up to the first CR and after it
pub passed_return : (done rest new : List ℕ) (n : ℕ) → n < length rest → ((k : ℕ) → k < n → (slice_index rest k == 13) ≡ true → ⊥) → (slice_index rest n == 13) ≡ true
    → new ≡ done ++ (take n rest ++ left_of (drop n rest)) → new ++ without_returns (drop (n + 1) rest) ≡ done ++ without_returns rest
passed_return done rest new n low none here is =
    let x = slice_index rest n in
    let front = take n rest in
    let more = drop (n + 1) rest in
    let cut : drop n rest ≡ slice_index rest n ∷ drop (n + 1) rest = drop_read rest n (slice_index rest n) low (get_or_default rest n 0 (slice_index rest n) low) in
    let tail : left_of (drop n rest) ++ without_returns (drop (n + 1) rest) ≡ without_returns (drop n rest) =
    ap (λ (r : List ℕ). left_of r ++ without_returns (drop (n + 1) rest)) cut ∙ one_return x more (eqb-true (slice_index rest n) 13 here) ∙ ap without_returns (sym cut) in
    ap (λ (r : List ℕ). r ++ without_returns (drop (n + 1) rest)) is
    ∙ append_assoc done (front ++ left_of (drop n rest)) (without_returns more)
    ∙ ap (λ (r : List ℕ). done ++ r) (append_assoc front (left_of (drop n rest)) (without_returns more) ∙ ap (λ (r : List ℕ). take n rest ++ r) tail ∙ returns_passed rest n (omega arith) none)

-- where there is no CR
pub no_return : (rest : List ℕ) → ((k : ℕ) → k < length rest → (slice_index rest k == 13) ≡ true → ⊥) → rest ≡ without_returns rest
no_return [] none = refl
no_return (x ∷ xs) none =
    let other : (x == 13) ≡ false = elim (cases_Bool (x == 13)) [
      | inl e ↦ absurd (none 0 (omega arith) e)
      | inr e ↦ e
    ] in
    ap (λ (ys : List ℕ). x ∷ ys) (no_return xs (λ k below. none (suc k) (omega arith))) ∙ sym (kept x xs other)

taken : (at n : ℕ) → at + n - at ≡ n
taken at n = omega arith

-- the same of what is left of a text
pub more_passed : (text done new : List ℕ) (at n : ℕ) → n < length (drop at text) → ((k : ℕ) → k < n → (slice_index (drop at text) k == 13) ≡ true → ⊥) → (slice_index (drop at text) n == 13) ≡ true
    → new ≡ done ++ (take (at + n - at) (drop at text) ++ left_of (take (length text - (at + n)) (drop (at + n) text))) → done ++ without_returns (drop at text) ≡ without_returns text
    → new ++ without_returns (drop (at + (n + 1)) text) ≡ without_returns text
more_passed text done new at n low none here is so_far =
    let new_is : new ≡ done ++ (take n (drop at text) ++ left_of (drop n (drop at text))) =
    is ∙ ap (λ (k : ℕ). done ++ (take k (drop at text) ++ left_of (take (length text - (at + n)) (drop (at + n) text)))) (taken at n)
    ∙ ap (λ (r : List ℕ). done ++ (take n (drop at text) ++ left_of r)) (take_rest text (at + n) ∙ sym (drop-drop n at text)) in
    ap (λ (r : List ℕ). new ++ without_returns r) (sym (drop-drop (n + 1) at text)) ∙ passed_return done (drop at text) new n low none here new_is ∙ so_far

-- what is left has no CR
pub all_passed : (text done new : List ℕ) (at : ℕ) → ((k : ℕ) → k < length (drop at text) → (slice_index (drop at text) k == 13) ≡ true → ⊥)
    → new ≡ done ++ take (length text - at) (drop at text) → done ++ without_returns (drop at text) ≡ without_returns text → new ≡ without_returns text
all_passed text done new at none is so_far = is ∙ ap (λ (r : List ℕ). done ++ r) (take_rest text at ∙ no_return (drop at text) none) ∙ so_far
