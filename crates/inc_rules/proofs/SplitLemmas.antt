-- The parts of a text, one by one.
use Rattle.std.proofs.Common.{◌≡◌, ℕ, zero, suc, ◌+◌, ◌-◌, ◌<◌, ◌≤◌, inl, inr, Bool, true, false, not, List, [], ◌∷◌, ◌++◌, length, take, drop, refl, sym, ap, ◌∙◌, arith}
use Rattle.std.specs.Prelude.{filter}
use Rattle.std.specs.List.{prefix_len, slice_split}
use Rattle.std.proofs.lemmas.Bool.{cases_lt}
use Rattle.std.proofs.lemmas.List.{append_assoc, append-nil, drop-drop, length-drop, take_all, take_rest}
use Rattle.std.proofs.lemmas.List.Elements.{filter-append}
use Rattle.std.proofs.lemmas.List.Splits.{slice_split_first, slice_split_none}
use Rattle.std.proofs.lemmas.List.Sums.{prefix_len_passes}
use Rattle.inc_rules.specs.Rules.{is_empty}

module _ (ends : ℕ → Bool) where
  -- the parts from a place on; there are none behind the end
  abbrev pub parts_behind : (at : ℕ) → List ℕ → List (List ℕ)
  parts_behind zero text = slice_split ends text
  parts_behind (suc n) [] = []
  parts_behind (suc n) (b ∷ bs) = parts_behind n bs

  parts_within : (at : ℕ) (text : List ℕ) → at ≤ length text → parts_behind at text ≡ slice_split ends (drop at text)
  parts_within zero text low = refl
  parts_within (suc n) [] low = absurd (omega (arith, low))
  parts_within (suc n) (b ∷ bs) low = parts_within n bs (omega (arith, low))

  pub parts_none : (at : ℕ) (text : List ℕ) → length text < at → parts_behind at text ≡ []
  parts_none zero text high = absurd (omega (arith, high))
  parts_none (suc n) [] high = refl
  parts_none (suc n) (b ∷ bs) high = parts_none n bs (omega (arith, high))

  not_passed : (b : Bool) → not b ≡ true → b ≡ false
  not_passed true e = cc
  not_passed false e = refl

  -- the part that begins at a place, and those behind it
  part_here : (at n : ℕ) (text : List ℕ) → at ≤ length text → n ≡ prefix_len (λ b. not (ends b)) (drop at text)
      → parts_behind at text ≡ take n (drop at text) ∷ parts_behind (at + (n + 1)) text
  part_here at n text low is = elim (cases_lt n (length (drop at text))) [
    | inl inside ↦
        let short : n < length text - at = rw length-drop at inside in
        parts_within at text low
        ∙ slice_split_first ends (drop at text) 0 (rw is at inside)
        ∙ ap (λ m. take m (drop at text) ∷ slice_split ends (drop (m + 1) (drop at text))) (sym is)
        ∙ ap (λ t. take n (drop at text) ∷ slice_split ends t) (drop-drop (n + 1) at text)
        ∙ ap (λ ps. take n (drop at text) ∷ ps) (sym (parts_within (at + (n + 1)) text (omega (arith, short))))
    | inr outside ↦
        let long : length text - at ≤ n = rw length-drop at outside in
        parts_within at text low
        ∙ slice_split_none ends (drop at text) (λ k d inside. not_passed _ (prefix_len_passes (λ b. not (ends b)) (drop at text) k d (omega (arith, inside, outside, is))))
        ∙ ap (λ t. t ∷ []) (sym (take_all n (drop at text) outside))
        ∙ ap (λ ps. take n (drop at text) ∷ ps) (sym (parts_none (at + (n + 1)) text (omega (arith, long, low))))
  ]

  -- the same, as code cuts it out
  pub part_at : (at n : ℕ) (text : List ℕ) → at ≤ length text → n ≡ prefix_len (λ b. not (ends b)) (take (length text - at) (drop at text))
      → parts_behind at text ≡ take (at + n - at) (drop at text) ∷ parts_behind (at + (n + 1)) text
  part_at at n text low is =
      let len : at + n - at ≡ n = omega arith in
      part_here at n text low (rw take_rest at is) ∙ ap (λ m. take m (drop at text) ∷ parts_behind (at + (n + 1)) text) (sym len)

pub part_low : (at n : ℕ) (text : List ℕ) → at ≤ length text → n ≤ length (take (length text - at) (drop at text)) → at + (n + 1) ≤ length text + 1
part_low at n text low inside =
    let short : n ≤ length text - at = rw (take_rest, length-drop) at inside in
    omega (arith, low, short)

-- the parts so far that are not empty, and those behind them, after one more part
pub part_on : (all done new : List (List ℕ)) (part : List ℕ) (behind rest : List (List ℕ)) → all ≡ done ++ filter (λ p. not (is_empty p)) behind → behind ≡ part ∷ rest
    → new ≡ done ++ filter (λ p. not (is_empty p)) (part ∷ []) → all ≡ new ++ filter (λ p. not (is_empty p)) rest
part_on all done new part behind rest so_far step pushed =
    let some : List (List ℕ) → List (List ℕ) = filter (λ p. not (is_empty p)) in
    so_far ∙ ap (λ ps. done ++ some ps) step ∙ ap (λ ps. done ++ ps) (filter-append (λ p. not (is_empty p)) (part ∷ []) rest)
    ∙ sym (append_assoc done (some (part ∷ [])) (some rest)) ∙ ap (λ ps. ps ++ some rest) (sym pushed)

pub parts_end : (all done behind : List (List ℕ)) → all ≡ done ++ filter (λ p. not (is_empty p)) behind → behind ≡ [] → done ≡ all
parts_end all done behind so_far none = sym (so_far ∙ ap (λ ps. done ++ filter (λ p. not (is_empty p)) ps) none ∙ append-nil done)
