-- The first colon of a line behind which the rest is as asked, a colon at a time.
use Rattle.std.proofs.Common.{◌≡◌, ℕ, zero, suc, ◌+◌, ◌-◌, ◌<◌, ◌≤◌, Bool, true, false, List, [], ◌∷◌, Option, Some, None, length, take, drop, get_or, refl, sym, ap, ◌∙◌, arith}
use Rattle.std.specs.Prelude.{◌==◌, ◌&&◌, if◌then◌else◌, is_some, position}
use Rattle.std.specs.List.{list_any}
use Rattle.std.proofs.lemmas.Bool.{or_parts}
use Rattle.std.proofs.lemmas.List.{take_rest, drop-drop, length-drop}
use Rattle.std.proofs.lemmas.List.Quantifiers.{position-Some}
use Rattle.inc_lookup.proofs.ListingLemmas.{is_some-position}
use Rattle.inc_check.specs.Reading.{colon_from}

abbrev pub is_colon : ℕ → Bool
is_colon b = b == 58

at_colon : (b g : Bool) (x y : Option ℕ) → b ≡ true → (if b && g then x else y) ≡ (if g then x else y)
at_colon true g x y is = refl
at_colon false g x y is = cc

past_byte : (b g : Bool) (x y : Option ℕ) → b ≡ false → (if b && g then x else y) ≡ y
past_byte true g x y is = cc
past_byte false g x y is = refl

module _ (begins : List ℕ → Bool) where
  -- up to the first colon, which is after so many bytes
  to_colon : (text : List ℕ) (at n place : ℕ) → n < length text → is_colon (get_or text n 0) ≡ true → ((k : ℕ) → k < n → is_colon (get_or text k 0) ≡ false) → place ≡ at + n
      → colon_from begins at text ≡ (if begins (drop (suc n) text) then Some place else colon_from begins (place + 1) (drop (suc n) text))
  to_colon [] at n place low is others here = absurd (omega (arith, low))
  to_colon (b ∷ bs) at zero place low is others here =
      let same : at ≡ place = omega (arith, here) in
      at_colon (b == 58) (begins bs) (Some at) (colon_from begins (at + 1) bs) is
      ∙ ap (λ (k : ℕ). if begins bs then Some k else colon_from begins (k + 1) bs) same
  to_colon (b ∷ bs) at (suc n) place low is others here =
      past_byte (b == 58) (begins bs) (Some at) (colon_from begins (at + 1) bs) (others 0 (omega arith))
      ∙ to_colon bs (at + 1) n place (omega (arith, low)) is (λ k less. others (suc k) (omega (arith, less))) (omega (arith, here))

  -- no colon is left
  pub no_colon : (text : List ℕ) (at : ℕ) → list_any is_colon text ≡ false → colon_from begins at text ≡ None
  no_colon [] at none = refl
  no_colon (b ∷ bs) at none =
      let parts = or_parts (b == 58) (list_any is_colon bs) none in
      past_byte (b == 58) (begins bs) (Some at) (colon_from begins (at + 1) bs) parts.0 ∙ no_colon bs (at + 1) parts.1

  module _ (place : Option ℕ) (text : List ℕ) (at : ℕ) (so_far : place ≡ colon_from begins at (drop at text)) where
    module _ (n : ℕ) (found : Some n ≡ position is_colon (take (length text - at) (drop at text))) where
      here : (n < length (drop at text)) × (is_colon (get_or (drop at text) n 0) ≡ true) × ((k : ℕ) → k < n → is_colon (get_or (drop at text) k 0) ≡ false)
      here = position-Some is_colon (drop at text) n 0 (sym (rw take_rest at found))

      pub colon_low : at + n + 1 ≤ length text
      colon_low = let low : n < length text - at = rw length-drop at here.0 in omega (arith, low)

      first : place ≡ (if begins (drop (at + n + 1) text) then Some (at + n) else colon_from begins (at + n + 1) (drop (at + n + 1) text))
      first =
          let one : at + n + 1 ≡ at + suc n = omega arith in
          so_far ∙ to_colon (drop at text) at n (at + n) here.0 here.1 here.2 refl
          ∙ ap (λ (t : List ℕ). if begins t then Some (at + n) else colon_from begins (at + n + 1) t) (drop-drop (suc n) at text ∙ ap (λ (k : ℕ). drop k text) (sym one))

      module _ (g : Bool) (is : g ≡ begins (take (length text - (at + n + 1)) (drop (at + n + 1) text))) where
        number_is : begins (drop (at + n + 1) text) ≡ g
        number_is = sym (rw take_rest at is)

        pub place_found : g ≡ true → Some (at + n) ≡ place
        place_found yes' = sym (first ∙ ap (λ (b : Bool). if b then Some (at + n) else colon_from begins (at + n + 1) (drop (at + n + 1) text)) (number_is ∙ yes'))

        pub place_passed : g ≡ false → place ≡ colon_from begins (at + n + 1) (drop (at + n + 1) text)
        place_passed no' = first ∙ ap (λ (b : Bool). if b then Some (at + n) else colon_from begins (at + n + 1) (drop (at + n + 1) text)) (number_is ∙ no')

    pub place_none : None ≡ position is_colon (take (length text - at) (drop at text)) → None ≡ place
    place_none missing =
        let none : position is_colon (drop at text) ≡ None = sym (rw take_rest at missing) in
        sym (so_far ∙ no_colon (drop at text) at (sym (is_some-position is_colon (drop at text)) ∙ ap is_some none))

-- what is not in a list is not in its front
pub none_in_front : (p : ℕ → Bool) (n : ℕ) (xs : List ℕ) → list_any p xs ≡ false → list_any p (take n xs) ≡ false
none_in_front p zero xs none = refl
none_in_front p (suc n) [] none = refl
none_in_front p (suc n) (x ∷ xs) none =
    let parts = or_parts (p x) (list_any p xs) none in rw parts.0 (none_in_front p n xs parts.1)
