-- The commas of a body that go with variable arguments.
use Rattle.std.proofs.Common.{◌≡◌, ℕ, zero, suc, ◌+◌, ◌<◌, ◌&&◌, ◌||◌, Bool, true, false, List, [], ◌∷◌, Some, length, drop, refl, sym, ap, ap₂, ◌∙◌, arith}
use Rattle.inc_token.specs.declared.lines.Token.{Token}
use Rattle.inc_macro.specs.Macros.{Params, begins_with_bad_comma, begins_with_chain, begins_with_comma, begins_with_paste, begins_with_taken, begins_with_taker, has_bad_comma, parameter_follows, parameter_names}
use Rattle.inc_macro.specs.Views.{spellings_in}
use Rattle.inc_macro.proofs.TokenTexts.{no_token, texts_at}

pub drop-later : {X : Type 0} (k n m : ℕ) (xs : List X) → n + k ≡ m → drop k (drop n xs) ≡ drop m xs
drop-later k zero m xs is = let same : k ≡ m = omega (arith, is) in ap (λ j. drop j xs) same
drop-later k (suc n) zero xs is = absurd (omega (arith, is))
drop-later zero (suc n) (suc m) [] is = refl
drop-later (suc k) (suc n) (suc m) [] is = refl
drop-later k (suc n) (suc m) (x ∷ xs) is = drop-later k n m xs (omega (arith, is))

pub both_true : (a b r : Bool) → a ≡ true → r ≡ b → r ≡ (a && b)
both_true true b r h is = is
both_true false b r h is = cc

pub first_false : (a b : Bool) → a ≡ false → false ≡ (a && b)
first_false true b h = cc
first_false false b h = refl

module _ (p : Params) (ts : List Token) (at : ℕ) where
  -- a comma that goes with them
  taken-at : begins_with_taken p (drop at (spellings_in ts))
      ≡ (begins_with_comma (drop at (spellings_in ts)) && (begins_with_paste (drop (at + 1) (spellings_in ts)) && begins_with_taker p (drop (at + 2) (spellings_in ts))))
  taken-at =
      ap₂ (λ (us vs : List (List ℕ)). begins_with_comma (drop at (spellings_in ts)) && (begins_with_paste us && begins_with_taker p vs))
      (drop-later 1 at (at + 1) (spellings_in ts) refl) (drop-later 2 at (at + 2) (spellings_in ts) refl)

  pub no-taken : begins_with_comma (drop at (spellings_in ts)) ≡ false → false ≡ begins_with_taken p (drop at (spellings_in ts))
  no-taken none = first_false _ _ none ∙ sym taken-at

  pub taken-by : (paste r : Bool) → begins_with_comma (drop at (spellings_in ts)) ≡ true → paste ≡ begins_with_paste (drop (at + 1) (spellings_in ts))
      → r ≡ (paste && begins_with_taker p (drop (at + 2) (spellings_in ts))) → r ≡ begins_with_taken p (drop at (spellings_in ts))
  taken-by paste r comma pastes is =
      both_true _ _ r comma (is ∙ ap (λ b. b && begins_with_taker p (drop (at + 2) (spellings_in ts))) pastes) ∙ sym taken-at

  -- a chain
  chain-at : begins_with_chain p (drop at (spellings_in ts))
      ≡ (begins_with_comma (drop at (spellings_in ts)) && (begins_with_paste (drop (at + 1) (spellings_in ts))
      && (parameter_follows (parameter_names (Some p)) (drop (at + 2) (spellings_in ts)) && begins_with_paste (drop (at + 3) (spellings_in ts)))))
  chain-at =
      ap₂ (λ (us vs : List (List ℕ)). begins_with_comma (drop at (spellings_in ts)) && (begins_with_paste us && (parameter_follows (parameter_names (Some p)) vs
      && begins_with_paste (drop 3 (drop at (spellings_in ts))))))
      (drop-later 1 at (at + 1) (spellings_in ts) refl) (drop-later 2 at (at + 2) (spellings_in ts) refl)
      ∙ ap (λ (us : List (List ℕ)). begins_with_comma (drop at (spellings_in ts)) && (begins_with_paste (drop (at + 1) (spellings_in ts))
      && (parameter_follows (parameter_names (Some p)) (drop (at + 2) (spellings_in ts)) && begins_with_paste us)))
      (drop-later 3 at (at + 3) (spellings_in ts) refl)

  pub no-chain : begins_with_comma (drop at (spellings_in ts)) ≡ false → false ≡ begins_with_chain p (drop at (spellings_in ts))
  no-chain none = first_false _ _ none ∙ sym chain-at

  pub no-link : begins_with_comma (drop at (spellings_in ts)) ≡ true → begins_with_paste (drop (at + 1) (spellings_in ts)) ≡ false
      → false ≡ begins_with_chain p (drop at (spellings_in ts))
  no-link comma none = both_true _ _ false comma (first_false _ _ none) ∙ sym chain-at

  pub chain-by : (is_parameter r : Bool) → begins_with_comma (drop at (spellings_in ts)) ≡ true → begins_with_paste (drop (at + 1) (spellings_in ts)) ≡ true
      → is_parameter ≡ parameter_follows (parameter_names (Some p)) (drop (at + 2) (spellings_in ts))
      → r ≡ (is_parameter && begins_with_paste (drop (at + 3) (spellings_in ts))) → r ≡ begins_with_chain p (drop at (spellings_in ts))
  chain-by is_parameter r comma paste follows is =
      both_true _ _ r comma (both_true _ _ r paste (is ∙ ap (λ b. b && begins_with_paste (drop (at + 3) (spellings_in ts))) follows)) ∙ sym chain-at

  -- one of both
  bad-at : at < length ts → has_bad_comma p (drop at (spellings_in ts)) ≡ (begins_with_bad_comma p (drop at (spellings_in ts)) || has_bad_comma p (drop (at + 1) (spellings_in ts)))
  bad-at less =
      let here = texts_at ts at no_token less in
      ap (has_bad_comma p) here
      ∙ ap (λ us. begins_with_bad_comma p us || has_bad_comma p (drop (at + 1) (spellings_in ts))) (sym here)

  bad-is : begins_with_bad_comma p (drop at (spellings_in ts))
      ≡ (begins_with_chain p (drop at (spellings_in ts)) || (begins_with_paste (drop at (spellings_in ts)) && begins_with_taken p (drop (at + 1) (spellings_in ts))))
  bad-is =
      ap (λ (us : List (List ℕ)). begins_with_chain p (drop at (spellings_in ts)) || (begins_with_paste (drop at (spellings_in ts)) && begins_with_taken p us))
      (drop-later 1 at (at + 1) (spellings_in ts) refl)

  pub bad-by : (chain r : Bool) → at < length ts → chain ≡ begins_with_chain p (drop at (spellings_in ts))
      → r ≡ (chain || (begins_with_paste (drop at (spellings_in ts)) && begins_with_taken p (drop (at + 1) (spellings_in ts))))
      → has_bad_comma p (drop at (spellings_in ts)) ≡ (r || has_bad_comma p (drop (at + 1) (spellings_in ts)))
  bad-by chain r less chains is =
      bad-at less
      ∙ ap (λ b. b || has_bad_comma p (drop (at + 1) (spellings_in ts)))
      (bad-is ∙ sym (is ∙ ap (λ c. c || (begins_with_paste (drop at (spellings_in ts)) && begins_with_taken p (drop (at + 1) (spellings_in ts)))) chains))
