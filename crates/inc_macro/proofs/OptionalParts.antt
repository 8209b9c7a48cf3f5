-- What is after `__VA_OPT__` in a body.
use Rattle.std.proofs.Common.{◌≡◌, ℕ, ◌+◌, ◌<◌, ◌&&◌, ◌||◌, Bool, true, false, not, List, [], ◌∷◌, Some, length, drop, get_or, bytes_eq, refl, sym, ap, ◌∙◌, if◌then◌else◌}
use Rattle.std.specs.Cmp.Lexicographic.{nat_list_eq_equiv}
use Rattle.inc_token.specs.declared.lines.Token.{Token}
use Rattle.inc_macro.specs.Macros.{Params, depth_at, operand_names, takes_comma, follows_optional, begins_with_left, begins_with_paste, has_bad_optional, is_closed, is_match, is_paste, parameter_follows, parameter_names, va_opt}
use Rattle.inc_macro.specs.Views.{spellings_in}
use Rattle.inc_macro.proofs.BodyCommas.{both_true, drop-later}
use Rattle.inc_macro.proofs.TokenTexts.{no_token, texts_at}

or_false : (b : Bool) → b ≡ (b || false)
or_false true = refl
or_false false = refl

module _ (ts : List Token) (at : ℕ) where
  pub va_opt-at : at < length ts → (r : Bool) → r ≡ bytes_eq va_opt (get_or ts at no_token).spelling.now → r ≡ parameter_follows (va_opt ∷ []) (drop at (spellings_in ts))
  va_opt-at less r is =
      is ∙ nat_list_eq_equiv.symm va_opt (get_or ts at no_token).spelling.now ∙ or_false (bytes_eq (get_or ts at no_token).spelling.now va_opt)
      ∙ ap (parameter_follows (va_opt ∷ [])) (sym (texts_at ts at no_token less))

  optional-at : follows_optional (drop at (spellings_in ts))
      ≡ (begins_with_left (drop at (spellings_in ts)) && (not (begins_with_paste (drop (at + 1) (spellings_in ts))) && is_closed 0 false (drop (at + 1) (spellings_in ts))))
  optional-at =
      ap (λ us. begins_with_left (drop at (spellings_in ts)) && (not (begins_with_paste us) && is_closed 0 false us)) (drop-later 1 at (at + 1) (spellings_in ts) refl)

  pub optional-by : (left paste r : Bool) → left ≡ begins_with_left (drop at (spellings_in ts)) → left ≡ true → paste ≡ begins_with_paste (drop (at + 1) (spellings_in ts))
      → r ≡ (not paste && is_closed 0 false (drop (at + 1) (spellings_in ts))) → r ≡ follows_optional (drop at (spellings_in ts))
  optional-by left paste r left_is left_true paste_is is =
      both_true _ _ r (sym left_is ∙ left_true) (is ∙ ap (λ b. not b && is_closed 0 false (drop (at + 1) (spellings_in ts))) paste_is) ∙ sym optional-at

  pub bad-optional : (is r : Bool) → at < length ts → is ≡ bytes_eq va_opt (get_or ts at no_token).spelling.now
      → r ≡ (is && not (follows_optional (drop (at + 1) (spellings_in ts)))) → has_bad_optional (drop at (spellings_in ts)) ≡ (r || has_bad_optional (drop (at + 1) (spellings_in ts)))
  bad-optional is r less here r_is =
      ap has_bad_optional (texts_at ts at no_token less)
      ∙ ap (λ b. (b && not (follows_optional (drop (at + 1) (spellings_in ts)))) || has_bad_optional (drop (at + 1) (spellings_in ts))) (sym here)
      ∙ ap (λ b. b || has_bad_optional (drop (at + 1) (spellings_in ts))) (sym r_is)

  pub operand-other : (p : Params) (r : Bool) → takes_comma p ≡ false → r ≡ parameter_follows (parameter_names (Some p)) (drop at (spellings_in ts))
      → r ≡ parameter_follows (operand_names (Some p)) (drop at (spellings_in ts))
  operand-other p r takes is =
      is ∙ ap (λ b. parameter_follows (if b then va_opt ∷ parameter_names (Some p) else parameter_names (Some p)) (drop at (spellings_in ts))) (sym takes)

-- a walk up to the `)`
module _ (ts : List Token) (i : ℕ) (t : Token) (deep : ℕ) (pastes : Bool) (less : i < length ts) where
  abbrev text : List ℕ
  text = (get_or ts i t).spelling.now

  here : is_closed deep pastes (drop i (spellings_in ts))
      ≡ (if is_match deep text then not pastes else if bytes_eq va_opt text then false else is_closed (depth_at deep text) (is_paste text) (drop (i + 1) (spellings_in ts)))
  here = ap (is_closed deep pastes) (texts_at ts i t less)

  by : (m o : Bool) → is_match deep text ≡ m → bytes_eq va_opt text ≡ o
      → is_closed deep pastes (drop i (spellings_in ts)) ≡ (if m then not pastes else if o then false else is_closed (depth_at deep text) (is_paste text) (drop (i + 1) (spellings_in ts)))
  by m o e f =
      here
      ∙ ap (λ b. if b then not pastes else if bytes_eq va_opt text then false else is_closed (depth_at deep text) (is_paste text) (drop (i + 1) (spellings_in ts))) e
      ∙ ap (λ b. if m then not pastes else if b then false else is_closed (depth_at deep text) (is_paste text) (drop (i + 1) (spellings_in ts))) f

  pub closed-here : is_match deep text ≡ true → not pastes ≡ is_closed deep pastes (drop i (spellings_in ts))
  closed-here e = sym (by true _ e refl)

  pub closed-other : is_match deep text ≡ false → bytes_eq va_opt text ≡ true → false ≡ is_closed deep pastes (drop i (spellings_in ts))
  closed-other e f = sym (by false true e f)

  pub closed-on : (d : ℕ) (p : Bool) → is_match deep text ≡ false → bytes_eq va_opt text ≡ false → d ≡ depth_at deep text → p ≡ is_paste text
      → is_closed d p (drop (i + 1) (spellings_in ts)) ≡ is_closed deep pastes (drop i (spellings_in ts))
  closed-on d p e f g h =
      ap (λ k. is_closed k p (drop (i + 1) (spellings_in ts))) g
      ∙ ap (λ b. is_closed (depth_at deep text) b (drop (i + 1) (spellings_in ts))) h
      ∙ sym (by false false e f)
