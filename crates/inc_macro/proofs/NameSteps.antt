-- A list of parameters that is read name by name.
use Rattle.std.proofs.Common.{◌≡◌, ℕ, zero, suc, true, false, List, [], ◌∷◌, ◌++◌, Some, None, drop, length, ◌<◌, ◌≤◌, arith, refl, ap, ◌∙◌, codes}
use Rattle.inc_text.specs.declared.languages.Language.{Language}
use Rattle.inc_token.specs.TokenLines.{Tok}
use Rattle.inc_macro.specs.Macros.{is_dots, is_spelled, stands_first, unnamed}
use Rattle.inc_macro.specs.NameLists.{is_new_name, named_with, names_from, names_in, parameters_with}

pub names_in-start : (language : Language) (ts : List Tok) → stands_first (codes ")") ts ≡ false → names_in language ts ≡ names_from language [] ts
names_in-start language [] other = refl
names_in-start language (t ∷ ts) other = rw other refl

pub names_in-empty : (language : Language) (ts : List Tok) → stands_first (codes ")") ts ≡ true → names_in language ts ≡ parameters_with [] None (drop 1 ts)
names_in-empty language [] is = cc
names_in-empty language (t ∷ ts) is = rw is refl

pub names_from-short : (language : Language) (done : List (List ℕ)) (ts : List Tok) → length ts ≤ 1 → names_from language done ts ≡ None
names_from-short language done [] short = refl
names_from-short language done (t ∷ []) short = refl
names_from-short language done (t ∷ u ∷ ts) short = absurd (omega arith)

-- a token that stands first is there
pub first-within : (text : List ℕ) (n : ℕ) (ts : List Tok) → stands_first text (drop n ts) ≡ true → n < length ts
first-within text zero [] is = cc
first-within text zero (t ∷ ts) is = omega arith
first-within text (suc n) [] is = cc
first-within text (suc n) (t ∷ ts) is = let rest = first-within text n ts is in omega (arith, rest)

-- one token less
drop-one : (n : ℕ) (ts : List Tok) → drop 1 (drop n ts) ≡ drop (suc n) ts
drop-one zero ts = refl
drop-one (suc n) [] = refl
drop-one (suc n) (t ∷ ts) = drop-one n ts

pub after-drop : (n m : ℕ) (ts : List Tok) → suc n ≡ m → drop 1 (drop n ts) ≡ drop m ts
after-drop n m ts next = drop-one n ts ∙ ap (λ k. drop k ts) next

module _ (language : Language) (done : List (List ℕ)) (t u : Tok) (ts : List Tok) where
  pub variadic_end : is_spelled (codes "...") t ≡ true → is_spelled (codes ")") u ≡ true → names_from language done (t ∷ u ∷ ts) ≡ parameters_with done (Some (unnamed language)) ts
  variadic_end dots closes = rw (dots, closes) refl

  pub stray_dots : is_spelled (codes "...") t ≡ true → is_spelled (codes ")") u ≡ false → names_from language done (t ∷ u ∷ ts) ≡ None
  stray_dots dots open' = rw (dots, open') refl

  pub named_end : is_spelled (codes "...") t ≡ false → is_dots language u ≡ true
      → names_from language done (t ∷ u ∷ ts) ≡ named_with done t (stands_first (codes ")") ts) (drop 1 ts)
  named_end dots named = rw (dots, named) refl

  pub bad_name : is_spelled (codes "...") t ≡ false → is_dots language u ≡ false → is_new_name done t ≡ false → names_from language done (t ∷ u ∷ ts) ≡ None
  bad_name dots plain name = rw (dots, plain, name) refl

  pub last_name : is_spelled (codes "...") t ≡ false → is_dots language u ≡ false → is_new_name done t ≡ true → is_spelled (codes ")") u ≡ true
      → names_from language done (t ∷ u ∷ ts) ≡ parameters_with (done ++ t.spelling ∷ []) None ts
  last_name dots plain name closes = rw (dots, plain, name, closes) refl

  pub next_name : is_spelled (codes "...") t ≡ false → is_dots language u ≡ false → is_new_name done t ≡ true → is_spelled (codes ")") u ≡ false → is_spelled (codes ",") u ≡ true
      → names_from language done (t ∷ u ∷ ts) ≡ names_from language (done ++ t.spelling ∷ []) ts
  next_name dots plain name closes comma = rw (dots, plain, name, closes, comma) refl

  pub no_comma : is_spelled (codes "...") t ≡ false → is_dots language u ≡ false → is_new_name done t ≡ true → is_spelled (codes ")") u ≡ false → is_spelled (codes ",") u ≡ false
      → names_from language done (t ∷ u ∷ ts) ≡ None
  no_comma dots plain name closes comma = rw (dots, plain, name, closes, comma) refl
