-- The words of an include path before the last one, where the search goes on with its directory.
use Rattle.std.proofs.Common.{◌≡◌, Bor, ℕ, ◌-◌, ◌+◌, ◌≤◌, Bool, true, false, cond, List, [], ◌∷◌, ◌++◌, Option, None, length, map, take, get_or, refl, sym, ap, ◌∙◌, arith}
use Rattle.std.proofs.lemmas.List.{map-append, take_all, take_more}
use Rattle.inc_lookup.specs.IncludePath.{NamedDir, before_same, first_form, is_same_form}
use Rattle.inc_lookup.specs.Paths.{normal_form}

after_one : (b : Bool) (w : List ℕ) (xs ys : List (List ℕ)) → w ∷ cond b xs ys ≡ cond b (w ∷ xs) (w ∷ ys)
after_one true w xs ys = refl
after_one false w xs ys = refl

before_last : (next : Option (List ℕ)) (front : List (List ℕ)) (last : List ℕ)
    → before_same next (front ++ last ∷ []) ≡ cond (is_same_form next (normal_form last)) front (front ++ last ∷ [])
before_last next [] last = refl
before_last next (w ∷ []) last = after_one (is_same_form next (normal_form last)) w [] (last ∷ [])
before_last next (w ∷ v ∷ ws) last =
    ap (λ (xs : List (List ℕ)). w ∷ xs) (before_last next (v ∷ ws) last)
    ∙ after_one (is_same_form next (normal_form last)) w (v ∷ ws) (v ∷ ws ++ last ∷ [])

-- where there is no next directory all stay
before_none : (words : List (List ℕ)) → before_same None words ≡ words
before_none [] = refl
before_none (w ∷ []) = refl
before_none (w ∷ v ∷ ws) = ap (λ (xs : List (List ℕ)). w ∷ xs) (before_none (v ∷ ws))

pub before_nothing : (dirs : List NamedDir) (words : List (List ℕ)) → length dirs ≤ 0 → words ≡ before_same (first_form dirs) words
before_nothing [] words none = sym (before_none words)
before_nothing (d ∷ ds) words none = absurd (omega (arith, none))

-- the directory with which a list begins
pub begins_with : (dirs : List NamedDir) (d : NamedDir) (name : List ℕ) → 1 ≤ length dirs → d ≡ get_or dirs 0 d → name ≡ d.name → first_form dirs ≡ normal_form name
begins_with [] d name low is named = absurd (omega (arith, low))
begins_with (x ∷ xs) d name low is named = ap normal_form (sym (named ∙ ap (λ (y : NamedDir). y.name) is))

module _ (next : Option (List ℕ)) (words : List (Bor (List ℕ))) (d : Bor (List ℕ)) (low : 1 ≤ length words) where
  abbrev front : List (List ℕ)
  front = map (λ w. w.now) (take (length words - 1) words)

  abbrev last : List ℕ
  last = (get_or words (length words - 1) d).now

  split : map (λ w. w.now) words ≡ front ++ last ∷ []
  split =
      let all : length words - 1 + 1 ≡ length words = omega (arith, low) in
      let whole : take (length words - 1 + 1) words ≡ words = ap (λ (n : ℕ). take n words) all ∙ take_all (length words) words (omega arith) in
      ap (map (λ (w : Bor (List ℕ)). w.now)) (sym whole ∙ take_more words (length words - 1) d (omega (arith, low)))
      ∙ map-append (λ (w : Bor (List ℕ)). w.now) (take (length words - 1) words) (get_or words (length words - 1) d ∷ [])

  by_last : (b : Bool) → is_same_form next (normal_form last) ≡ b → before_same next (map (λ w. w.now) words) ≡ cond b front (front ++ last ∷ [])
  by_last b same =
      ap (before_same next) split ∙ before_last next front last ∙ ap (λ (c : Bool). cond c front (front ++ last ∷ [])) same

  pub without_last : is_same_form next (normal_form last) ≡ true → front ≡ before_same next (map (λ w. w.now) words)
  without_last same = sym (by_last true same)

  pub with_last : is_same_form next (normal_form last) ≡ false → map (λ w. w.now) words ≡ before_same next (map (λ w. w.now) words)
  with_last same = split ∙ sym (by_last false same)
