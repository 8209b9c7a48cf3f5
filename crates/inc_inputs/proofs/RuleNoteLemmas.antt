-- Notes of rules, one rule more at a time, and the first of their lines.
use Rattle.std.proofs.Common.{◌≡◌, ◌∙◌, ℕ, zero, suc, ◌+◌, ◌<◌, Bool, true, false, List, [], ◌∷◌, ◌++◌, Option, Some, None, ap, arith, get_or, is_some, length, map, option_map, refl, sym, take}
use Rattle.std.specs.Prelude.{flat_map}
use Rattle.std.proofs.lemmas.Grind.{flat_map-append}
use Rattle.std.proofs.lemmas.List.{append-nil, map_more}
use Rattle.inc_inputs.specs.BuildNotes.{Kept, none, with_lines}
use Rattle.inc_inputs.specs.RuleNotes.{first_of}
use Rattle.inc_inputs.proofs.NoteLemmas.{with_lines-append}

module _ {X Y : Type 0} (f : Y → List (List ℕ)) (s : X → Y) where
  flat_more : (xs : List X) (i : ℕ) (x : X) → i < length xs → x ≡ get_or xs i x
      → flat_map f (map s (take (i + 1) xs)) ≡ flat_map f (map s (take i xs)) ++ f (s x)
  flat_more xs i x low at =
      let before : List Y = map s (take i xs) in
      let seen : map s (take (i + 1) xs) ≡ before ++ s x ∷ [] = map_more s xs i x low ∙ ap (λ y. before ++ s y ∷ []) (sym at) in
      ap (flat_map f) seen ∙ flat_map-append f before (s x ∷ []) ∙ ap (λ l. flat_map f before ++ l) (append-nil (f (s x)))

  pub lines_more : (xs : List X) (i : ℕ) (x : X) (old new : Kept) → i < length xs → x ≡ get_or xs i x → new ≡ with_lines old (f (s x))
      → old ≡ with_lines none (flat_map f (map s (take i xs))) → new ≡ with_lines none (flat_map f (map s (take (i + 1) xs)))
  lines_more xs i x old new low at added so_far =
      added ∙ ap (λ (k : Kept). with_lines k (f (s x))) so_far ∙ sym (with_lines-append none (flat_map f (map s (take i xs))) (f (s x)))
      ∙ ap (with_lines none) (sym (flat_more xs i x low at))

  -- no line so far
  pub none_more : (xs : List X) (i : ℕ) (x : X) → i < length xs → x ≡ get_or xs i x → None ≡ first_of (f (s x))
      → None ≡ first_of (flat_map f (map s (take i xs))) → None ≡ first_of (flat_map f (map s (take (i + 1) xs)))
  none_more xs i x low at here so_far = first_none _ _ so_far here ∙ ap first_of (sym (flat_more xs i x low at))
    where
      first_none : (a b : List (List ℕ)) → None ≡ first_of a → None ≡ first_of b → None ≡ first_of (a ++ b)
      first_none [] b one two = two
      first_none (l ∷ a) b one two = cc

  -- the first line, after rules without one
  pub first_found : (xs : List X) (i : ℕ) (x : X) (line : List ℕ) → i < length xs → x ≡ get_or xs i x → None ≡ first_of (flat_map f (map s (take i xs)))
      → Some line ≡ first_of (f (s x)) → Some line ≡ first_of (flat_map f (map s xs))
  first_found [] i x line low at so_far here = absurd (omega (arith, low))
  first_found (y ∷ ys) zero x line low at so_far here = here ∙ ap (λ z. first_of (f (s z))) at ∙ first_front (f (s y)) (flat_map f (map s ys)) line (sym (here ∙ ap (λ z. first_of (f (s z))) at))
    where
      first_front : (a b : List (List ℕ)) (l : List ℕ) → first_of a ≡ Some l → first_of a ≡ first_of (a ++ b)
      first_front [] b l is = cc
      first_front (m ∷ a) b l is = refl
  first_found (y ∷ ys) (suc i) x line low at so_far here =
      let parts = apart (f (s y)) (flat_map f (map s (take i ys))) so_far in
      first_found ys i x line (omega (arith, low)) at parts.1 here ∙ first_behind (f (s y)) (flat_map f (map s ys)) parts.0
    where
      apart : (a b : List (List ℕ)) → None ≡ first_of (a ++ b) → (a ≡ []) × (None ≡ first_of b)
      apart [] b is = (refl, is)
      apart (l ∷ a) b is = cc

      first_behind : (a b : List (List ℕ)) → a ≡ [] → first_of b ≡ first_of (a ++ b)
      first_behind [] b is = refl
      first_behind (l ∷ a) b is = cc

  -- what is found of a rule, after rules without a line
  pub first_kept : {V : Type 0} (g : V → List ℕ) (o : Option V) (xs : List X) (i : ℕ) (x : X) → is_some o ≡ true → i < length xs → x ≡ get_or xs i x
      → None ≡ first_of (flat_map f (map s (take i xs))) → option_map g o ≡ first_of (f (s x)) → option_map g o ≡ first_of (flat_map f (map s xs))
  first_kept g (Some v) xs i x some low at so_far here = first_found xs i x (g v) low at so_far here
  first_kept g None xs i x some low at so_far here = cc

-- nothing is found
pub none_kept : {V : Type 0} (g : V → List ℕ) (o : Option V) (y : Option (List ℕ)) → is_some o ≡ false → option_map g o ≡ y → None ≡ y
none_kept g (Some v) y none here = cc
none_kept g None y none here = here
