-- Paths that no line of a baseline can name, a byte and a path at a time.
use Rattle.std.proofs.Common.{◌≡◌, ◌∙◌, ℕ, ◌+◌, ◌<◌, ◌≤◌, ◌&&◌, ◌||◌, Bool, true, false, List, [], ◌∷◌, Option, Some, None, add-one, ap, ap₂, cond, drop, get_or, length, refl, sym}
use Rattle.std.specs.Prelude.{◌==◌, find, unwrap_or}
use Rattle.std.proofs.Math.Seq.{drop-cons}
use Rattle.std.proofs.lemmas.List.{drop_all, drop_more}
use Rattle.std.proofs.lemmas.Option.{slice_get-get_or}
use Rattle.inc_lookup.specs.Projects.{Layout, path_at}
use Rattle.inc_text.specs.Ascii.{colon}
use Rattle.inc_inputs.specs.WrittenBaselines.{begins_name, is_unnameable}

module _ {X : Type 0} (xs : List X) (i : ℕ) (x : X) (low : i < length xs) (is : x ≡ get_or xs i x) where
  pub parted : drop i xs ≡ x ∷ drop (i + 1) xs
  parted = drop-cons xs i x low ∙ ap₂ (λ (y : X) (ys : List X). y ∷ ys) (sym is) (ap (λ (n : ℕ). drop n xs) (sym (add-one i)))

-- behind a byte no name begins, or one does
module _ (path : List ℕ) (i b : ℕ) (low : i < length path) (is : b ≡ get_or path i b) where
  pub byte_passed : ((b == colon) && begins_name (drop (i + 1) path)) ≡ false → is_unnameable (drop i path) ≡ is_unnameable (drop (i + 1) path)
  byte_passed none = ap is_unnameable (parted path i b low is) ∙ ap (λ (x : Bool). x || is_unnameable (drop (i + 1) path)) none

  pub byte_found : ((b == colon) && begins_name (drop (i + 1) path)) ≡ true → is_unnameable (drop i path) ≡ true
  byte_found some = ap is_unnameable (parted path i b low is) ∙ ap (λ (x : Bool). x || is_unnameable (drop (i + 1) path)) some

-- the first such path of those that are left
module _ (layout : Layout) (place : ℕ) (low : place < length layout.paths) where
  find_next : find is_unnameable (drop place layout.paths)
      ≡ cond (is_unnameable (path_at layout place)) (Some (path_at layout place)) (find is_unnameable (drop (place + 1) layout.paths))
  find_next =
      let here : path_at layout place ≡ get_or layout.paths place [] = ap (λ (o : Option (List ℕ)). unwrap_or o []) (slice_get-get_or layout.paths place [] low) in
      ap (find is_unnameable) (drop_more layout.paths place [] low)
      ∙ ap (λ (p : List ℕ). cond (is_unnameable p) (Some p) (find is_unnameable (drop (place + 1) layout.paths))) (sym here)

  -- is that of the file at hand
  pub find_here : (o : Option (List ℕ)) (path : List ℕ) → o ≡ find is_unnameable (path_at layout place ∷ []) → o ≡ Some path → find is_unnameable (drop place layout.paths) ≡ Some path
  find_here o path is some = find_next ∙ by (is_unnameable (path_at layout place)) (sym is ∙ some)
    where
      by : (b : Bool) → cond b (Some (path_at layout place)) None ≡ Some path
          → cond b (Some (path_at layout place)) (find is_unnameable (drop (place + 1) layout.paths)) ≡ Some path
      by true e = e
      by false e = cc

  -- or of one behind it
  pub find_later : (o : Option (List ℕ)) → o ≡ find is_unnameable (path_at layout place ∷ []) → o ≡ None
      → find is_unnameable (drop place layout.paths) ≡ find is_unnameable (drop (place + 1) layout.paths)
  find_later o is none = find_next ∙ by (is_unnameable (path_at layout place)) (sym is ∙ none)
    where
      by : (b : Bool) → cond b (Some (path_at layout place)) None ≡ None
          → cond b (Some (path_at layout place)) (find is_unnameable (drop (place + 1) layout.paths)) ≡ find is_unnameable (drop (place + 1) layout.paths)
      by true e = cc
      by false e = refl
