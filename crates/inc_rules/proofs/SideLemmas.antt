-- The files of a rule by its globs in pieces.
use Rattle.std.proofs.Common.{◌≡◌, ℕ, zero, suc, ◌+◌, ◌<◌, Bool, true, false, not, cond, List, [], ◌∷◌, Option, Some, None, arith, drop, get_or, length, map, refl, sym, ap, ◌∙◌}
use native.Mathlib.Numerals.{unary_clauses}
use Rattle.std.specs.Prelude.{◌||◌, filter_map}
use Rattle.std.specs.List.{cons_option, list_any}
use Rattle.std.specs.Option.{option_map_or}
use Rattle.inc_globs.specs.Globs.{Piece, fits, pieces}
use Rattle.inc_rules.specs.Rules.{Rule, is_for, is_left, is_right}
use Rattle.inc_rules.specs.Sides.{Sides, sides_of}

module _ (path : List ℕ) where
  any_kept : (o : Option (List Piece)) (rest : List (List Piece)) → list_any (λ ps. fits ps path) (cons_option o rest) ≡ (option_map_or (λ ps. fits ps path) o false || list_any (λ ps. fits ps path) rest)
  any_kept (Some ps) rest = refl
  any_kept None rest = refl

  -- a bad exception fits nothing
  any_fits : (globs : List (List ℕ)) → list_any (λ ps. fits ps path) (filter_map pieces globs) ≡ list_any (λ g. is_for g path) globs
  any_fits [] = refl
  any_fits (g ∷ gs) = any_kept (pieces g) (filter_map pieces gs) ∙ ap (λ b. is_for g path || b) (any_fits gs)

  pub left_is : (r : Rule) (s : Sides) (left right any : Bool) → s ≡ sides_of r → left ≡ option_map_or (λ ps. fits ps path) s.left false → left ≡ true
      → right ≡ option_map_or (λ ps. fits ps path) s.right false → right ≡ false → any ≡ list_any (λ ps. fits ps path) s.except → not any ≡ is_left r path
  left_is r s left right any made lefts is_left rights is_right anys =
      let l : is_for r.left path ≡ true = ap (λ (x : Sides). option_map_or (λ ps. fits ps path) x.left false) (sym made) ∙ sym lefts ∙ is_left in
      let o : is_for r.right path ≡ false = ap (λ (x : Sides). option_map_or (λ ps. fits ps path) x.right false) (sym made) ∙ sym rights ∙ is_right in
      let a : any ≡ list_any (λ g. is_for g path) r.except = anys ∙ ap (λ (x : Sides). list_any (λ ps. fits ps path) x.except) made ∙ any_fits r.except in
      ap not a ∙ ap (λ b. not (b || list_any (λ g. is_for g path) r.except)) (sym o)
      ∙ ap (λ b. cond b (not (is_for r.right path || list_any (λ g. is_for g path) r.except)) false) (sym l)

  ---- the sides of several rules

  -- one that is not about a file
  pub passed_over : (sides : List Sides) (rules : List Rule) (i : ℕ) (s : Sides) → sides ≡ map sides_of rules → i < length sides → s ≡ get_or sides i s
      → ((r : Rule) → s ≡ sides_of r → is_left r path ≡ false) → list_any (λ r. is_left r path) (drop i rules) ≡ list_any (λ r. is_left r path) (drop (i + 1) rules)
  passed_over [] rules i s made low is other = absurd (omega (arith, low))
  passed_over (x ∷ xs) [] i s made low is other = cc
  passed_over (x ∷ xs) (r ∷ rs) zero s made low is other =
      ap (λ (b : Bool). b || list_any (λ q. is_left q path) rs) (other r (is ∙ ap (λ (l : List Sides). get_or l 0 s) made))
  passed_over (x ∷ xs) (r ∷ rs) (suc i) s made low is other =
      simp unary_clauses (simp unary_clauses at (passed_over xs rs i s (ap (λ (l : List Sides). drop 1 l) made) (omega (arith, low)) is other))

  -- one that is
  pub found_there : (sides : List Sides) (rules : List Rule) (i : ℕ) (s : Sides) → sides ≡ map sides_of rules → i < length sides → s ≡ get_or sides i s
      → ((r : Rule) → s ≡ sides_of r → is_left r path ≡ true) → list_any (λ r. is_left r path) (drop i rules) ≡ true
  found_there [] rules i s made low is one = absurd (omega (arith, low))
  found_there (x ∷ xs) [] i s made low is one = cc
  found_there (x ∷ xs) (r ∷ rs) zero s made low is one =
      ap (λ (b : Bool). b || list_any (λ q. is_left q path) rs) (one r (is ∙ ap (λ (l : List Sides). get_or l 0 s) made))
  found_there (x ∷ xs) (r ∷ rs) (suc i) s made low is one = found_there xs rs i s (ap (λ (l : List Sides). drop 1 l) made) (omega (arith, low)) is one
