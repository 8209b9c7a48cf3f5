-- When two names of headers are the same as they stand in directives.
use Rattle.std.proofs.Common.{◌≡◌, ℕ, Bool, true, false, List, [], ◌∷◌, ◌++◌, refl, sym, ap, ap₂, ◌∙◌, bytes_eq, nat_eq}
use Rattle.std.specs.Prelude.{◌&&◌}
use Rattle.std.proofs.lemmas.Bool.{eq-eqb}
use Rattle.inc_lookup.specs.declared.projects.Form.{Form}
use Rattle.inc_lookup.specs.declared.projects.Form.TheVariants.{Quoted, Angled}
use Rattle.inc_answers.specs.MissingNames.{spelled_in}

and_none : (b c : Bool) → c ≡ false → (b && c) ≡ false
and_none true c e = e
and_none false c e = refl

longer : (a : ℕ) (xs : List ℕ) → bytes_eq [] (xs ++ a ∷ []) ≡ false
longer a [] = refl
longer a (x ∷ xs) = refl

shorter : (a : ℕ) (xs : List ℕ) → bytes_eq (xs ++ a ∷ []) [] ≡ false
shorter a [] = refl
shorter a (x ∷ xs) = refl

-- a byte that both end in
pub same_inside : (a : ℕ) (xs ys : List ℕ) → bytes_eq (xs ++ a ∷ []) (ys ++ a ∷ []) ≡ bytes_eq xs ys
same_inside a [] [] = ap (λ b. b && true) (eq-eqb a a refl)
same_inside a [] (y ∷ ys) = and_none (nat_eq a y) (bytes_eq [] (ys ++ a ∷ [])) (longer a ys)
same_inside a (x ∷ xs) [] = and_none (nat_eq x a) (bytes_eq (xs ++ a ∷ []) []) (shorter a xs)
same_inside a (x ∷ xs) (y ∷ ys) = ap (λ b. nat_eq x y && b) (same_inside a xs ys)

pub same_form : (f g k : Form) (xs ys : List ℕ) → f ≡ k → g ≡ k → bytes_eq xs ys ≡ bytes_eq (spelled_in f xs) (spelled_in g ys)
same_form f g k xs ys a b = by k ∙ sym (ap₂ (λ (x y : Form). bytes_eq (spelled_in x xs) (spelled_in y ys)) a b)
  where
    by : (x : Form) → bytes_eq xs ys ≡ bytes_eq (spelled_in x xs) (spelled_in x ys)
    by Quoted = sym (same_inside 34 xs ys)
    by Angled = sym (same_inside 62 xs ys)
