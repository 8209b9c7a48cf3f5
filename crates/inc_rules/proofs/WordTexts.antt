-- Words as they are joined.
use Rattle.std.proofs.Common.{◌≡◌, ◌∙◌, ℕ, ◌+◌, ◌<◌, List, ◌∷◌, ◌++◌, add-one, ap, ap₂, append_assoc, drop, get_or, length, map, sym}
use Rattle.std.proofs.Math.Seq.{drop-cons}
use Rattle.inc_rules.specs.RuleTexts.{joined_from, space_at}

-- a word more
pub joined_step : {X : Type 0} (f : X → List ℕ) (all text now : List ℕ) (xs : List X) (i : ℕ) (x : X) → i < length xs → x ≡ get_or xs i x → now ≡ text ++ (space_at i ++ f x)
    → all ≡ text ++ joined_from i (map f (drop i xs)) → all ≡ now ++ joined_from (i + 1) (map f (drop (i + 1) xs))
joined_step {X = X} f all text now xs i x low is put before =
    let parts : drop i xs ≡ x ∷ drop (i + 1) xs =
    drop-cons xs i x low ∙ ap₂ (λ (y : X) (ys : List X). y ∷ ys) (sym is) (ap (λ (n : ℕ). drop n xs) (sym (add-one i))) in
    let rest : List ℕ = joined_from (i + 1) (map f (drop (i + 1) xs)) in
    before ∙ ap (λ (ys : List X). text ++ joined_from i (map f ys)) parts ∙ sym (append_assoc text (space_at i ++ f x) rest)
    ∙ ap (λ (t : List ℕ). t ++ rest) (sym put)
