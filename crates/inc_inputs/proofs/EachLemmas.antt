-- A step for each of a list, one more at a time.
use Rattle.std.proofs.Common.{◌≡◌, ◌∙◌, ℕ, ◌+◌, ◌<◌, List, [], ◌∷◌, Result, Ok, Err, length, drop, get_or, map, refl, sym, ap, subst, arith}
use Rattle.std.proofs.lemmas.List.{drop_more, get_or-map, length-map}
use Rattle.inc_inputs.specs.Reports.{Report}
use Rattle.inc_inputs.specs.Steps.{Comes, Step, each}
use Rattle.inc_inputs.proofs.StepLemmas.{comes_err, comes_then}

module _ {S A B X : Type 0} (step : B → A → Step S A) (f : X → B) (xs : List X) where
  -- from one state on, and from what was come to, the steps that are left lead where all of them do
  abbrev pub Leads : (first now : A) → (i : ℕ) → (old mid : S) → Type 0
  Leads first now i old mid =
      (x : Result A Report) (new : S) → each step (drop i (map f xs)) now mid x new → each step (map f xs) first old x new

  module _ (i : ℕ) (d : X) (low : i < length xs) where
    short : i < length (map f xs)
    short = omega (arith, low, length-map xs f)

    next : drop i (map f xs) ≡ f (get_or xs i d) ∷ drop (i + 1) (map f xs)
    next = drop_more (map f xs) i (f d) short ∙ ap (λ (b : B). b ∷ drop (i + 1) (map f xs)) (get_or-map f xs i d (f d) low)

    pub each_more : (first now later : A) (old mid then_ : S) (x : Result A Report) → Leads first now i old mid → x ≡ Ok later
        → Comes (step (f (get_or xs i d)) now) mid x then_ → Leads first later (i + 1) old then_
    each_more first now later old mid then_ x so_far e one =
        λ y new h. so_far y new
        (subst (λ (bs : List B). each step bs now mid y new) (sym next)
        (comes_then (step (f (get_or xs i d)) now) (each step (drop (i + 1) (map f xs))) mid then_ new x later y e one h))

    pub each_fault : (first now : A) (old mid then_ : S) (x y : Result A Report) (r : Report) → Leads first now i old mid → x ≡ Err r → y ≡ Err r
        → Comes (step (f (get_or xs i d)) now) mid x then_ → Comes (each step (map f xs) first) old y then_
    each_fault first now old mid then_ x y r so_far ex ey one not =
        so_far y then_
        (subst (λ (bs : List B). each step bs now mid y then_) (sym next)
        (comes_err (step (f (get_or xs i d)) now) (each step (drop (i + 1) (map f xs))) mid then_ x y r ex ey one not))

  none_left : (bs : List B) → drop (length bs) bs ≡ []
  none_left [] = refl
  none_left (b ∷ bs) = none_left bs

  pub each_end : (first now : A) (i : ℕ) (old mid : S) → i ≡ length xs → Leads first now i old mid → each step (map f xs) first old (Ok now) mid
  each_end first now i old mid end so_far =
      so_far (Ok now) mid
      (subst (λ (bs : List B). each step bs now mid (Ok now) mid)
      (sym (ap (λ (k : ℕ). drop k (map f xs)) (end ∙ sym (length-map xs f)) ∙ none_left (map f xs))) (refl, refl))
