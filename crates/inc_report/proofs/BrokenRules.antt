-- Rules that are broken, as they are printed.
use Rattle.std.proofs.Common.{◌≡◌, ◌∙◌, ℕ, ◌-◌, ◌||◌, Bool, List, [], ◌∷◌, ◌++◌, None, ap, ap₂, arith, codes, length, map, refl, sym, take}
use Rattle.std.specs.Prelude.{flat_map}
use Rattle.std.specs.List.{list_any}
use Rattle.std.proofs.lemmas.List.{append-nil, length-map, take_all}
use Rattle.std.proofs.lemmas.List.Folds.{flat_map-map}
use Rattle.inc_check.specs.Certificates.{marks_of}
use Rattle.inc_graph.specs.IncludeGraph.{Graph}
use Rattle.inc_lookup.specs.Projects.{Layout}
use Rattle.inc_rules.specs.Judging.{Judged}
use Rattle.inc_answers.specs.MarkTexts.{chains_text, list_text, more_text}
use Rattle.inc_answers.specs.Numbers.{count_text}
use Rattle.inc_report.specs.RulesText.{judged_text, rules_text}
use Rattle.inc_answers.specs.WhyText.{unresolved_text}
use Rattle.inc_answers.proofs.BoundLemmas.{chains_bounded}

-- a test of what is seen of each
pub any_seen : {X Y : Type 0} (p : Y → Bool) (f : X → Y) (xs : List X) → list_any (λ x. p (f x)) xs ≡ list_any p (map f xs)
any_seen p f [] = refl
any_seen p f (x ∷ xs) = ap (λ (b : Bool). p (f x) || b) (any_seen p f xs)

abbrev chain_text : Layout → Graph → List ℕ → List ℕ
chain_text layout g chain = list_text (codes "chain") (marks_of layout g chain)

module _ (layout : Layout) (g : Graph) {X : Type 0} where
  -- all chains, after how many there are
  pub all_chains : (f : X → List ℕ) (xs : List X) → count_text (codes "chains") (length xs) ++ flat_map (λ x. chain_text layout g (f x)) xs ≡ chains_text None (map (marks_of layout g) (map f xs))
  all_chains f xs =
      let chains : List (List ℕ) = map f xs in
      let n : ℕ = length chains in
      let whole : chains ≡ take n chains = sym (take_all n chains (omega arith)) in
      let zero : 0 ≡ n - n = omega arith in
      ap₂ (λ (m : ℕ) (text : List ℕ). count_text (codes "chains") m ++ text) (sym (length-map xs f)) (sym (flat_map-map (chain_text layout g) f xs))
      ∙ sym (append-nil (count_text (codes "chains") n ++ flat_map (chain_text layout g) chains))
      ∙ ap₂ (λ (l : List (List ℕ)) (m : ℕ). count_text (codes "chains") n ++ flat_map (chain_text layout g) l ++ more_text m) whole zero
      ∙ chains_bounded layout g None chains n n refl refl

  -- all rules, after how many there are, and what is not found
  pub all_judged : (seen : X → Judged) (n : ℕ) (items given : List X) → n ≡ length items → given ≡ items
      → count_text (codes "rules") n ++ flat_map (λ x. judged_text layout g (seen x)) given ++ unresolved_text layout g ≡ rules_text layout g (map seen items)
  all_judged seen n items given long same =
      ap₂ (λ (m : ℕ) (text : List ℕ). count_text (codes "rules") m ++ text ++ unresolved_text layout g) (long ∙ sym (length-map items seen))
      (ap (λ (l : List X). flat_map (λ x. judged_text layout g (seen x)) l) same ∙ sym (flat_map-map (judged_text layout g) seen items))
