-- Walks of which the first elements are taken.
use Rattle.std.proofs.Common.{◌≡◌, ◌∙◌, ℕ, suc, ◌+◌, ◌-◌, ◌<◌, ◌≤◌, Bool, true, false, List, [], ◌∷◌, ◌++◌, Option, ap, arith, cond, length, map, sym, take}
use Rattle.std.specs.Prelude.{codes, flat_map}
use Rattle.std.proofs.lemmas.List.{append_assoc, length-map, take-map}
use Rattle.inc_lookup.specs.Projects.{Layout}
use Rattle.inc_graph.specs.IncludeGraph.{Graph}
use Rattle.inc_graph.specs.Marks.{Mark}
use Rattle.inc_graph.specs.Reaching.{Reaching}
use Rattle.inc_check.specs.Certificates.{marks_of}
use Rattle.inc_answers.specs.Bounds.{first_of, left_out, shown_count}
use Rattle.inc_answers.specs.MarkTexts.{chains_text, list_text, more_text}
use Rattle.inc_answers.specs.Numbers.{count_text}
use Rattle.inc_answers.specs.WhoText.{reaching_text, sources_text}
use Rattle.inc_answers.proofs.WhyLemmas.{flat_map-map}

module _ {X : Type 0} (shown place : ℕ) (low : place < shown) where
  -- an element is left as long as not all of them are taken
  pub some_left : (b : Bool) (left : List X) (x : X) (rest : List X) → shown ≤ place + length left → left ≡ cond b (x ∷ rest) [] → left ≡ x ∷ rest
  some_left true left x rest enough is = is
  some_left false left x rest enough is = absurd (omega (arith, low, enough, ap (λ (l : List X). length l) is))

  -- it is the next that is taken
  pub next_taken : (left : List X) (x : X) (rest : List X) → left ≡ x ∷ rest → take (shown - place) left ≡ x ∷ take (shown - (place + 1)) rest
  next_taken left x rest is =
      let more : shown - place ≡ suc (shown - (place + 1)) = omega (arith, low) in
      ap (λ (l : List X). take (shown - place) l) is ∙ ap (λ (n : ℕ). take n (x ∷ rest)) more

  pub enough_left : (left : List X) (x : X) (rest : List X) → left ≡ x ∷ rest → shown ≤ place + length left → shown ≤ (place + 1) + length rest
  enough_left left x rest is enough = omega (arith, enough, ap (λ (l : List X). length l) is)

-- once all of them are taken no more are
pub none_to_take : {X : Type 0} (shown place : ℕ) (left : List X) → shown ≤ place → take (shown - place) left ≡ []
none_to_take shown place left done = let none : shown - place ≡ 0 = omega (arith, done) in ap (λ (n : ℕ). take n left) none

-- the first elements are added, and how many more there are
pub first_added : {X A : Type 0} (text : List X → List A) (more : ℕ → List A) (most : Option ℕ) (xs : List X) (total shown : ℕ) (old now : List A)
    → total ≡ length xs → shown ≡ shown_count most total → now ≡ old ++ text (take shown xs)
    → now ++ more (total - shown) ≡ old ++ (text (first_of most xs) ++ more (left_out most (length xs)))
first_added text more most xs total shown old now all few is =
    let same : shown ≡ shown_count most (length xs) = few ∙ ap (shown_count most) all in
    ap (λ l. l ++ more (total - shown)) is ∙ append_assoc old (text (take shown xs)) (more (total - shown))
    ∙ ap (λ (n : ℕ). old ++ (text (take n xs) ++ more (total - n))) same
    ∙ ap (λ (n : ℕ). old ++ (text (first_of most xs) ++ more (n - shown_count most (length xs)))) all

---- texts

-- how many elements there are, the first of them, and how many more there are
bounded : {X : Type 0} (word : List ℕ) (text : X → List ℕ) (most : Option ℕ) (xs : List X) (total shown : ℕ) → total ≡ length xs → shown ≡ shown_count most total
    → count_text word total ++ flat_map text (take shown xs) ++ more_text (total - shown)
    ≡ count_text word (length xs) ++ flat_map text (first_of most xs) ++ more_text (left_out most (length xs))
bounded word text most xs total shown all few =
    let same : shown ≡ shown_count most (length xs) = few ∙ ap (shown_count most) all in
    ap (λ (k : ℕ). count_text word total ++ flat_map text (take k xs) ++ more_text (total - k)) same
    ∙ ap (λ (n : ℕ). count_text word n ++ flat_map text (first_of most xs) ++ more_text (n - shown_count most (length xs))) all

pub sources_bounded : (with_chains : Bool) (most : Option ℕ) (layout : Layout) (g : Graph) (rs : List Reaching) (total shown : ℕ) → total ≡ length rs → shown ≡ shown_count most total
    → count_text (codes "who") total ++ flat_map (reaching_text with_chains layout g) (take shown rs) ++ more_text (total - shown) ≡ sources_text with_chains most layout g rs
sources_bounded with_chains most layout g rs total shown all few = bounded (codes "who") (reaching_text with_chains layout g) most rs total shown all few

pub chains_bounded : (layout : Layout) (g : Graph) (most : Option ℕ) (chains : List (List ℕ)) (total shown : ℕ) → total ≡ length chains → shown ≡ shown_count most total
    → count_text (codes "chains") total ++ flat_map (λ chain. list_text (codes "chain") (marks_of layout g chain)) (take shown chains) ++ more_text (total - shown)
    ≡ chains_text most (map (marks_of layout g) chains)
chains_bounded layout g most chains total shown all few =
    let text : List Mark → List ℕ = list_text (codes "chain") in
    let marked : flat_map (λ chain. text (marks_of layout g chain)) (take shown chains) ≡ flat_map text (take shown (map (marks_of layout g) chains)) =
    sym (ap (flat_map text) (take-map (marks_of layout g) shown chains) ∙ flat_map-map text (marks_of layout g) (take shown chains)) in
    ap (λ (t : List ℕ). count_text (codes "chains") total ++ t ++ more_text (total - shown)) marked
    ∙ bounded (codes "chains") text most (map (marks_of layout g) chains) total shown (all ∙ sym (length-map chains (marks_of layout g))) few
