-- One edge after the other is given the amount 0 if it leaves a kept file.
use Rattle.std.proofs.Common.{◌≡◌, ℕ, ◌+◌, ◌<◌, ◌≤◌, Bool, true, false, cond, List, [], ◌∷◌, suc, zero, length, get_or, map, set, refl, sym, ap, subst, ◌∙◌, arith}
use Rattle.std.proofs.lemmas.Bool.{cond-true, cond-false}
use Rattle.std.specs.Prelude.{slice_index_or}
use Rattle.inc_graph.specs.declared.graphs.Edge as declared
use Rattle.inc_graph.specs.IncludeGraph.{Edge}
use Rattle.inc_graph.specs.KeptEdges.{kept_up_to}
use Rattle.inc_graph.specs.MarkedEdges.{is_kept}
use Rattle.inc_graph.specs.Views.{numbered, numbered_from}

module _ (kept : List Bool) (f : Edge → ℕ) where
  kept_put : (n : ℕ) (es : List Edge) (i : ℕ) (x d : declared.Edge) → i < length (numbered_from n es) → x ≡ get_or (numbered_from n es) i d
      → slice_index_or kept x.from false ≡ true → set (kept_up_to kept f es i) i 0 ≡ kept_up_to kept f es (suc i)
  kept_put n [] i x d low is flag = absurd (omega (arith, low))
  kept_put n (e ∷ es) zero x d low is flag =
      let here : is_kept kept e ≡ true = ap (λ (y : declared.Edge). slice_index_or kept y.from false) (sym is) ∙ flag in
      ap (λ (v : ℕ). v ∷ map f es) (sym (cond-true (is_kept kept e) 0 (f e) here))
  kept_put n (e ∷ es) (suc i) x d low is flag =
      ap (λ (vs : List ℕ). cond {A = ℕ} (is_kept kept e) 0 (f e) ∷ vs) (kept_put (n + 1) es i x d (omega (arith, low)) is flag)

  kept_left : (n : ℕ) (es : List Edge) (i : ℕ) (x d : declared.Edge) → i < length (numbered_from n es) → x ≡ get_or (numbered_from n es) i d
      → slice_index_or kept x.from false ≡ false → kept_up_to kept f es i ≡ kept_up_to kept f es (suc i)
  kept_left n [] i x d low is no_flag = absurd (omega (arith, low))
  kept_left n (e ∷ es) zero x d low is no_flag =
      let here : is_kept kept e ≡ false = ap (λ (y : declared.Edge). slice_index_or kept y.from false) (sym is) ∙ no_flag in
      ap (λ (v : ℕ). v ∷ map f es) (sym (cond-false (is_kept kept e) 0 (f e) here))
  kept_left n (e ∷ es) (suc i) x d low is no_flag =
      ap (λ (vs : List ℕ). cond {A = ℕ} (is_kept kept e) 0 (f e) ∷ vs) (kept_left (n + 1) es i x d (omega (arith, low)) is no_flag)

  -- the edge with this number has a flag, or has none
  pub put_kept : (es : List Edge) (edges : List declared.Edge) (i : ℕ) (x d : declared.Edge) (old new : List ℕ) → i < length edges → x ≡ get_or edges i d
      → slice_index_or kept x.from false ≡ true → new ≡ set old i 0 → edges ≡ numbered es → old ≡ kept_up_to kept f es i → new ≡ kept_up_to kept f es (i + 1)
  put_kept es edges i x d old new low is flag put all are =
      let one : i + 1 ≡ suc i = omega arith in
      put ∙ ap (λ (ns : List ℕ). set ns i 0) are
      ∙ kept_put 0 es i x d (subst (λ (l : List declared.Edge). i < length l) all low) (is ∙ ap (λ (l : List declared.Edge). get_or l i d) all) flag
      ∙ ap (kept_up_to kept f es) (sym one)

  pub pass_other : (es : List Edge) (edges : List declared.Edge) (i : ℕ) (x d : declared.Edge) (now : List ℕ) → i < length edges → x ≡ get_or edges i d
      → slice_index_or kept x.from false ≡ false → edges ≡ numbered es → now ≡ kept_up_to kept f es i → now ≡ kept_up_to kept f es (i + 1)
  pass_other es edges i x d now low is no_flag all are =
      let one : i + 1 ≡ suc i = omega arith in
      are
      ∙ kept_left 0 es i x d (subst (λ (l : List declared.Edge). i < length l) all low) (is ∙ ap (λ (l : List declared.Edge). get_or l i d) all) no_flag
      ∙ ap (kept_up_to kept f es) (sym one)

  pub kept_whole : (es : List Edge) (i : ℕ) → length es ≤ i → kept_up_to kept f es i ≡ map (λ (e : Edge). cond {A = ℕ} (is_kept kept e) 0 (f e)) es
  kept_whole [] zero few = refl
  kept_whole [] (suc i) few = refl
  kept_whole (e ∷ es) zero few = absurd (omega (arith, few))
  kept_whole (e ∷ es) (suc i) few = ap (λ (vs : List ℕ). cond {A = ℕ} (is_kept kept e) 0 (f e) ∷ vs) (kept_whole es i (omega (arith, few)))

  pub kept_none : (es : List Edge) → kept_up_to kept f es 0 ≡ map f es
  kept_none [] = refl
  kept_none (e ∷ es) = refl
