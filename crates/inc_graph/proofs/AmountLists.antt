-- The amounts of edges, put one mark after the other.
use Rattle.std.proofs.Common.{◌≡◌, ℕ, ◌+◌, ◌<◌, ◌≤◌, Bool, true, false, cond, List, [], ◌∷◌, ◌++◌, ◌||◌, inl, inr, suc, zero, Option, Some, None, length, take, set, get_or, refl, sym, ap, ◌∙◌, arith}
use Rattle.std.specs.Prelude.{◌==◌, if◌then◌else◌, map, not, nat_lt, replicate, slice_get, bytes_eq}
use Rattle.std.specs.List.{list_any}
use Rattle.std.proofs.lemmas.Bool.{cases_Bool, cond-true, cond-false, le-ltb, ltb-false, or_parts, and_parts, and_from, eqb-true, eq-eqb, true≢false, not-true, not_from_false}
use Rattle.std.proofs.lemmas.List.{take_all, take_more}
use Rattle.std.proofs.lemmas.Option.{none-some, same_Some}
use Rattle.std.proofs.lemmas.List.Folds.{list_any-append, list_any_none}
use Rattle.std.proofs.lemmas.List.Elements.{All-replicate}
use Rattle.std.proofs.lemmas.Simd.{splat_is_map}
use Rattle.std.proofs.lemmas.Slice.Eq.{bytes_eq-Decides}
use Rattle.inc_lookup.specs.Projects.{Layout, path_at}
use Rattle.inc_graph.specs.declared.graphs.Edge as declared
use Rattle.inc_graph.specs.Cuts.{most_cost, costs_by, are_amounts}
use Rattle.inc_graph.specs.IncludeGraph.{Edge, Graph}
use Rattle.inc_graph.specs.Views.{numbered}
use Rattle.inc_graph.specs.Marks.{Mark, Cost}
use Rattle.inc_graph.specs.MarkedEdges.{names_edge, edge_number, amount_for, same_mark, marks_of_costs}
use Rattle.inc_graph.proofs.NamedEdges.{names_it}
use Rattle.inc_graph.proofs.NumberedEdges.{length-numbered_from}

---- one amount

-- where no element passes
none_set : {X : Type 0} (p : X → Bool) (f : X → ℕ) (v : ℕ) (xs : List X) → ((k : ℕ) (x : X) → slice_get xs k ≡ Some x → p x ≡ true → ⊥) → map f xs ≡ map (λ x. cond {A = ℕ} (p x) v (f x)) xs
none_set p f v [] none = refl
none_set p f v (x ∷ xs) none =
    elim (cases_Bool (p x)) [
      | inl passes ↦ absurd (none 0 x refl passes)
      | inr fails ↦
          ap (λ (n : ℕ). n ∷ map f xs) (sym (cond-false (p x) v (f x) fails))
          ∙ ap (λ (ns : List ℕ). cond {A = ℕ} (p x) v (f x) ∷ ns) (none_set p f v xs (λ k y at. none (suc k) y at))
    ]

-- at the place of the only element that passes
only_set : {X : Type 0} (p : X → Bool) (f : X → ℕ) (v i : ℕ) (xs : List X) → ((k : ℕ) (x : X) → slice_get xs k ≡ Some x → p x ≡ true → k ≡ i) → ((x : X) → slice_get xs i ≡ Some x → p x ≡ true)
    → set (map f xs) i v ≡ map (λ x. cond {A = ℕ} (p x) v (f x)) xs
only_set p f v i [] only here = refl
only_set p f v zero (x ∷ xs) only here =
    ap (λ (n : ℕ). n ∷ map f xs) (sym (cond-true (p x) v (f x) (here x refl)))
    ∙ ap (λ (ns : List ℕ). cond {A = ℕ} (p x) v (f x) ∷ ns) (none_set p f v xs (λ k y at passes. let e = only (suc k) y at passes in absurd (omega arith)))
only_set p f v (suc i) (x ∷ xs) only here =
    elim (cases_Bool (p x)) [
      | inl passes ↦ let e = only 0 x refl passes in absurd (omega arith)
      | inr fails ↦
          ap (λ (n : ℕ). n ∷ set (map f xs) i v) (sym (cond-false (p x) v (f x) fails))
          ∙ ap (λ (ns : List ℕ). cond {A = ℕ} (p x) v (f x) ∷ ns)
          (only_set p f v i xs (λ k y at passes. let e = only (suc k) y at passes in omega arith) here)
    ]

module _ (layout : Layout) (g : Graph) (m : Mark) (v : ℕ) (old new : List ℕ) (o : Option ℕ) (is : o ≡ edge_number layout g m)
    (only : (k : ℕ) (e : Edge) → slice_get g.edges k ≡ Some e → names_edge layout m e ≡ true → o ≡ Some k) where
  -- what a mark that names an edge puts
  pub put_there : (i : ℕ) → o ≡ Some i → new ≡ set old i v → (f : Edge → ℕ) → old ≡ map f g.edges → new ≡ map (λ (e : Edge). if names_edge layout m e then v else f e) g.edges
  put_there i here put f are =
      put ∙ ap (λ (ns : List ℕ). set ns i v) are
      ∙ only_set (names_edge layout m) f v i g.edges (λ k e at passes. sym (same_Some i k (sym here ∙ only k e at passes))) (λ e at. names_it layout g m i e (sym is ∙ here) at)

  -- and one that names none
  pub put_nowhere : o ≡ None → new ≡ old → (f : Edge → ℕ) → old ≡ map f g.edges → new ≡ map (λ (e : Edge). if names_edge layout m e then v else f e) g.edges
  put_nowhere none put f are =
      put ∙ are ∙ none_set (names_edge layout m) f v g.edges (λ k e at passes. none-some k (sym none ∙ only k e at passes))

any_set : (p : ℕ → Bool) (ns : List ℕ) (i n : ℕ) → list_any p ns ≡ false → p n ≡ false → list_any p (set ns i n) ≡ false
any_set p [] i n none low = refl
any_set p (x ∷ xs) zero n none low = ap (λ b. b || list_any p xs) low ∙ (or_parts (p x) (list_any p xs) none).1
any_set p (x ∷ xs) (suc i) n none low =
    let parts = or_parts (p x) (list_any p xs) none in
    ap (λ b. b || list_any p (set xs i n)) parts.0 ∙ any_set p xs i n parts.1 low

pub amounts_set : (old new : List ℕ) (i n : ℕ) → n ≤ most_cost → new ≡ set old i n → are_amounts old ≡ true → are_amounts new ≡ true
amounts_set old new i n low put are =
    ap are_amounts put ∙ ap not (any_set (λ k. nat_lt most_cost k) old i n (not-true _ are) (le-ltb _ _ low))

---- all of them

map_agree : {X : Type 0} (f h : X → ℕ) (xs : List X) → ((x : X) → f x ≡ h x) → map f xs ≡ map h xs
map_agree f h [] same = refl
map_agree f h (x ∷ xs) same = ap (λ (n : ℕ). n ∷ map f xs) (same x) ∙ ap (λ (ns : List ℕ). h x ∷ ns) (map_agree f h xs same)

-- one more cost in front
amount_more : (layout : Layout) (c : Cost) (cs : List Cost) (e : Edge) → (if names_edge layout c.mark e then c.amount else amount_for layout cs e) ≡ amount_for layout (c ∷ cs) e
amount_more layout c cs e = by_test (names_edge layout c.mark e) refl
  where
    by_test : (b : Bool) → names_edge layout c.mark e ≡ b → (if b then c.amount else amount_for layout cs e) ≡ amount_for layout (c ∷ cs) e
    by_test true is = sym (rw is refl)
    by_test false is = sym (rw is refl)

-- marks of one edge are the same
names_one : (layout : Layout) (a b : Mark) (e : Edge) → names_edge layout a e ≡ true → names_edge layout b e ≡ true → same_mark a b ≡ true
names_one layout a b e first second =
    let path : List ℕ = path_at layout e.from in
    let p = and_parts (bytes_eq a.path path) (a.line == e.line) first in
    let q = and_parts (bytes_eq b.path path) (b.line == e.line) second in
    and_from (bytes_eq a.path b.path) (a.line == b.line)
    ((bytes_eq-Decides a.path b.path).1 ((bytes_eq-Decides a.path path).0 p.0 ∙ sym ((bytes_eq-Decides b.path path).0 q.0)))
    (eq-eqb a.line b.line (eqb-true a.line e.line p.1 ∙ sym (eqb-true b.line e.line q.1)))

-- two tests that do not both hold
either_first : (p q : Bool) (x y z : ℕ) → (p ≡ true → q ≡ true → ⊥) → (if p then x else (if q then y else z)) ≡ (if q then y else (if p then x else z))
either_first true true x y z apart = absurd (apart refl refl)
either_first true false x y z apart = refl
either_first false q x y z apart = refl

-- one more cost behind the others, none of which has its mark
amount_behind : (layout : Layout) (cs : List Cost) (c : Cost) (e : Edge) → list_any (same_mark c.mark) (marks_of_costs cs) ≡ false
    → (if names_edge layout c.mark e then c.amount else amount_for layout cs e) ≡ amount_for layout (cs ++ c ∷ []) e
amount_behind layout [] c e fresh = amount_more layout c [] e
amount_behind layout (d ∷ ds) c e fresh =
    let parts = or_parts (same_mark c.mark d.mark) (list_any (same_mark c.mark) (marks_of_costs ds)) fresh in
    ap (λ (n : ℕ). if names_edge layout c.mark e then c.amount else n) (sym (amount_more layout d ds e))
    ∙ either_first (names_edge layout c.mark e) (names_edge layout d.mark e) c.amount d.amount (amount_for layout ds e)
    (λ first second. true≢false (sym (names_one layout c.mark d.mark e first second) ∙ parts.0))
    ∙ ap (λ (n : ℕ). if names_edge layout d.mark e then d.amount else n) (amount_behind layout ds c e parts.1)
    ∙ amount_more layout d (ds ++ c ∷ []) e

pub cost_put : (layout : Layout) (cs : List Cost) (c : Cost) (es : List Edge) (new : List ℕ) → list_any (same_mark c.mark) (marks_of_costs cs) ≡ false
    → new ≡ map (λ (e : Edge). if names_edge layout c.mark e then c.amount else amount_for layout cs e) es → new ≡ map (amount_for layout (cs ++ c ∷ [])) es
cost_put layout cs c es new fresh are = are ∙ map_agree _ _ es (λ (e : Edge). amount_behind layout cs c e fresh)

or_round : (a b : Bool) (x : ℕ) → (if b then 0 else (if a then 0 else x)) ≡ (if a || (b || false) then 0 else x)
or_round true true x = refl
or_round true false x = refl
or_round false true x = refl
or_round false false x = refl

-- one more mark
pub marks_step : (layout : Layout) (f : Edge → ℕ) (ms : List Mark) (index : ℕ) (m : Mark) (es : List Edge) (new : List ℕ) → index < length ms → m ≡ get_or ms index m
    → new ≡ map (λ (e : Edge). if names_edge layout m e then 0 else (if list_any (λ (x : Mark). names_edge layout x e) (take index ms) then 0 else f e)) es
    → new ≡ map (λ (e : Edge). if list_any (λ (x : Mark). names_edge layout x e) (take (index + 1) ms) then 0 else f e) es
marks_step layout f ms index m es new low is are =
    are ∙ map_agree _ _ es (λ (e : Edge).
    or_round (list_any (λ (x : Mark). names_edge layout x e) (take index ms)) (names_edge layout m e) (f e)
    ∙ ap (λ (b : Bool). if b then 0 else f e)
    (sym (ap (list_any (λ (x : Mark). names_edge layout x e)) (take_more ms index m low ∙ ap (λ (x : Mark). take index ms ++ x ∷ []) (sym is))
    ∙ list_any-append (λ (x : Mark). names_edge layout x e) (take index ms) (m ∷ []))))

-- all marks
pub marks_whole : (layout : Layout) (f : Edge → ℕ) (ms : List Mark) (index : ℕ) (es : List Edge) (new : List ℕ) → length ms ≤ index
    → new ≡ map (λ (e : Edge). if list_any (λ (x : Mark). names_edge layout x e) (take index ms) then 0 else f e) es
    → new ≡ map (λ (e : Edge). if list_any (λ (x : Mark). names_edge layout x e) ms then 0 else f e) es
marks_whole layout f ms index es new end are =
    are ∙ ap (λ (l : List Mark). map (λ (e : Edge). if list_any (λ (x : Mark). names_edge layout x e) l then 0 else f e) es) (take_all index ms end)

-- 1 is a cost
pub ones_fit : (n : ℕ) → are_amounts (replicate n 1) ≡ true
ones_fit n = ap not (list_any_none (λ k. nat_lt most_cost k) (replicate n 1) (All-replicate (λ k. nat_lt most_cost k ≡ false) n 1 refl))

-- all edges at cost 1
pub ones : (g : Graph) (ns : List declared.Edge) (items : List ℕ) → ns ≡ numbered g.edges → items ≡ replicate (length ns) 1 → (items ≡ map (λ (e : Edge). 1) g.edges) × (are_amounts items ≡ true)
ones g ns items are is =
    let count : length g.edges ≡ length ns = sym (ap (λ (l : List declared.Edge). length l) are ∙ length-numbered_from 0 g.edges) in (
      is ∙ splat_is_map g.edges (length ns) 1 count,
      ap are_amounts is ∙ ones_fit (length ns),
    )

-- no edge costs more than the greatest cost
pub costs_most : (amounts : List ℕ) → are_amounts amounts ≡ true → (i : ℕ) → costs_by amounts i ≤ 1_000_000
costs_most [] all i = omega arith
costs_most (n ∷ ns) all zero = ltb-false 1_000_000 n (or_parts (nat_lt 1_000_000 n) (list_any (λ m. nat_lt 1_000_000 m) ns) (not-true _ all)).0
costs_most (n ∷ ns) all (suc i) =
    costs_most ns (not_from_false (list_any (λ m. nat_lt 1_000_000 m) ns) (or_parts (nat_lt 1_000_000 n) (list_any (λ m. nat_lt 1_000_000 m) ns) (not-true _ all)).1) i
