-- The edges of a cut, mark by mark: which they are and what they cost, or a mark that names none that is editable.
use Rattle.std.proofs.Common.{◌≡◌, ℕ, ◌+◌, ◌*◌, ◌<◌, ◌≤◌, Bool, true, false, List, [], ◌∷◌, ◌++◌, ◌||◌, Option, Some, None, length, set, replicate, refl, sym, ap, subst, ◌∙◌, inl, inr, arith, get_or-set_same, get_or-set_other, length-set}
use Rattle.std.specs.Prelude.{◌==◌, ◌&&◌, not, MatchBool}
use Rattle.std.specs.List.{list_any, list_all}
use Rattle.std.specs.Option.{option_map_or}
use Rattle.std.proofs.lemmas.Bool.{cases_Bool, cases_eq}
use Rattle.std.proofs.lemmas.List.Folds.{list_any-append, list_all-append}
use Rattle.std.proofs.lemmas.List.Sums.{sum_by-cons, sum_by_push}
use Rattle.inc_lookup.specs.Projects.{Layout}
use Rattle.inc_graph.specs.Members.{is_member, is_distinct}
use Rattle.inc_graph.specs.Cuts.{Costs, most_cost, fixed_by, costs_by, total_cost}
use Rattle.inc_graph.specs.IncludeGraph.{Graph, most_directives}
use Rattle.inc_graph.specs.MarkedEdges.{edge_number}
use Rattle.inc_graph.specs.Marks.{Mark}
use Rattle.inc_graph.proofs.Fewness.{few_within}
use Rattle.inc_graph.proofs.NamedEdges.{number_within}
use Rattle.inc_graph.proofs.Walks.{distinct_push}
use Rattle.inc_check.specs.declared.certificates.Certificate.{Certificate}
use Rattle.inc_check.specs.declared.checking.cut_edges.CutEdges.{CutEdges}
use Rattle.inc_check.specs.Certificates.{is_marked_editable}
use Rattle.inc_check.specs.Checking.{IsSetOf, is_flagged, capped, AreEditable, AreKept, IsCutOf, IsNearAlone, IsPut}
use Rattle.inc_check.proofs.CheckLemmas.{IsEditableCut, IsCutSet}
use Rattle.inc_check.proofs.ChainSumLemmas.{at_good, at_bad}
use Rattle.inc_check.proofs.NamingLemmas.{none_named, named_push}
use Rattle.inc_check.proofs.SetLemmas.{member_self, member_other, distinct_met, no_flags}

---- what a test says

pub is_good : (b : Bool) (P Q : Type 0) → b ≡ true → P → MatchBool b P Q
is_good b P Q is p = subst (λ (x : Bool). MatchBool x P Q) (sym is) p

pub is_bad : (b : Bool) (P Q : Type 0) → b ≡ false → Q → MatchBool b P Q
is_bad b P Q is q = subst (λ (x : Bool). MatchBool x P Q) (sym is) q

---- lists

and_false : (b : Bool) → (b && false) ≡ false
and_false true = refl
and_false false = refl

-- a list whose last element fails
last_fails : {X : Type 0} (p : X → Bool) (xs : List X) (x : X) → p x ≡ false → list_all p (xs ++ x ∷ []) ≡ false
last_fails p xs x fails = list_all-append p xs (x ∷ []) ∙ ap (λ b. list_all p xs && (b && true)) fails ∙ and_false (list_all p xs)

first_fails : {X : Type 0} (p : X → Bool) (xs : List X) (x : X) → list_all p xs ≡ false → list_all p (xs ++ x ∷ []) ≡ false
first_fails p xs x fails = list_all-append p xs (x ∷ []) ∙ ap (λ b. b && list_all p (x ∷ [])) fails

none_push : (p : ℕ → Bool) (ns : List ℕ) (n : ℕ) → list_any p ns ≡ false → p n ≡ false → list_any p (ns ++ n ∷ []) ≡ false
none_push p ns n none fails = list_any-append p ns (n ∷ []) ∙ ap (λ b. b || (p n || false)) none ∙ ap (λ b. b || false) fails

-- a number that is twice stays so
member_more : (m : ℕ) (ns : List ℕ) (n : ℕ) → is_member m ns ≡ true → is_member m (ns ++ n ∷ []) ≡ true
member_more m ns n met = list_any-append (λ k. k == m) ns (n ∷ []) ∙ ap (λ b. b || is_member m (n ∷ [])) met

repeated_more : (ns : List ℕ) (n : ℕ) → is_distinct ns ≡ false → is_distinct (ns ++ n ∷ []) ≡ false
repeated_more [] n twice = cc
repeated_more (m ∷ ms) n twice = elim (cases_Bool (is_member m ms)) [
  | inl met ↦ ap (λ b. not b && is_distinct (ms ++ n ∷ [])) (member_more m ms n met)
  | inr none ↦
      let later : is_distinct ms ≡ false = sym (ap (λ b. not b && is_distinct ms) none) ∙ twice in
      ap (λ b. not (is_member m (ms ++ n ∷ [])) && b) (repeated_more ms n later) ∙ and_false (not (is_member m (ms ++ n ∷ [])))
]

-- one more edge with a flag
flag_push : (count : ℕ) (edges : List ℕ) (i : ℕ) (old new : List Bool) → i < count → is_flagged old i ≡ false → new ≡ set old i true → IsSetOf count edges old → IsSetOf count (edges ++ i ∷ []) new
flag_push count edges i old new within fresh put so_far =
    let inside : i < length old = let l = so_far.long in omega arith in
    subst (λ (fs : List Bool). IsSetOf count (edges ++ i ∷ []) fs) (sym put) (record {
      once = distinct_push edges i so_far.once (sym (so_far.are i within) ∙ fresh);
      long = length-set old i true ∙ so_far.long;
      are = λ k below. elim (cases_eq k i) [
        | inl same ↦ ap (λ (j : ℕ). is_flagged (set old i true) j) same ∙ get_or-set_same old i true false inside ∙ sym (ap (λ (j : ℕ). is_member j (edges ++ i ∷ [])) same ∙ member_self i edges)
        | inr apart ↦ get_or-set_other old i k true false apart ∙ so_far.are k below ∙ sym (member_other k edges i (λ q. apart (sym q)))
      ];
    })

---- costs

capped_more : (a c : ℕ) → capped (capped a + c) ≡ capped (a + c)
capped_more a c = omega arith

cost_push : (cost : Costs) (edges : List ℕ) (i old new : ℕ) → old ≡ capped (total_cost cost edges) → new ≡ capped (old + cost i) → new ≡ capped (total_cost cost (edges ++ i ∷ []))
cost_push cost edges i old new so_far is = is ∙ ap (λ (n : ℕ). capped (n + cost i)) so_far ∙ capped_more (total_cost cost edges) (cost i) ∙ sym (ap capped (sum_by_push cost edges i))

total_most : (cost : Costs) (edges : List ℕ) → ((i : ℕ) → cost i ≤ most_cost) → total_cost cost edges ≤ most_cost * length edges
total_most cost [] most = omega arith
total_most cost (i ∷ is) most =
    let first = most i in
    let rest = total_most cost is most in
    let whole = sum_by-cons cost i is in
    omega arith

---- a cut, mark by mark

module _ (layout : Layout) (g : Graph) (amounts : List ℕ) where
  pub cut_none : (c : CutEdges) → c.editable ≡ true → c.once ≡ true → c.cost ≡ 0 → c.flags.items ≡ replicate (length g.edges) false → IsCutOf layout g amounts [] c
  cut_none c editable once cost none =
      is_good c.editable _ _ editable (
        [],
        record { named = none_named layout g; free = refl },
        is_good c.once _ _ once (no_flags (length g.edges) c.flags.items none, cost),
      )

  -- only where the next mark is looked for is another
  cut_near : (marks : List Mark) (old new : CutEdges) → IsNearAlone old new → IsCutOf layout g amounts marks old → IsCutOf layout g amounts marks new
  cut_near marks old new alone so_far = subst (λ (c : CutEdges). IsCutOf layout g amounts marks c) (sym alone) so_far

  -- a mark before did not name an editable edge
  pub cut_lost : (marks : List Mark) (m : Mark) (c : CutEdges) → c.editable ≡ false → IsCutOf layout g amounts marks c → IsCutOf layout g amounts (marks ++ m ∷ []) c
  cut_lost marks m c bad so_far = is_bad c.editable _ _ bad (first_fails (is_marked_editable layout g (fixed_by amounts)) marks m (at_bad c.editable _ _ bad so_far))

  -- this one names no edge
  pub cut_unnamed : (marks : List Mark) (m : Mark) (c : CutEdges) → c.editable ≡ false → edge_number layout g m ≡ None → IsCutOf layout g amounts (marks ++ m ∷ []) c
  cut_unnamed marks m c bad none =
      is_bad c.editable _ _ bad (last_fails (is_marked_editable layout g (fixed_by amounts)) marks m (ap (λ (o : Option ℕ). option_map_or (λ i. not (fixed_by amounts i)) o false) none))

  -- or one that is fixed
  cut_fixed : (marks : List Mark) (m : Mark) (i : ℕ) (c : CutEdges) → c.editable ≡ false → edge_number layout g m ≡ Some i → fixed_by amounts i ≡ true → IsCutOf layout g amounts (marks ++ m ∷ []) c
  cut_fixed marks m i c bad is fixed =
      is_bad c.editable _ _ bad (last_fails (is_marked_editable layout g (fixed_by amounts)) marks m
      (ap (λ (o : Option ℕ). option_map_or (λ j. not (fixed_by amounts j)) o false) is ∙ ap not fixed))

  kept_push : (edges : List ℕ) (i : ℕ) (old new : CutEdges) (b f : Bool) → i < length g.edges → old.once ≡ b → is_flagged old.flags.items i ≡ f → IsPut amounts i old new → AreKept g amounts edges old
      → AreKept g amounts (edges ++ i ∷ []) new
  kept_push edges i old new false f within once flag put so_far =
      is_bad new.once _ _ (put.once ∙ ap (λ b. b && not (is_flagged old.flags.items i)) once) (repeated_more edges i (at_bad old.once _ _ once so_far))
  kept_push edges i old new true true within once flag put so_far =
      let kept = at_good old.once _ _ once so_far in
      is_bad new.once _ _ (put.once ∙ ap (λ b. b && not (is_flagged old.flags.items i)) once ∙ ap not flag) (distinct_met edges i [] (sym (kept.0.are i within) ∙ flag))
  kept_push edges i old new true false within once flag put so_far =
      let kept = at_good old.once _ _ once so_far in
      is_good new.once _ _ (put.once ∙ ap (λ b. b && not (is_flagged old.flags.items i)) once ∙ ap not flag) (
        flag_push (length g.edges) edges i old.flags.items new.flags.items within flag put.flags kept.0,
        cost_push (costs_by amounts) edges i old.cost new.cost kept.1 put.cost,
      )

  -- this one names an editable edge
  cut_more : (marks : List Mark) (m : Mark) (i : ℕ) (old new : CutEdges) → old.editable ≡ true → new.editable ≡ true → edge_number layout g m ≡ Some i → fixed_by amounts i ≡ false → IsPut amounts i old new
      → IsCutOf layout g amounts marks old → IsCutOf layout g amounts (marks ++ m ∷ []) new
  cut_more marks m i old new good still is free put so_far =
      let before = at_good old.editable _ _ good so_far in
      let edges : List ℕ = before.0 in
      is_good new.editable _ _ still (
        edges ++ i ∷ [],
        record {
          named = named_push layout g marks m i edges is before.1.named;
          free = none_push (fixed_by amounts) edges i before.1.free free;
        },
        kept_push edges i old new old.once (is_flagged old.flags.items i) (number_within layout g m i is) refl refl put before.2,
      )

  -- an edge that is put, or is fixed
  put_by : (b : Bool) (marks : List Mark) (m : Mark) (i : ℕ) (old new : CutEdges) → new.editable ≡ b → old.editable ≡ true → edge_number layout g m ≡ Some i
      → MatchBool b ((fixed_by amounts i ≡ false) × IsPut amounts i old new) ((fixed_by amounts i ≡ true) × (new ≡ record old { editable = false }))
      → IsCutOf layout g amounts marks old → IsCutOf layout g amounts (marks ++ m ∷ []) new
  put_by true marks m i old new still good is put so_far = cut_more marks m i old new good still is put.0 put.1 so_far
  put_by false marks m i old new still good is put so_far = cut_fixed marks m i new still is put.0

  pub cut_put : (marks : List Mark) (m : Mark) (i : ℕ) (old mid new : CutEdges) → old.editable ≡ true → edge_number layout g m ≡ Some i → IsNearAlone old mid
      → MatchBool new.editable ((fixed_by amounts i ≡ false) × IsPut amounts i mid new) ((fixed_by amounts i ≡ true) × (new ≡ record mid { editable = false }))
      → IsCutOf layout g amounts marks old → IsCutOf layout g amounts (marks ++ m ∷ []) new
  cut_put marks m i old mid new good is alone put so_far =
      let still : mid.editable ≡ true = ap (λ (c : CutEdges). c.editable) alone ∙ good in
      put_by new.editable marks m i mid new refl still is put (cut_near marks old mid alone so_far)

  ---- a whole cut

  -- what is known of a cut whose marks name editable edges, none of them twice
  pub record IsKnownCut (k : Certificate) (c : CutEdges) : Type 0 where
    pub edges : List ℕ
    pub set : IsCutSet layout g (fixed_by amounts) (costs_by amounts) k edges c.flags.items
    pub cost : c.cost ≡ total_cost (costs_by amounts) edges
    pub low : total_cost (costs_by amounts) edges ≤ most_cost * most_directives

  editable_cut : (k : Certificate) (edges : List ℕ) → AreEditable layout g amounts k.cut edges → IsEditableCut layout g (fixed_by amounts) (costs_by amounts) k edges
  editable_cut k edges is = record { named = is.named; free = is.free }

  -- a cut whose marks name editable edges, one of them twice
  pub repeated_cut : (k : Certificate) (c : CutEdges) → c.editable ≡ true → c.once ≡ false → IsCutOf layout g amounts k.cut c
      → (edges : List ℕ) × IsEditableCut layout g (fixed_by amounts) (costs_by amounts) k edges × (is_distinct edges ≡ false)
  repeated_cut k c good twice of =
      let all = at_good c.editable _ _ good of in
      (all.0, editable_cut k all.0 all.1, at_bad c.once _ _ twice all.2)

  capped_low : (n m : ℕ) → m ≤ most_cost * most_directives → n ≡ capped m → n ≡ m
  capped_low n m low is = omega arith

  pub known_cut : (k : Certificate) (c : CutEdges) → ((i : ℕ) → costs_by amounts i ≤ most_cost) → length g.edges ≤ most_directives → c.editable ≡ true → c.once ≡ true → IsCutOf layout g amounts k.cut c → IsKnownCut k c
  known_cut k c most sized good once of =
      let all = at_good c.editable _ _ good of in
      let edges : List ℕ = all.0 in
      let kept = at_good c.once _ _ once all.2 in
      let few = few_within (length g.edges) edges kept.0.once all.1.named.within in
      let total = total_most (costs_by amounts) edges most in
      let low : total_cost (costs_by amounts) edges ≤ most_cost * most_directives = omega arith in
      record {
        edges = edges;
        set = record { editable = editable_cut k edges all.1; set = kept.0 };
        cost = capped_low c.cost (total_cost (costs_by amounts) edges) low kept.1;
        low = low;
      }
