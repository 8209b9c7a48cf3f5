-- The edges of the files of a graph, by flags of the right side of a rule.
use Rattle.std.proofs.Common.{◌≡◌, ◌∙◌, ℕ, ◌<◌, ◌≤◌, ◌&&◌, ◌||◌, Bool, true, false, List, [], ◌∷◌, Option, Some, None, ap, ap₂, ◌++◌, ◌+◌, ◌==◌, arith, cond, get_or, length, not, refl, subst, sym, zero-add, add-one, append_assoc, drop}
use Rattle.std.specs.Prelude.{filter, flat_map, nat_lt, slice_get, slice_index, slice_index_or, IfSome}
use Rattle.std.specs.List.{All, list_any, range_with_len}
use Rattle.std.specs.List.Sorted.{IsStrictlyIncreasing}
use Rattle.std.specs.Option.{option_map_or}
use Rattle.std.proofs.lemmas.Bool.{eqb-true}
use Rattle.std.proofs.lemmas.List.{append-nil, drop_all, get_or_default, map-id, nil_from_length}
use Rattle.std.proofs.Math.Seq.{drop-cons}
use Rattle.std.proofs.lemmas.List.Elements.{All-cons, All-filter, All-head, All-tail, filter-append}
use Rattle.std.proofs.lemmas.List.FromFn.{get_or-range_with_len, length-range_with_len, map-range_with_len_more}
use Rattle.std.proofs.lemmas.List.Kept.{IsStrictlyIncreasing-filter}
use Rattle.std.proofs.lemmas.Option.{get_or_from_slice_get, slice_get_within}
use Rattle.inc_graph.specs.IncludeGraph.{Graph, IsSound}
use Rattle.inc_graph.specs.Indexes.{edges_leaving}
use Rattle.inc_graph.specs.declared.graphs.Edge.{Edge}
use Rattle.inc_graph.proofs.FirstWalks.{edge_within}
use Rattle.inc_graph.proofs.LeavingEdges.{leaving_at}
use Rattle.inc_graph.proofs.Walks.{chain-within}
use Rattle.inc_graph.specs.Reaching.{Reaching, AreReaching, alone, no_more, reaches, reaches_none}
use Rattle.inc_lookup.specs.Projects.{Layout, path_at}
use Rattle.inc_rules.specs.declared.rules.Verb.{Verb}
use Rattle.inc_rules.specs.declared.rules.Verb.TheVariants.{NotReach, NotInclude, Include, IncludeFirst}
use Rattle.inc_rules.specs.Judging.{AreBreaks, AreJudged, AreReachChains, Judged, across_chains, and_rule, includes, includes_first, is_first_across, is_right_file, left_files, no_rule, opens_before, right_files}
use Rattle.inc_rules.specs.Lines.{AreOpens, AreRight}
use Rattle.inc_rules.specs.Rules.{Rule, is_left}

-- the edges of the chains of sources are those of their graph
pub reaching_within : (g : Graph) (sources : List ℕ) (xs : List Reaching) → AreReaching g sources xs → All (λ (x : Reaching). All (λ i. i < length g.edges) x.chain) xs
reaching_within g [] [] no_more = λ k d low. absurd (omega (arith, low))
reaching_within g (s ∷ ss) (x ∷ xs) (reaches first more) =
    All-cons (λ (y : Reaching). All (λ i. i < length g.edges) y.chain) x xs (chain-within (alone s g) x.chain first.real) (reaching_within g ss xs more)
reaching_within g (s ∷ ss) xs (reaches_none none more) = reaching_within g ss xs more
reaching_within g [] (x ∷ xs) h = elim h [ ]

-- tests that agree on elements find one or none of them
any_same : {X : Type 0} (p q : X → Bool) (xs : List X) → All (λ x. p x ≡ q x) xs → list_any p xs ≡ list_any q xs
any_same p q [] all = refl
any_same p q (x ∷ xs) all =
    ap₂ (λ (a b : Bool). a || b) (All-head (λ y. p y ≡ q y) x xs all) (any_same p q xs (All-tail (λ y. p y ≡ q y) x xs all))

module _ (g : Graph) (f : ℕ) (sound : IsSound g) where
  abbrev edges : List Edge
  edges = edges_leaving g.edges f

  -- the edges that leave a file lead to files of the graph
  pub leaving_within : All (λ (e : Edge). e.to < g.files) edges
  leaving_within k d low = edge_within g f k edges (get_or edges k d) sound refl low (get_or_default edges k d (get_or edges k d) low)

  module _ (layout : Layout) (r : Rule) (right : List Bool) (are : AreRight g.files layout r right) where
    pub includes_is : list_any (λ (e : Edge). slice_index_or right e.to false) edges ≡ includes layout g r f
    includes_is =
        any_same (λ (e : Edge). slice_index_or right e.to false) (λ (e : Edge). is_right_file layout r e.to) edges
        (λ k d low. are.each (get_or edges k d).to (leaving_within k d low))

    first_by : (opens : List ℕ) (e : Edge) → AreOpens g opens → f < g.files → slice_get edges 0 ≡ Some e → e.line ≤ 4_294_967_295
        → (slice_index_or right e.to false && not (nat_lt (slice_index opens f) e.line)) ≡ is_first_across layout g r e
    first_by opens e known within at short =
        let to : e.to < g.files = subst (λ (x : Edge). x.to < g.files) (get_or_from_slice_get edges 0 e e at) (leaving_within 0 e (slice_get_within edges 0 e at)) in
        let from : e.from ≡ f = (leaving_at g f 0 e at).1 in
        ap₂ (λ (a b : Bool). a && not b) (are.each e.to to)
        (known.each f e.line within short ∙ ap (λ (x : ℕ). opens_before g x e.line) (sym from))

    pub first_is : (opens : List ℕ) → AreOpens g opens → f < g.files → IfSome (slice_get edges 0) (λ (e : Edge). e.line ≤ 4_294_967_295)
        → option_map_or (λ (e : Edge). slice_index_or right e.to false && not (nat_lt (slice_index opens f) e.line)) (slice_get edges 0) false
        ≡ includes_first layout g r f
    first_is opens known within short = by_first (slice_get edges 0) refl short
      where
        by_first : (o : Option Edge) → slice_get edges 0 ≡ o → IfSome o (λ (e : Edge). e.line ≤ 4_294_967_295)
            → option_map_or (λ (e : Edge). slice_index_or right e.to false && not (nat_lt (slice_index opens f) e.line)) o false ≡ option_map_or (is_first_across layout g r) o false
        by_first None at low = refl
        by_first (Some e) at low = first_by opens e known within at low

---- the files of a rule

-- no elements by their number
pub no_elements : {X : Type 0} (xs : List X) → (length xs == 0) ≡ true → xs ≡ []
no_elements xs none = nil_from_length xs (eqb-true (length xs) 0 none)

-- one place more
pub place_more : (p : ℕ → Bool) (n : ℕ) → filter p (range_with_len 0 (n + 1)) ≡ filter p (range_with_len 0 n) ++ filter p (n ∷ [])
place_more p n =
    ap (filter p) (sym (map-id (range_with_len 0 (n + 1))) ∙ map-range_with_len_more (λ i. i) 0 n n (zero-add n) ∙ ap (λ (is : List ℕ). is ++ n ∷ []) (map-id (range_with_len 0 n)))
    ∙ filter-append p (range_with_len 0 n) (n ∷ [])

pub range_within : (n : ℕ) → All (λ i. i < n) (range_with_len 0 n)
range_within n k d low =
    let long = length-range_with_len 0 n in
    let at : get_or (range_with_len 0 n) k d ≡ 0 + k = get_or-range_with_len 0 n k d (omega (arith, low, long)) in
    omega (arith, at, low, long)

pub range_rises : (n : ℕ) → IsStrictlyIncreasing (range_with_len 0 n)
range_rises n k low =
    let long = length-range_with_len 0 n in
    let here : slice_index_or (range_with_len 0 n) k 0 ≡ 0 + k = get_or-range_with_len 0 n k 0 (omega (arith, low, long)) in
    let next : slice_index_or (range_with_len 0 n) (k + 1) 0 ≡ 0 + (k + 1) = get_or-range_with_len 0 n (k + 1) 0 (omega (arith, low, long)) in
    omega (arith, here, next)

filter_same : {X : Type 0} (p q : X → Bool) (xs : List X) → All (λ x. p x ≡ q x) xs → filter p xs ≡ filter q xs
filter_same p q [] all = refl
filter_same {X = X} p q (x ∷ xs) all =
    ap₂ (λ (b : Bool) (rest : List X). cond b (x ∷ rest) rest) (All-head (λ y. p y ≡ q y) x xs all) (filter_same p q xs (All-tail (λ y. p y ≡ q y) x xs all))

module _ (layout : Layout) (g : Graph) (r : Rule) where
  -- the files with a flag are those of the right side
  pub right_are : (right : List Bool) → AreRight g.files layout r right → filter (λ f. slice_index_or right f false) (range_with_len 0 (length right)) ≡ right_files layout g r
  right_are right are =
      ap (λ (n : ℕ). filter (λ f. slice_index_or right f false) (range_with_len 0 n)) are.long
      ∙ filter_same (λ f. slice_index_or right f false) (is_right_file layout r) (range_with_len 0 g.files)
      (λ k d low. are.each (get_or (range_with_len 0 g.files) k d) (range_within g.files k d low))

  pub right_within : All (λ f. f < g.files) (right_files layout g r)
  right_within = All-filter (is_right_file layout r) (λ f. f < g.files) (range_with_len 0 g.files) (range_within g.files)

  pub left_within : IsSound g → All (λ f. f < g.files) (left_files layout g r)
  left_within sound = All-filter (λ f. is_left r (path_at layout f)) (λ f. f < g.files) g.sources sound.ends.sources_within

  pub left_rise : IsSound g → IsStrictlyIncreasing (left_files layout g r)
  left_rise sound = IsStrictlyIncreasing-filter (λ f. is_left r (path_at layout f)) g.sources sound.ends.sources_rise

  pub right_rise : IsStrictlyIncreasing (right_files layout g r)
  right_rise = IsStrictlyIncreasing-filter (is_right_file layout r) (range_with_len 0 g.files) (range_rises g.files)

---- the verb of a rule

-- what breaks a rule of a verb
abbrev pub BreaksBy : Layout → Graph → Rule → Verb → (chains : List (List ℕ)) → (files : List ℕ) → Type 0
BreaksBy layout g r verb chains files =
    let left : List ℕ = left_files layout g r in
    elim verb [
      | NotReach ↦ AreReachChains left (right_files layout g r) g chains × (files ≡ [])
      | NotInclude ↦ (chains ≡ flat_map (across_chains layout g r) left) × (files ≡ [])
      | Include ↦ (chains ≡ []) × (files ≡ filter (λ f. not (includes layout g r f)) left)
      | IncludeFirst ↦ (chains ≡ []) × (files ≡ filter (λ f. not (includes_first layout g r f)) left)
    ]

pub breaks_as : (layout : Layout) (g : Graph) (r : Rule) (verb : Verb) (j : Judged) → r.verb ≡ verb → BreaksBy layout g r verb j.chains j.files → AreBreaks layout g r j.chains j.files
breaks_as layout g r verb j is breaks = subst (λ (v : Verb). BreaksBy layout g r v j.chains j.files) (sym is) breaks

---- one rule more

pub more_judged : (layout : Layout) (g : Graph) (rs : List Rule) (js : List Judged) (r : Rule) (chains : List (List ℕ)) (files : List ℕ)
    → AreJudged layout g rs js → AreBreaks layout g r chains files → AreJudged layout g (rs ++ r ∷ []) (js ++ record { rule = r; chains = chains; files = files } ∷ [])
more_judged layout g [] [] r chains files no_rule breaks = and_rule breaks no_rule
more_judged layout g (q ∷ qs) (j ∷ js) r chains files (and_rule own more) breaks = and_rule own (more_judged layout g qs js r chains files more breaks)
more_judged layout g [] (j ∷ js) r chains files h breaks = elim h [ ]
more_judged layout g (q ∷ qs) [] r chains files h breaks = elim h [ ]

pub one_more : (layout : Layout) (g : Graph) (rs : List Rule) (js : List Judged) (r : Rule) (j : Judged) (rules : List Rule) (judged : List Judged)
    → AreJudged layout g rs js → j.rule ≡ r → AreBreaks layout g r j.chains j.files → rules ≡ rs ++ r ∷ [] → judged ≡ js ++ j ∷ []
    → AreJudged layout g rules judged
one_more layout g rs js r j rules judged before own breaks rules_are judged_are =
    let whole : record { rule = r; chains = j.chains; files = j.files } ≡ j = ap (λ (q : Rule). record { rule = q; chains = j.chains; files = j.files }) (sym own) in
    subst (λ (l : List Judged). AreJudged layout g rules l) (ap (λ (k : Judged). js ++ k ∷ []) whole ∙ sym judged_are)
    (subst (λ (l : List Rule). AreJudged layout g l (js ++ record { rule = r; chains = j.chains; files = j.files } ∷ [])) (sym rules_are)
    (more_judged layout g rs js r j.chains j.files before breaks))

---- lists that grow

module _ {X : Type 0} (p : X → Bool) where
  -- an element more that is kept or not
  pub filter_step : (all xs files now : List X) (i : ℕ) (x : X) → i < length xs → x ≡ get_or xs i x → now ≡ files ++ filter p (x ∷ [])
      → all ≡ files ++ filter p (drop i xs) → all ≡ now ++ filter p (drop (i + 1) xs)
  filter_step all xs files now i x low is push before =
      let parts : filter p (drop i xs) ≡ filter p (x ∷ []) ++ filter p (drop (i + 1) xs) =
      ap (filter p) (drop-cons xs i x low ∙ ap₂ (λ (y : X) (ys : List X). y ∷ ys) (sym is) (ap (λ (n : ℕ). drop n xs) (sym (add-one i))))
      ∙ filter-append p (x ∷ []) (drop (i + 1) xs) in
      before ∙ ap (λ (ys : List X). files ++ ys) parts ∙ sym (append_assoc files (filter p (x ∷ [])) (filter p (drop (i + 1) xs)))
      ∙ ap (λ (ys : List X). ys ++ filter p (drop (i + 1) xs)) (sym push)

  -- no element left
  pub filter_end : (all xs files : List X) (i : ℕ) → length xs ≤ i → all ≡ files ++ filter p (drop i xs) → files ≡ all
  filter_end all xs files i high before =
      sym (before ∙ ap (λ (ys : List X). files ++ filter p ys) (drop_all i xs high) ∙ append-nil files)

-- a chain more
pub more_chain : (all old now : List (List ℕ)) (chain own : List ℕ) (rest : List (List ℕ)) → all ≡ old ++ own ∷ rest → now ≡ old ++ chain ∷ [] → chain ≡ own → all ≡ now ++ rest
more_chain all old now chain own rest before push is =
    before ∙ sym (append_assoc old (own ∷ []) rest) ∙ ap (λ (x : List ℕ). (old ++ x ∷ []) ++ rest) (sym is) ∙ ap (λ (xs : List (List ℕ)). xs ++ rest) (sym push)
