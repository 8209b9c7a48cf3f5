-- The edges by which a graph breaks rules: rule by rule, by flags of files and of edges.
use Rattle.std.proofs.Common.{◌≡◌, ℕ, zero, suc, ◌+◌, ◌<◌, ◌≤◌, Bool, true, false, List, [], ◌∷◌, ◌++◌, ◌⊎◌, ◌||◌, ◌&&◌, All, Some, length, map, replicate, inl, inr, refl, sym, ap, ◌∙◌, subst, arith, get_or, not, zero-add}
use Rattle.std.specs.Prelude.{◌==◌, ◌↔◌, filter, slice_get, slice_index_or}
use Rattle.std.specs.List.{list_any, range_with_len}
use Rattle.std.specs.List.Sorted.{IsStrictlyIncreasing}
use Rattle.std.proofs.lemmas.Bool.{and_from, and_parts, cases_Bool, cond-true, cond-false, eq-eqb, eqb-true, false≢true, or_cases, or_left, or_right}
use Rattle.std.proofs.lemmas.List.{get_or-replicate, length-replicate}
use Rattle.std.proofs.lemmas.List.Elements.{All-cons, All-filter, All-nil}
use Rattle.std.proofs.lemmas.List.FromFn.{get_or-map-range_with_len, get_or-range_with_len, length-range_with_len}
use Rattle.std.proofs.lemmas.List.Kept.{IsStrictlyIncreasing-filter}
use Rattle.std.proofs.lemmas.Option.{none-some, same_Some, slice_get-get_or, slice_get_within}
use Rattle.inc_graph.specs.declared.graphs.Edge as declared
use Rattle.inc_graph.specs.IncludeGraph.{Edge, Graph, IsSound}
use Rattle.inc_graph.specs.Chains.{leaves, target}
use Rattle.inc_graph.specs.FileSets.{AreFlags}
use Rattle.inc_graph.specs.Members.{is_member}
use Rattle.inc_graph.specs.Search.{Queue, is_reached}
use Rattle.inc_graph.specs.Views.{numbered, numbered_from}
use Rattle.inc_graph.proofs.Members.{member_at, member_has}
use Rattle.inc_graph.proofs.NumberedEdges.{with_number}
use Rattle.inc_graph.proofs.Walks.{inner_edge, leaving_edge}
use Rattle.inc_lookup.specs.Projects.{Layout}
use Rattle.inc_rules.specs.Breaking.{AreBreaking, BreaksSome, IsBound, IsBreaking, IsReachedPast, lacking, lacking_files}
use Rattle.inc_rules.specs.Judging.{IsWithin, includes, includes_first, is_right_file, left_files}
use Rattle.inc_rules.specs.Lines.{AreRight}
use Rattle.inc_rules.specs.Reaching.{IsFinished, is_entering, is_flagged}
use Rattle.inc_rules.specs.Rules.{Rule}
use Rattle.inc_rules.specs.declared.rules.Verb.{Verb}
use Rattle.inc_rules.specs.declared.rules.Verb.TheVariants.{NotReach, NotInclude, Include, IncludeFirst}
use Rattle.inc_rules.proofs.JudgeLemmas.{left_within, range_rises, range_within}
use Rattle.inc_rules.proofs.ReachingLemmas.{leaves_at, member_passes, reached_from, reached_walk, target_at, target_low}

---- files that are bound

-- by a verb
abbrev pub BoundBy : Layout → Graph → Rule → Verb → (file : ℕ) → Type 0
BoundBy layout g r verb file =
    elim verb [
      | NotReach ↦ IsReachedPast (left_files layout g r) (is_right_file layout r) g file
      | NotInclude ↦ is_member file (left_files layout g r) ≡ true
      | Include ↦ ⊥
      | IncludeFirst ↦ ⊥
    ]

module _ (layout : Layout) (g : Graph) (r : Rule) (flags : List Bool) where
  -- flags of the files that are bound
  abbrev pub AreBound : Type 0
  AreBound = (file : ℕ) → file < g.files → is_flagged flags file ≡ true ↔ IsBound layout g r file

  pub bound_as : (verb : Verb) → r.verb ≡ verb → ((file : ℕ) → file < g.files → is_flagged flags file ≡ true ↔ BoundBy layout g r verb file) → AreBound
  bound_as verb is each = λ file low. subst (λ (v : Verb). is_flagged flags file ≡ true ↔ BoundBy layout g r v file) (sym is) (each file low)

  pub reach_bound : (right : List Bool) (left : List ℕ) (q : Queue (Unit {0})) → IsSound g → AreRight g.files layout r right → left ≡ left_files layout g r → IsFinished g right left q
      → flags ≡ map (is_reached q) (range_with_len 0 g.files) → r.verb ≡ NotReach → AreBound
  reach_bound right left q sound are is_left s reached is =
      bound_as NotReach is
      (λ file low.
      let value : is_flagged flags file ≡ is_reached q file =
      ap (λ (l : List Bool). is_flagged l file) reached ∙ get_or-map-range_with_len (is_reached q) 0 g.files file file false low (zero-add file) in (
        λ flag.
            subst (λ (l : List ℕ). IsReachedPast l (is_right_file layout r) g file) is_left (reached_walk layout g r right left q sound are is_left s file (sym value ∙ flag)),
        λ past.
            value ∙ reached_from layout g r right left q sound are is_left s file (subst (λ (l : List ℕ). IsReachedPast l (is_right_file layout r) g file) (sym is_left) past),
      ))

  pub include_bound : (left : List ℕ) → AreFlags left flags → left ≡ left_files layout g r → r.verb ≡ NotInclude → AreBound
  include_bound left are is_left is =
      bound_as NotInclude is
      (λ file low.
      let value : is_flagged flags file ≡ is_member file (left_files layout g r) = are file ∙ ap (is_member file) is_left in
      (λ flag. sym value ∙ flag, λ there. value ∙ there))

  none_bound : AreFlags [] flags → (file : ℕ) → is_flagged flags file ≡ true ↔ ⊥
  none_bound are file = (λ flag. false≢true (sym (are file) ∙ flag), λ never. absurd never)

  pub must_bound : AreFlags [] flags → r.verb ≡ Include → AreBound
  must_bound are is = bound_as Include is (λ file low. none_bound are file)

  pub first_bound : AreFlags [] flags → r.verb ≡ IncludeFirst → AreBound
  first_bound are is = bound_as IncludeFirst is (λ file low. none_bound are file)

---- edges by their numbers

any_there : (q : declared.Edge → Bool) (n : ℕ) (es : List Edge) (i m : ℕ) (x : Edge) → m ≡ n + i → slice_get es i ≡ Some x → q (with_number m x) ≡ true
    → list_any (λ (e : declared.Edge). (e.id == m) && q e) (numbered_from n es) ≡ true
any_there q n [] i m x is at yes' = absurd (none-some x at)
any_there q n (y ∷ ys) zero m x is at yes' =
    let e : n ≡ m = omega arith in
    let same : with_number n y ≡ with_number m x = ap (λ (j : ℕ). with_number j y) e ∙ ap (with_number m) (same_Some y x at) in
    or_left ((n == m) && q (with_number n y)) (list_any (λ (d : declared.Edge). (d.id == m) && q d) (numbered_from (n + 1) ys))
    (and_from (n == m) (q (with_number n y)) (eq-eqb n m e) (ap q same ∙ yes'))
any_there q n (y ∷ ys) (suc i) m x is at yes' =
    or_right ((n == m) && q (with_number n y)) (list_any (λ (d : declared.Edge). (d.id == m) && q d) (numbered_from (n + 1) ys))
    (any_there q (n + 1) ys i m x (omega arith) at yes')

any_from : (q : declared.Edge → Bool) (n : ℕ) (es : List Edge) (m : ℕ) → list_any (λ (e : declared.Edge). (e.id == m) && q e) (numbered_from n es) ≡ true
    → (i : ℕ) × (x : Edge) × (m ≡ n + i) × (slice_get es i ≡ Some x) × (q (with_number m x) ≡ true)
any_from q n [] m is = absurd (false≢true is)
any_from q n (y ∷ ys) m is =
    elim (or_cases ((n == m) && q (with_number n y)) (list_any (λ (d : declared.Edge). (d.id == m) && q d) (numbered_from (n + 1) ys)) is) [
      | inl here ↦
          let parts = and_parts (n == m) (q (with_number n y)) here in
          let same = eqb-true n m parts.0 in
          (0, y, omega arith, refl, ap (λ (k : ℕ). q (with_number k y)) (sym same) ∙ parts.1)
      | inr later ↦
          let rest = any_from q (n + 1) ys m later in
          let e = rest.2 in
          (suc rest.0, rest.1, omega arith, rest.3, rest.4)
    ]

-- an edge from a file with one flag to a file with the other
abbrev pub Enters : Graph → (bound right : List Bool) → (edge : ℕ) → Type 0
Enters g bound right m = (file : ℕ) × (leaves g file m ≡ true) × (is_flagged bound file ≡ true) × (is_flagged right (target g m) ≡ true)

entering : (g : Graph) (bound right : List Bool) (m : ℕ) → list_any (λ (e : declared.Edge). (e.id == m) && is_entering bound right e) (numbered g.edges) ≡ true → Enters g bound right m
entering g bound right m is =
    let found = any_from (is_entering bound right) 0 g.edges m is in
    let e = found.2 in
    let same : m ≡ found.0 = omega arith in
    let at : slice_get g.edges m ≡ Some found.1 = ap (slice_get g.edges) same ∙ found.3 in
    let parts = and_parts (is_flagged bound found.1.from) (is_flagged right found.1.to) found.4 in
    (found.1.from, leaves_at g m found.1.from found.1 at refl, parts.0, ap (is_flagged right) (target_at g m found.1 at) ∙ parts.1)

enters_any : (g : Graph) (bound right : List Bool) (m : ℕ) → Enters g bound right m → list_any (λ (e : declared.Edge). (e.id == m) && is_entering bound right e) (numbered g.edges) ≡ true
enters_any g bound right m h =
    let e = leaving_edge g h.0 m _ refl h.1 in
    any_there (is_entering bound right) 0 g.edges m m e.0 (sym (zero-add m)) e.1
    (and_from (is_flagged bound e.0.from) (is_flagged right e.0.to) (ap (is_flagged bound) e.2 ∙ h.2) (ap (is_flagged right) (sym (target_at g m e.0 e.1)) ∙ h.3))

---- the edges of a rule

module _ (layout : Layout) (g : Graph) (r : Rule) (bound right : List Bool) (sound : IsSound g) (are : AreRight g.files layout r right) (each : AreBound layout g r bound) where
  from_low : (file m : ℕ) → leaves g file m ≡ true → file < g.files
  from_low file m leads =
      let e = leaving_edge g file m _ refl leads in
      let low = (inner_edge g m e.0 sound e.1).from_within in
      let from = e.2 in
      omega arith

  enters_breaks : (m : ℕ) → Enters g bound right m → IsBreaking layout g r m
  enters_breaks m h = record {
    file = h.0;
    leaves = h.1;
    bound = (each h.0 (from_low h.0 m h.1)).0 h.2;
    right = sym (are.each (target g m) (target_low g h.0 m sound h.1)) ∙ h.3;
  }

  breaks_enters : (m : ℕ) → IsBreaking layout g r m → Enters g bound right m
  breaks_enters m b = (
    b.file,
    b.leaves,
    (each b.file (from_low b.file m b.leaves)).1 b.bound,
    are.each (target g m) (target_low g b.file m sound b.leaves) ∙ b.right,
  )

  -- what the flags of edges were, and the edges of the rule
  pub flag_more : (m : ℕ) (now old : Bool) → now ≡ (old || list_any (λ (e : declared.Edge). (e.id == m) && is_entering bound right e) (numbered g.edges))
      → now ≡ true ↔ (old ≡ true) ⊎ IsBreaking layout g r m
  flag_more m now old is =
      let any : Bool = list_any (λ (e : declared.Edge). (e.id == m) && is_entering bound right e) (numbered g.edges) in (
        λ flag. elim (or_cases old any (sym is ∙ flag)) [ inl before ↦ inl before | inr here ↦ inr (enters_breaks m (entering g bound right m here)) ],
        λ some. elim some [ inl before ↦ is ∙ or_left old any before | inr here ↦ is ∙ or_right old any (enters_any g bound right m (breaks_enters m here)) ],
      )

---- the edges of rules

module _ (layout : Layout) (g : Graph) (m : ℕ) where
  some_left : (rs : List Rule) (r : Rule) → BreaksSome layout g rs m → BreaksSome layout g (rs ++ r ∷ []) m
  some_left [] r never = absurd never
  some_left (q ∷ qs) r (inl here) = inl here
  some_left (q ∷ qs) r (inr later) = inr (some_left qs r later)

  some_last : (rs : List Rule) (r : Rule) → IsBreaking layout g r m → BreaksSome layout g (rs ++ r ∷ []) m
  some_last [] r here = inl here
  some_last (q ∷ qs) r here = inr (some_last qs r here)

  some_either : (rs : List Rule) (r : Rule) → BreaksSome layout g (rs ++ r ∷ []) m → BreaksSome layout g rs m ⊎ IsBreaking layout g r m
  some_either [] r (inl here) = inr here
  some_either [] r (inr never) = absurd never
  some_either (q ∷ qs) r (inl here) = inl (inl here)
  some_either (q ∷ qs) r (inr later) = elim (some_either qs r later) [ inl before ↦ inl (inr before) | inr here ↦ inr here ]

  -- one rule more
  pub some_more : (rs more : List Rule) (r : Rule) (now old : Bool) → more ≡ rs ++ r ∷ [] → now ≡ true ↔ (old ≡ true) ⊎ IsBreaking layout g r m → old ≡ true ↔ BreaksSome layout g rs m
      → now ≡ true ↔ BreaksSome layout g more m
  some_more rs more r now old is step before =
      subst (λ (l : List Rule). now ≡ true ↔ BreaksSome layout g l m) (sym is) (
        λ flag. elim (step.0 flag) [ inl was ↦ some_left rs r (before.0 was) | inr here ↦ some_last rs r here ],
        λ some. elim (some_either rs r some) [ inl was ↦ step.1 (inl (before.1 was)) | inr here ↦ step.1 (inr here) ],
      )

  pub some_low : (rs : List Rule) → BreaksSome layout g rs m → m < length g.edges
  some_low [] never = absurd never
  some_low (r ∷ rs) (inl here) = let e = leaving_edge g here.file m _ refl here.leaves in slice_get_within g.edges m e.0 e.1
  some_low (r ∷ rs) (inr later) = some_low rs later

---- before the first rule

-- there is a flag for each edge
pub none_long : (flags : List Bool) (n : ℕ) (g : Graph) → flags ≡ replicate n false → n ≡ length g.edges → length flags ≡ length g.edges
none_long flags n g none is = ap length none ∙ length-replicate n false ∙ is

-- and none is true
pub none_breaking : (layout : Layout) (g : Graph) (flags : List Bool) (n : ℕ) → flags ≡ replicate n false → n ≡ length g.edges
    → (m : ℕ) → m < length g.edges → slice_index_or flags m false ≡ true ↔ BreaksSome layout g [] m
none_breaking layout g flags n none is m low =
    let value : slice_index_or flags m false ≡ false = ap (λ (l : List Bool). slice_index_or l m false) none ∙ get_or-replicate n m false false (omega arith) in
    (λ flag. false≢true (sym value ∙ flag), λ never. absurd never)

---- the edges with a flag

member_kept : (p : ℕ → Bool) (xs : List ℕ) (f : ℕ) → is_member f xs ≡ true → p f ≡ true → is_member f (filter p xs) ≡ true
member_kept p [] f there passes = absurd (false≢true there)
member_kept p (x ∷ xs) f there passes =
    elim (or_cases (x == f) (is_member f xs) there) [
      | inl here ↦
          let first : p x ≡ true = ap p (eqb-true x f here) ∙ passes in
          ap (is_member f) (cond-true (p x) (x ∷ filter p xs) (filter p xs) first) ∙ or_left (x == f) (is_member f (filter p xs)) here
      | inr later ↦
          let rest = member_kept p xs f later passes in
          elim (cases_Bool (p x)) [
            | inl stays ↦ ap (is_member f) (cond-true (p x) (x ∷ filter p xs) (filter p xs) stays) ∙ or_right (x == f) (is_member f (filter p xs)) rest
            | inr falls ↦ ap (is_member f) (cond-false (p x) (x ∷ filter p xs) (filter p xs) falls) ∙ rest
          ]
    ]

member_was : (p : ℕ → Bool) (xs : List ℕ) (f : ℕ) → is_member f (filter p xs) ≡ true → is_member f xs ≡ true
member_was p [] f there = there
member_was p (x ∷ xs) f there =
    elim (cases_Bool (p x)) [
      | inl stays ↦
          elim (or_cases (x == f) (is_member f (filter p xs)) (ap (is_member f) (sym (cond-true (p x) (x ∷ filter p xs) (filter p xs) stays)) ∙ there)) [
            | inl here ↦ or_left (x == f) (is_member f xs) here
            | inr later ↦ or_right (x == f) (is_member f xs) (member_was p xs f later)
          ]
      | inr falls ↦
          or_right (x == f) (is_member f xs) (member_was p xs f (ap (is_member f) (sym (cond-false (p x) (x ∷ filter p xs) (filter p xs) falls)) ∙ there))
    ]

range_member : (n i : ℕ) → i < n → is_member i (range_with_len 0 n) ≡ true
range_member n i low =
    let long = length-range_with_len 0 n in
    let value : get_or (range_with_len 0 n) i 0 ≡ i = get_or-range_with_len 0 n i 0 low ∙ zero-add i in
    member_at (range_with_len 0 n) i i (slice_get-get_or (range_with_len 0 n) i 0 (omega arith) ∙ ap (λ (x : ℕ). Some x) value)

module _ (layout : Layout) (g : Graph) (rules : List Rule) (flags : List Bool) (edges : List ℕ) (long : length flags ≡ length g.edges)
    (is : edges ≡ filter (λ i. slice_index_or flags i false) (range_with_len 0 (length flags))) where
  abbrev all : List ℕ
  all = filter (λ i. slice_index_or flags i false) (range_with_len 0 (length flags))

  pub all_within : All (λ i. i < length g.edges) edges
  all_within =
      subst (λ (l : List ℕ). All (λ i. i < length g.edges) l) (sym is)
      (subst (λ (n : ℕ). All (λ i. i < n) all) long (All-filter (λ i. slice_index_or flags i false) (λ i. i < length flags) (range_with_len 0 (length flags)) (range_within (length flags))))

  pub all_breaking : ((m : ℕ) → m < length g.edges → slice_index_or flags m false ≡ true ↔ BreaksSome layout g rules m) → AreBreaking layout g rules edges
  all_breaking each = (
    subst IsStrictlyIncreasing (sym is) (IsStrictlyIncreasing-filter (λ i. slice_index_or flags i false) (range_with_len 0 (length flags)) (range_rises (length flags))),
    λ m. (
      λ there.
          let kept : is_member m all ≡ true = ap (is_member m) (sym is) ∙ there in
          let low : m < length flags = member_has (λ i. i < length flags) (range_with_len 0 (length flags)) m (range_within (length flags)) (member_was (λ i. slice_index_or flags i false) (range_with_len 0 (length flags)) m kept) in
          (each m (omega arith)).0 (member_passes (λ i. slice_index_or flags i false) (range_with_len 0 (length flags)) m kept),
      λ some.
          let low = some_low layout g m rules some in
          ap (is_member m) is ∙ member_kept (λ i. slice_index_or flags i false) (range_with_len 0 (length flags)) m (range_member (length flags) m (omega arith)) ((each m low).1 some),
    ),
  )

---- the files that rules lack

abbrev pub LackingBy : Layout → Graph → Rule → Verb → List ℕ
LackingBy layout g r verb =
    elim verb [
      | NotReach ↦ []
      | NotInclude ↦ []
      | Include ↦ filter (λ f. not (includes layout g r f)) (left_files layout g r)
      | IncludeFirst ↦ filter (λ f. not (includes_first layout g r f)) (left_files layout g r)
    ]

pub lacks_as : (layout : Layout) (g : Graph) (r : Rule) (verb : Verb) (files : List ℕ) → r.verb ≡ verb → files ≡ LackingBy layout g r verb → files ≡ lacking_files layout g r
lacks_as layout g r verb files is are = are ∙ ap (LackingBy layout g r) (sym is)

module _ (layout : Layout) (g : Graph) (sound : IsSound g) where
  files_within : (r : Rule) (verb : Verb) → All (λ f. f < g.files) (LackingBy layout g r verb)
  files_within r NotReach = All-nil (λ f. f < g.files)
  files_within r NotInclude = All-nil (λ f. f < g.files)
  files_within r Include = All-filter (λ f. not (includes layout g r f)) (λ f. f < g.files) (left_files layout g r) (left_within layout g r sound)
  files_within r IncludeFirst = All-filter (λ f. not (includes_first layout g r f)) (λ f. f < g.files) (left_files layout g r) (left_within layout g r sound)

  pub lacking_within : (rs : List Rule) → All (IsWithin g) (map (lacking layout g) rs)
  lacking_within [] = All-nil (IsWithin g)
  lacking_within (r ∷ rs) =
      All-cons (IsWithin g) (lacking layout g r) (map (lacking layout g) rs)
      (record { edges = All-nil (λ chain. All (λ i. i < length g.edges) chain); files = files_within r r.verb }) (lacking_within rs)

-- numbers of edges are those of places
pub numbered_low : (n : ℕ) (es : List Edge) (m : ℕ) → n + length es ≤ m → All (λ (e : declared.Edge). e.id < m) (numbered_from n es)
numbered_low n [] m few = All-nil (λ (e : declared.Edge). e.id < m)
numbered_low n (y ∷ ys) m few =
    All-cons (λ (e : declared.Edge). e.id < m) (with_number n y) (numbered_from (n + 1) ys) (omega (arith, few)) (numbered_low (n + 1) ys m (omega (arith, few)))
