-- The walks along first steps: each is the first of the shortest chains from its file, and where there is none no chain begins there.
use Rattle.std.proofs.Common.{◌≡◌, ℕ, zero, suc, ◌+◌, ◌-◌, ◌<◌, ◌≤◌, true, false, List, [], ◌∷◌, ◌++◌, Option, length, get_or, take, drop, set, inl, inr, refl, sym, ap, ap₂, ◌∙◌, subst, arith}
use Rattle.std.specs.Prelude.{Some, None, slice_get, slice_index, not, ◌==◌, ◌&&◌, filter_map}
use Rattle.std.specs.List.{cons_option}
use Rattle.std.proofs.lemmas.Bool.{and_parts, and_from, cases_eq, cond-true, cond-false, eq-eqb, ne_eqb, eqb-true, false≢true, false_from_ne_true, lt-ltb, not_from_false, or_cases}
use Rattle.std.proofs.lemmas.Grind.{get_or_default_zero}
use Rattle.std.proofs.lemmas.List.{append-nil, append_assoc, take_more_set}
use Rattle.std.proofs.lemmas.Option.{slice_get-get_or, slice_get_within}
use Rattle.inc_graph.specs.declared.graphs.Edge as declared
use Rattle.inc_graph.specs.Chains.{target, leaves, is_walk, files_on, is_chain, is_before, IsShortest}
use Rattle.inc_graph.specs.Distances.{distance, AreDistances, IsNearer, AreStepsFrom, IsNextReaching, AreWays, walk_by, reaching_by, reaching_at, reaching_from}
use Rattle.inc_graph.specs.IncludeGraph.{Graph, IsSound}
use Rattle.inc_graph.specs.Members.{is_member, is_distinct}
use Rattle.inc_graph.specs.Reaching.{alone, Reaching, AreReaching, no_more, reaches, reaches_none}
use Rattle.inc_graph.proofs.Members.{only_member, is_only}
use Rattle.inc_graph.specs.Views.{seen_edge, numbered}
use Rattle.inc_graph.proofs.Lists.{drop_read}
use Rattle.inc_graph.proofs.NumberedEdges.{numbered_from-at}
use Rattle.inc_graph.proofs.Walks.{chain_parts, chain_of, inner_edge, leaving_edge}

pub walk_long : (g : Graph) (steps : List ℕ) (n f : ℕ) → length (walk_by g steps n f) ≡ n
walk_long g steps zero f = refl
walk_long g steps (suc n) f = ap suc (walk_long g steps n (target g (slice_index steps f)))

-- walks are the same from whatever source
walk_alone : (g : Graph) (s : ℕ) (w : List ℕ) (a b : ℕ) → is_walk (alone s g) a w b ≡ is_walk g a w b
walk_alone g s [] a b = refl
walk_alone g s (i ∷ is) a b = ap (λ x. leaves g a i && x) (walk_alone g s is (target g i) b)

module _ (g : Graph) (ds : List ℕ) (d : AreDistances g ds) where
  -- a walk to a header has at least as many edges as the distance says
  no_shorter : (w : List ℕ) (f h : ℕ) → is_member h g.headers ≡ true → is_walk g f w h ≡ true → (k : ℕ) × (distance ds f ≡ suc k) × (k ≤ length w)
  no_shorter [] f h header walk = (0, ap (distance ds) (eqb-true f h walk) ∙ d.at_header h header, omega arith)
  no_shorter (i ∷ is) f h header walk =
      let steps = and_parts (leaves g f i) (is_walk g (target g i) is h) walk in
      let rest = no_shorter is (target g i) h header steps.1 in
      let near = d.bound f i rest.0 steps.0 rest.1 in
      (near.0, near.1, omega (arith, rest.2, near.2))

  pub no_chain : (s : ℕ) → distance ds s ≡ 0 → (chain : List ℕ) → not (is_chain (alone s g) chain) ≡ true
  no_chain s none chain = not_from_false (is_chain (alone s g) chain) (false_from_ne_true (is_chain (alone s g) chain) (λ is.
      let c = chain_parts (alone s g) chain is in
      let walk = ap (λ (a : ℕ). is_walk g a chain c.header) (only_member s c.source c.begins) ∙ sym (walk_alone g s chain c.source c.header) ∙ c.walk in
      let far = no_shorter chain s c.header c.ends walk in
      omega (arith, none, far.1)))

  module _ (steps : List ℕ) (are : AreStepsFrom g ds 0 steps) where
    -- the step from a file that is no header
    pub step_at : (f n : ℕ) → distance ds f ≡ suc (suc n) → IsNearer g ds f (slice_index steps f) × (distance ds (target g (slice_index steps f)) ≡ suc n)
    step_at f n is =
        let near = d.nearer f n is in
        let first = (are f near.0 (omega arith) (near.1, omega (arith, is, near.2))).0 in
        (first, omega (arith, is, first.1))

    walk_leads : (n f : ℕ) → distance ds f ≡ suc n → (h : ℕ) × (is_member h g.headers ≡ true) × (is_walk g f (walk_by g steps n f) h ≡ true)
    walk_leads zero f is = (f, d.header_at f is, eq-eqb f f refl)
    walk_leads (suc n) f is =
        let step = step_at f n is in
        let i = slice_index steps f in
        let rest = walk_leads n (target g i) step.1 in
        (rest.0, rest.1, and_from (leaves g f i) (is_walk g (target g i) (walk_by g steps n (target g i)) rest.0) step.0.0 rest.2)

    -- no file on it is further away
    near_on : (n f x : ℕ) → distance ds f ≡ suc n → is_member x (files_on g f (walk_by g steps n f)) ≡ true → distance ds x ≤ suc n
    near_on zero f x is on = elim (or_cases (f == x) false on) [
      | inl here ↦ let same = ap (distance ds) (eqb-true f x here) in omega (arith, is, same)
      | inr never ↦ absurd (false≢true never)
    ]
    near_on (suc n) f x is on =
        let i = slice_index steps f in
        elim (or_cases (f == x) (is_member x (files_on g (target g i) (walk_by g steps n (target g i)))) on) [
          | inl here ↦ let same = ap (distance ds) (eqb-true f x here) in omega (arith, is, same)
          | inr later ↦ let near = near_on n (target g i) x (step_at f n is).1 later in omega (arith, near)
        ]

    -- so that none is on it twice
    distinct_on : (n f : ℕ) → distance ds f ≡ suc n → is_distinct (files_on g f (walk_by g steps n f)) ≡ true
    distinct_on zero f is = refl
    distinct_on (suc n) f is =
        let i = slice_index steps f in
        let step = step_at f n is in
        let rest = files_on g (target g i) (walk_by g steps n (target g i)) in
        and_from (not (is_member f rest)) (is_distinct rest)
        (not_from_false (is_member f rest) (false_from_ne_true (is_member f rest) (λ on. let near = near_on n (target g i) f step.1 on in omega (arith, near, is))))
        (distinct_on n (target g i) step.1)

    -- a walk to a header that has as many edges is not before it
    walk_first : (n f : ℕ) (w : List ℕ) (h : ℕ) → distance ds f ≡ suc n → is_member h g.headers ≡ true → is_walk g f w h ≡ true → length w ≡ n → is_before (walk_by g steps n f) w ≡ true
    walk_first zero f w h is header walk long = refl
    walk_first (suc n) f [] h is header walk long = absurd (omega arith)
    walk_first (suc n) f (j ∷ js) h is header walk long =
        let i = slice_index steps f in
        let parts = and_parts (leaves g f j) (is_walk g (target g j) js h) walk in
        let rest = no_shorter js (target g j) h header parts.1 in
        let near = d.bound f j rest.0 parts.0 rest.1 in
        let next : distance ds (target g j) ≡ suc n = omega (arith, rest.1, rest.2, near.1, near.2, is, long) in
        let first = (are f j (omega arith) (parts.0, omega (arith, is, next))).1 in
        elim (cases_eq i j) [
          | inl same ↦
              cond-true (i == j) _ _ (eq-eqb i j same)
              ∙ walk_first n (target g i) js h (step_at f n is).1 header (ap (λ (k : ℕ). is_walk g (target g k) js h) same ∙ parts.1) (omega (arith, long))
          | inr other ↦ cond-false (i == j) _ _ (ne_eqb i j other) ∙ lt-ltb i j (omega (arith, first, other))
        ]

    pub shortest_by : (n s : ℕ) → distance ds s ≡ suc n → IsShortest (alone s g) (walk_by g steps n s)
    shortest_by n s is =
        let w = walk_by g steps n s in
        let end = walk_leads n s is in
        let at_source : (other : List ℕ) → is_chain (alone s g) other ≡ true → (h : ℕ) × (is_member h g.headers ≡ true) × (is_walk g s other h ≡ true) = λ other chain.
        let c = chain_parts (alone s g) other chain in
        (c.header, c.ends, ap (λ (a : ℕ). is_walk g a other c.header) (only_member s c.source c.begins) ∙ sym (walk_alone g s other c.source c.header) ∙ c.walk) in
        record {
          real = chain_of (alone s g) w (record { source = s; begins = is_only s s refl; header = end.0; ends = end.1; walk = walk_alone g s w s end.0 ∙ end.2; distinct = distinct_on n s is });
          passes = refl;
          shortest = λ other chain _.
              let o = at_source other chain in
              let far = no_shorter other s o.0 o.1 o.2 in
              omega (arith, far.1, far.2, is, walk_long g steps n s);
          first = λ other chain _ long. let o = at_source other chain in walk_first n s other o.0 is o.1 o.2 (long ∙ walk_long g steps n s);
        }

    by_distance : (n s : ℕ) (sources : List ℕ) → distance ds s ≡ n → AreReaching g sources (filter_map (reaching_at g ds steps) sources)
        → AreReaching g (s ∷ sources) (cons_option (reaching_at g ds steps s) (filter_map (reaching_at g ds steps) sources))
    by_distance zero s sources is rest =
        rw (cond-true (distance ds s == 0) None (Some (reaching_by g ds steps s)) (eq-eqb (distance ds s) 0 is)) (reaches_none (no_chain s is) rest)
    by_distance (suc n) s sources is rest =
        let left : distance ds s - 1 ≡ n = omega (arith, is) in
        rw (cond-false (distance ds s == 0) None (Some (reaching_by g ds steps s)) (ne_eqb (distance ds s) 0 (λ none. omega (arith, none, is))))
        (reaches {chain = walk_by g steps (distance ds s - 1) s} (subst (λ (k : ℕ). IsShortest (alone s g) (walk_by g steps k s)) (sym left) (shortest_by n s is)) rest)

    pub all_reaching : (sources : List ℕ) → AreReaching g sources (filter_map (reaching_at g ds steps) sources)
    all_reaching [] = no_more
    all_reaching (s ∷ ss) = by_distance (distance ds s) s ss refl (all_reaching ss)

---- a walk as it is made

-- an edge by its number, as it is read
pub target_read : (g : Graph) (i k : ℕ) (edges : List declared.Edge) (e : declared.Edge) → IsSound g → edges ≡ numbered g.edges → i < length g.edges → k ≡ i → e ≡ get_or edges k e
    → (e.to ≡ target g i) × (e.to < g.files)
target_read g i k edges e sound are low is read =
    let there = numbered_from-at 0 g.edges i e low (read ∙ ap₂ (λ (l : List declared.Edge) (j : ℕ). get_or l j e) are is) in
    let to : target g i ≡ e.to = rw there refl in
    (sym to, (inner_edge g i (seen_edge e) sound there).to_within)

-- so many edges are there, and the walk goes on from this file
pub record IsWalking (g : Graph) (ds steps : List ℕ) (start : ℕ) (edges : List ℕ) (place file : ℕ) : Type 0 where
  pub walk : take place edges ++ walk_by g steps (distance ds start - 1 - place) file ≡ walk_by g steps (distance ds start - 1) start
  pub far : distance ds file - 1 ≡ distance ds start - 1 - place
  pub within : file < g.files

-- a step as it is read
pub step_read : (steps : List ℕ) (k file i : ℕ) → k < length steps → k ≡ file → i ≡ get_or steps k i → i ≡ slice_index steps file
step_read steps k file i low is read = read ∙ get_or_default_zero steps k i low ∙ ap (slice_index steps) is

module _ (g : Graph) (ds steps : List ℕ) (most : ℕ) (ways : AreWays g ds steps most) where
  pub walk_begun : (start : ℕ) (edges : List ℕ) → start < g.files → IsWalking g ds steps start edges 0 start
  walk_begun start edges low =
      let all : distance ds start - 1 - 0 ≡ distance ds start - 1 = omega arith in
      record { walk = ap (λ (n : ℕ). walk_by g steps n start) all; far = sym all; within = low }

  -- a step is an edge of the graph
  pub step_low : (start place file : ℕ) (edges : List ℕ) → place < distance ds start - 1 → IsWalking g ds steps start edges place file → slice_index steps file < length g.edges
  step_low start place file edges low w =
      let n : ℕ = distance ds start - 1 - (place + 1) in
      let far : distance ds file ≡ suc (suc n) = omega (arith, low, w.far) in
      let step = step_at g ds ways.distances_are steps ways.steps_are file n far in
      let e = leaving_edge g file (slice_index steps file) _ refl step.0.0 in
      slice_get_within g.edges (slice_index steps file) e.0 e.1

  -- and there is room for it
  pub step_room : (start place : ℕ) → place < distance ds start - 1 → place < most
  step_room start place low = let few = ways.few start in omega arith

  pub walk_more : (start place file i to : ℕ) (edges : List ℕ) → place < distance ds start - 1 → place < length edges → i ≡ slice_index steps file → to ≡ target g i → to < g.files
      → IsWalking g ds steps start edges place file → IsWalking g ds steps start (set edges place i) (place + 1) to
  walk_more start place file i to edges low room read goes inside w =
      let n : ℕ = distance ds start - 1 - (place + 1) in
      let is : to ≡ target g (slice_index steps file) = goes ∙ ap (target g) read in
      let far : distance ds file ≡ suc (suc n) = omega (arith, low, w.far) in
      let left : distance ds start - 1 - place ≡ suc n = omega (arith, low) in
      let step = step_at g ds ways.distances_are steps ways.steps_are file n far in
      let near : distance ds to ≡ suc n = ap (distance ds) is ∙ step.1 in
      record {
        walk =
            ap₂ (λ (l : List ℕ) (f : ℕ). l ++ walk_by g steps n f) (take_more_set edges place i room ∙ ap (λ (j : ℕ). take place edges ++ j ∷ []) read) is
            ∙ append_assoc (take place edges) (slice_index steps file ∷ []) (walk_by g steps n (target g (slice_index steps file)))
            ∙ ap (λ (m : ℕ). take place edges ++ walk_by g steps m file) (sym left) ∙ w.walk;
        far = omega (arith, near);
        within = inside;
      }

  pub walk_made : (start place file : ℕ) (edges : List ℕ) → place ≡ distance ds start - 1 → IsWalking g ds steps start edges place file
      → take (distance ds start - 1) edges ≡ walk_by g steps (distance ds start - 1) start
  walk_made start place file edges end w =
      let none : distance ds start - 1 - place ≡ 0 = omega (arith, end) in
      ap (λ (n : ℕ). take n edges) (sym end) ∙ sym (append-nil (take place edges)) ∙ ap (λ (n : ℕ). take place edges ++ walk_by g steps n file) (sym none) ∙ w.walk

---- the next source

pub next_source : (g : Graph) (ds : List ℕ) (sources : List ℕ) (next at s : ℕ) → sources ≡ g.sources → at < length sources → s ≡ get_or sources at s → next ≤ at
    → ((steps : List ℕ) → reaching_from g ds steps next ≡ reaching_from g ds steps at) → (distance ds s ≡ 0 → ⊥) → IsNextReaching g ds next (at + 1)
next_source g ds sources next at s are low is later before far =
    let here : at + 1 - 1 ≡ at = omega arith in
    let long = ap (λ (l : List ℕ). length l) are in
    record {
      source = s;
      at = ap₂ (λ (l : List ℕ) (k : ℕ). slice_get l k) (sym are) here ∙ slice_get-get_or sources at s low ∙ ap (λ (x : ℕ). Some x) (sym is);
      later = omega arith;
      within = omega arith;
      left = λ steps.
          before steps
          ∙ ap (λ (l : List ℕ). filter_map (reaching_at g ds steps) (drop at l)) (sym are)
          ∙ ap (filter_map (reaching_at g ds steps)) (drop_read sources at s low is)
          ∙ ap (λ (o : Option Reaching). cons_option o (filter_map (reaching_at g ds steps) (drop (at + 1) sources)))
          (cond-false (distance ds s == 0) None (Some (reaching_by g ds steps s)) (ne_eqb (distance ds s) 0 far))
          ∙ ap (λ (l : List ℕ). reaching_by g ds steps s ∷ filter_map (reaching_at g ds steps) (drop (at + 1) l)) are;
    }
