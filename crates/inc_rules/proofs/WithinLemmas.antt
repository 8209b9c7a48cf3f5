-- What breaks rules are edges and files of the graph.
use Rattle.std.proofs.Common.{◌≡◌, ℕ, ◌<◌, ◌∷◌, Bool, true, false, List, [], cond, get_or, length, map, not, subst, sym}
use Rattle.std.specs.Prelude.{flat_map, slice_index_or}
use Rattle.std.specs.List.{All}
use Rattle.std.proofs.lemmas.List.Elements.{All-append, All-cons, All-filter, All-head, All-map, All-nil, All-tail}
use Rattle.std.proofs.lemmas.Option.{slice_get-get_or, slice_get_within}
use Rattle.inc_graph.specs.Between.{between, in_whole, numbers_between}
use Rattle.inc_graph.specs.IncludeGraph.{Graph, IsSound}
use Rattle.inc_graph.specs.Indexes.{edges_leaving}
use Rattle.inc_graph.specs.declared.graphs.Edge.{Edge}
use Rattle.inc_graph.proofs.BetweenNumbers.{numbers_long, numbers_within}
use Rattle.inc_graph.proofs.LeavingEdges.{leaving_at}
use Rattle.inc_lookup.specs.Projects.{Layout}
use Rattle.inc_rules.specs.Judging.{AreJudged, AreReachChains, IsWithin, Judged, across_chain, across_chains, and_rule, includes, includes_first, is_right_file, left_files, no_rule, right_files, whole_chain}
use Rattle.inc_rules.specs.Rules.{Rule}
use Rattle.inc_rules.specs.declared.rules.Verb.{Verb}
use Rattle.inc_rules.specs.declared.rules.Verb.TheVariants.{NotReach, NotInclude, Include, IncludeFirst}
use Rattle.inc_rules.proofs.JudgeLemmas.{BreaksBy, left_within, reaching_within}

all_flat : {X Y : Type 0} (P : Y → Type 0) (Q : X → Type 0) (f : X → List Y) (xs : List X) → ((x : X) → Q x → All P (f x)) → All Q xs → All P (flat_map f xs)
all_flat P Q f [] each all = All-nil P
all_flat P Q f (x ∷ xs) each all = All-append P (f x) (flat_map f xs) (each x (All-head Q x xs all)) (all_flat P Q f xs each (All-tail Q x xs all))

module _ (g : Graph) where
  -- its edges are those of the graph
  abbrev IsLow : List ℕ → Type 0
  IsLow chain = All (λ i. i < length g.edges) chain

  whole_low : (from to chain : List ℕ) → All (λ i. i < length (between from to g).edges) chain → IsLow (in_whole to g chain)
  whole_low from to chain low =
      All-map (λ i. i < length g.edges) (λ i. slice_index_or (numbers_between to g) i 0) chain
      (λ k d l. numbers_within g to (get_or chain k d) 0 (subst (λ (n : ℕ). get_or chain k d < n) (sym (numbers_long g to)) (low k d l)))

  reach_low : (from to : List ℕ) (chains : List (List ℕ)) → AreReachChains from to g chains → All IsLow chains
  reach_low from to chains breaks =
      let all = reaching_within (between from to g) from breaks.0 breaks.1 in
      subst (All IsLow) (sym breaks.2)
      (All-map IsLow (whole_chain to g) breaks.0 (λ k d low. whole_low from to (get_or breaks.0 k d).chain (all k d low)))

  module _ (layout : Layout) (r : Rule) where
    leaving_low : (f : ℕ) → All (λ (e : Edge). e.id < length g.edges) (edges_leaving g.edges f)
    leaving_low f k d low =
        slice_get_within g.edges (get_or (edges_leaving g.edges f) k d).id _
        (leaving_at g f k (get_or (edges_leaving g.edges f) k d) (slice_get-get_or (edges_leaving g.edges f) k d low)).0

    edge_low : (b : Bool) (e : Edge) → e.id < length g.edges → All IsLow (cond b ((e.id ∷ []) ∷ []) [])
    edge_low true e low = All-cons IsLow (e.id ∷ []) [] (All-cons (λ i. i < length g.edges) e.id [] low (All-nil (λ i. i < length g.edges))) (All-nil IsLow)
    edge_low false e low = All-nil IsLow

    across_low : (left : List ℕ) → All IsLow (flat_map (across_chains layout g r) left)
    across_low left =
        all_flat IsLow (λ (f : ℕ). Unit {0}) (across_chains layout g r) left
        (λ f any. all_flat IsLow (λ (e : Edge). e.id < length g.edges) (across_chain layout r) (edges_leaving g.edges f) (λ e low. edge_low (is_right_file layout r e.to) e low) (leaving_low f))
        (λ k d low. tt)

    abbrev left : List ℕ
    left = left_files layout g r

    no_files : (files : List ℕ) → files ≡ [] → All (λ f. f < g.files) files
    no_files files none = subst (All (λ f. f < g.files)) (sym none) (All-nil (λ f. f < g.files))

    no_chains : (chains : List (List ℕ)) → chains ≡ [] → All IsLow chains
    no_chains chains none = subst (All IsLow) (sym none) (All-nil IsLow)

    breaks_by : (verb : Verb) (chains : List (List ℕ)) (files : List ℕ) → IsSound g → BreaksBy layout g r verb chains files → IsWithin g (record { rule = r; chains = chains; files = files })
    breaks_by NotReach chains files sound b = record { edges = reach_low left (right_files layout g r) chains b.0; files = no_files files b.1 }
    breaks_by NotInclude chains files sound b = record { edges = subst (All IsLow) (sym b.0) (across_low left); files = no_files files b.1 }
    breaks_by Include chains files sound b = record {
      edges = no_chains chains b.0;
      files = subst (All (λ f. f < g.files)) (sym b.1) (All-filter (λ f. not (includes layout g r f)) (λ f. f < g.files) left (left_within layout g r sound));
    }
    breaks_by IncludeFirst chains files sound b = record {
      edges = no_chains chains b.0;
      files = subst (All (λ f. f < g.files)) (sym b.1) (All-filter (λ f. not (includes_first layout g r f)) (λ f. f < g.files) left (left_within layout g r sound));
    }

pub judged_within : (layout : Layout) (g : Graph) (rs : List Rule) (js : List Judged) → IsSound g → AreJudged layout g rs js → All (IsWithin g) js
judged_within layout g [] [] sound no_rule = All-nil (IsWithin g)
judged_within layout g (r ∷ rs) (j ∷ js) sound (and_rule breaks more) =
    All-cons (IsWithin g) j js (breaks_by g layout r r.verb j.chains j.files sound breaks) (judged_within layout g rs js sound more)
judged_within layout g [] (j ∷ js) sound h = elim h [ ]
judged_within layout g (r ∷ rs) [] sound h = elim h [ ]

-- what holds of all that is seen holds of what is seen so
pub all_seen : {X Y : Type 0} (P : Y → Type 0) (f : X → Y) (xs : List X) → All P (map f xs) → All (λ x. P (f x)) xs
all_seen P f [] all = All-nil (λ x. P (f x))
all_seen P f (x ∷ xs) all = All-cons (λ y. P (f y)) x xs (All-head P (f x) (map f xs) all) (all_seen P f xs (All-tail P (f x) (map f xs) all))
