-- Costs go by the weights of files that are sources or that edges lead to, and by no others.
use Rattle.std.proofs.Common.{◌≡◌, ◌∙◌, ℕ, ◌+◌, Bool, true, List, [], ◌∷◌, Option, Some, refl, sym, ap, ap₂, subst, inl, inr, ◌⊎◌}
use Rattle.std.specs.Prelude.{slice_get, slice_index, slice_index_or, sum_by, Contains}
use Rattle.std.specs.Option.{option_map_or}
use Rattle.std.proofs.lemmas.Bool.{and_parts, eqb-true}
use Rattle.std.proofs.lemmas.List.Sums.{sum-map, sum_by-cons}
use Rattle.inc_graph.specs.Chains.{target, leaves, is_walk}
use Rattle.inc_graph.specs.IncludeGraph.{Edge, Graph}
use Rattle.inc_graph.proofs.ClosureWalks.{contains_head, contains_tail}
use Rattle.inc_graph.proofs.Walks.{leaving_edge}
use Rattle.inc_cost.specs.Costs as costs
use Rattle.inc_cost.specs.Costs.{AreAllBrought, AreSaved, IsBrought, IsKeptOut, IsReachedWithout, IsSparing, IsSum, IsTotal, IsWeight, weight_of}

-- the file is one of the sources, or an edge leads to it
abbrev pub IsMet : Graph → ℕ → Type 0
IsMet g file = Contains g.sources file ⊎ ((k : ℕ) × ((e : Edge) × (slice_get g.edges k ≡ Some e) × (e.to ≡ file)))

module _ (g : Graph) (weights others : List ℕ) (same : (file : ℕ) → IsMet g file → slice_index_or weights file 0 ≡ slice_index_or others file 0) where
  -- a walk from a file that is met leads to one
  walk_met : (walk : List ℕ) (a b : ℕ) → IsMet g a → is_walk g a walk b ≡ true → IsMet g b
  walk_met [] a b met real = subst (IsMet g) (eqb-true a b real) met
  walk_met (i ∷ is) a b met real =
      let p = and_parts (leaves g a i) (is_walk g (target g i) is b) real in
      let e = leaving_edge g a i _ refl p.0 in
      let to : target g i ≡ e.0.to = ap (λ (o : Option Edge). option_map_or (λ (x : Edge). x.to) o 0) e.1 in
      walk_met is (target g i) b (inr (i, (e.0, e.1, sym to))) p.1

  reached_met : (set : List ℕ) (source file : ℕ) → Contains g.sources source → IsReachedWithout g set source file → IsMet g file
  reached_met set source file among w = walk_met w.0 source file (inl among) w.1

  -- files that are all met
  files_weigh : (files : List ℕ) → ((file : ℕ) → Contains files file → IsMet g file) → weight_of weights files ≡ weight_of others files
  files_weigh files met =
      sum-map (λ f. slice_index_or weights f 0) files ∙ by_sums files met ∙ sym (sum-map (λ f. slice_index_or others f 0) files)
    where
      by_sums : (fs : List ℕ) → ((file : ℕ) → Contains fs file → IsMet g file) → sum_by (λ f. slice_index_or weights f 0) fs ≡ sum_by (λ f. slice_index_or others f 0) fs
      by_sums [] met = refl
      by_sums (f ∷ fs) met =
          sum_by-cons (λ f. slice_index_or weights f 0) f fs
          ∙ ap₂ (λ (n : ℕ) (m : ℕ). n + m) (same f (met f (contains_head f fs))) (by_sums fs (λ file there. met file (contains_tail f fs file there)))
          ∙ sym (sum_by-cons (λ f. slice_index_or others f 0) f fs)

  weight_same : (set : List ℕ) (source n : ℕ) → Contains g.sources source → IsWeight g weights set source n → IsWeight g others set source n
  weight_same set source n among w =
      (w.0, w.1, w.2 ∙ files_weigh w.0 (λ file there. reached_met set source file among ((w.1.1 file).0 there)))

  -- sums of what goes by the weights of met files alone
  sum_same : (Has Other : (source n : ℕ) → Type 0) (sources : List ℕ) (n : ℕ) → ((source : ℕ) → Contains sources source → Contains g.sources source)
      → ((source m : ℕ) → Contains g.sources source → Has source m → Other source m) → IsSum Has sources n → IsSum Other sources n
  sum_same Has Other [] n among step costs.no_source = costs.no_source
  sum_same Has Other (s ∷ ss) n among step (costs.and_source {n = a} {total = b} h t) =
      costs.and_source (step s a (among s (contains_head s ss)) h) (sum_same Has Other ss b (λ source there. among source (contains_tail s ss source there)) step t)

  sum_of : (Has Other : (source n : ℕ) → Type 0) (n : ℕ) → ((source m : ℕ) → Contains g.sources source → Has source m → Other source m) → IsSum Has g.sources n → IsSum Other g.sources n
  sum_of Has Other n step h = sum_same Has Other g.sources n (λ source there. there) step h

  pub total_same : (set : List ℕ) (n : ℕ) → IsTotal g weights set g.sources n → IsTotal g others set g.sources n
  total_same set n h = sum_of (λ source m. IsWeight g weights set source m) (λ source m. IsWeight g others set source m) n (λ source m among w. weight_same set source m among w) h

  pub saved_same : (bytes counts : List ℕ) → AreSaved g weights g.sources bytes counts → AreSaved g others g.sources bytes counts
  saved_same bytes counts h = record {
    long = h.long;
    counted = h.counted;
    bytes_are = λ edge low.
        (let s = h.bytes_are edge low in
        record { whole = s.whole; rest = s.rest; is_whole = total_same [] s.whole s.is_whole; is_rest = total_same (edge ∷ []) s.rest s.is_rest; sums = s.sums });
    counts_are = λ edge low.
        sum_of (IsSparing g weights (edge ∷ [])) (IsSparing g others (edge ∷ [])) (slice_index counts edge)
        (λ source m among s. (s.0, s.1, weight_same [] source s.0 among s.2, weight_same (edge ∷ []) source s.1 among s.3, s.4)) (h.counts_are edge low);
  }

  pub kept_out_same : (group : List Bool) (bytes count : ℕ) → IsKeptOut g weights group bytes count → IsKeptOut g others group bytes count
  kept_out_same group bytes count h =
      let set = h.0 in
      let s = h.2 in (
        set,
        h.1,
        record { whole = s.whole; rest = s.rest; is_whole = total_same [] s.whole s.is_whole; is_rest = total_same set s.rest s.is_rest; sums = s.sums },
        sum_of (IsSparing g weights set) (IsSparing g others set) count
            (λ source m among s. (s.0, s.1, weight_same [] source s.0 among s.2, weight_same set source s.1 among s.3, s.4)) h.3,
      )

  pub brought_same : (bytes counts : List ℕ) → AreAllBrought g weights g.sources bytes counts → AreAllBrought g others g.sources bytes counts
  brought_same bytes counts h = record {
    long = h.long;
    counted = h.counted;
    bytes_are = λ file low.
        sum_of (IsBrought g weights file) (IsBrought g others file) (slice_index bytes file)
        (λ source m among b. (b.0, b.1, b.2 ∙ files_weigh b.0 (λ f there. reached_met [] source f among ((b.1.1 f).0 there).0))) (h.bytes_are file low);
    counts_are = h.counts_are;
  }
