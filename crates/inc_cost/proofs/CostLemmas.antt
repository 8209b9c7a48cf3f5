-- The costs of one more source.
use Rattle.std.proofs.Common.{◌≡◌, ℕ, ◌+◌, ◌<◌, ◌≤◌, List, [], ◌∷◌, ◌++◌, length, get_or, take, sym, ap, ◌∙◌, subst, add-one, arith}
use Rattle.std.specs.Prelude.{slice_index}
use Rattle.std.proofs.Math.Seq.{take-suc}
use Rattle.inc_graph.specs.IncludeGraph.{Graph}
use Rattle.inc_cost.specs.declared.costs.Costs.{Costs}
use Rattle.inc_cost.specs.declared.costs.SourceShares.{SourceShares}
use Rattle.inc_cost.specs.Costs.{IsSum, IsSaving, IsSparing, IsBrought, IsReaching, IsTotal, no_source}
use Rattle.inc_cost.specs.Shares.{AreKeys, IsLoss, IsLossOf, AreSourceShares}
use Rattle.inc_cost.specs.Sums.{AreCosts, AreAllBelow, AreBothBelow, IsFitting, AreAllAdded}
use Rattle.inc_cost.proofs.AddLemmas.{added_has}
use Rattle.inc_cost.proofs.TotalSums.{sum_more, total_push}

-- what one more source loses
pub saving_more : (g : Graph) (weights set sources : List ℕ) (source n m : ℕ) → IsSaving g weights set sources n → IsLossOf g weights set source m → IsSaving g weights set (sources ++ source ∷ []) (n + m)
saving_more g weights set sources source n m saving loss =
    let before = saving.sums in
    let more = loss.4 in
    record {
      whole = saving.whole + loss.0;
      rest = saving.rest + loss.1;
      is_whole = total_push g weights [] sources saving.whole source loss.0 saving.is_whole loss.2;
      is_rest = total_push g weights set sources saving.rest source loss.1 saving.is_rest loss.3;
      sums = omega arith;
    }

pub costs_none : (g : Graph) (weights : List ℕ) (c : Costs) → c.total ≡ 0 → length c.edges.bytes.items ≡ length g.edges → length c.edges.counts.items ≡ length g.edges → length c.files.bytes.items ≡ g.files
    → length c.files.counts.items ≡ g.files → AreBothBelow 0 c.edges → AreBothBelow 0 c.files → AreCosts g weights [] c
costs_none g weights c total edges counted files files_counted edges_none files_none = record {
  is_total = subst (IsTotal g weights [] []) (sym total) no_source;
  saved = record {
    long = edges;
    counted = counted;
    bytes_are = λ edge low. record { whole = 0; rest = 0; is_whole = no_source; is_rest = no_source; sums = let none = edges_none.0 edge in omega arith };
    counts_are = λ edge low. subst (IsSum (IsSparing g weights (edge ∷ [])) []) (sym (zero_is (slice_index c.edges.counts.items edge) (edges_none.1 edge))) no_source;
  };
  brought = record {
    long = files;
    counted = files_counted;
    bytes_are = λ file low. subst (IsSum (IsBrought g weights file) []) (sym (zero_is (slice_index c.files.bytes.items file) (files_none.0 file))) no_source;
    counts_are = λ file low. subst (IsSum (IsReaching g file) []) (sym (zero_is (slice_index c.files.counts.items file) (files_none.1 file))) no_source;
  };
}
  where
    zero_is : (n : ℕ) → n ≤ 0 → n ≡ 0
    zero_is n low = omega arith

pub costs_fit : (g : Graph) (weights sources : List ℕ) (source : ℕ) (c : Costs) (s : SourceShares) → AreCosts g weights sources c → AreSourceShares g weights source s → IsFitting c s
costs_fit g weights sources source c s costs shares = record {
  total = shares.few;
  edges = record {
    counted = costs.saved.counted ∙ sym costs.saved.long;
    keys = subst (λ n. AreKeys n s.edges.keys.items) (sym costs.saved.long) shares.edges.are;
    bytes_long = shares.edges.bytes_are.long;
    counts_long = shares.edges.counts_are.long;
    bytes_few = shares.edges.few;
    counts_few = shares.edges.one;
  };
  files = record {
    counted = costs.brought.counted ∙ sym costs.brought.long;
    keys = subst (λ n. AreKeys n s.files.keys.items) (sym costs.brought.long) shares.files.are;
    bytes_long = shares.files.bytes_are.long;
    counts_long = shares.files.counts_are.long;
    bytes_few = shares.files.few;
    counts_few = shares.files.one;
  };
}

costs_push : (g : Graph) (weights sources : List ℕ) (source : ℕ) (old new : Costs) (s : SourceShares) → AreCosts g weights sources old → AreSourceShares g weights source s → AreAllAdded s old new
    → AreCosts g weights (sources ++ source ∷ []) new
costs_push g weights sources source old new s costs shares added = record {
  is_total = subst (IsTotal g weights [] (sources ++ source ∷ [])) (sym added.total) (total_push g weights [] sources old.total source s.total costs.is_total shares.total);
  saved = record {
    long = added.edges.bytes.long ∙ costs.saved.long;
    counted = added.edges.counts.long ∙ costs.saved.counted;
    bytes_are = added_has (length g.edges) (λ edge n. IsSaving g weights (edge ∷ []) sources n) (λ edge n. IsSaving g weights (edge ∷ []) (sources ++ source ∷ []) n) (IsLoss g weights source)
        s.edges.keys.items s.edges.bytes.items old.edges.bytes.items new.edges.bytes.items (λ edge n m saving loss. saving_more g weights (edge ∷ []) sources source n m saving loss)
        shares.edges.bytes_are added.edges.bytes costs.saved.bytes_are;
    counts_are = added_has (length g.edges) (λ edge n. IsSum (IsSparing g weights (edge ∷ [])) sources n) (λ edge n. IsSum (IsSparing g weights (edge ∷ [])) (sources ++ source ∷ []) n)
        (λ edge n. IsSparing g weights (edge ∷ []) source n) s.edges.keys.items s.edges.counts.items old.edges.counts.items new.edges.counts.items
        (λ edge n m so_far one. sum_more (IsSparing g weights (edge ∷ [])) sources n source m so_far one) shares.edges.counts_are added.edges.counts costs.saved.counts_are;
  };
  brought = record {
    long = added.files.bytes.long ∙ costs.brought.long;
    counted = added.files.counts.long ∙ costs.brought.counted;
    bytes_are = added_has g.files (λ file n. IsSum (IsBrought g weights file) sources n) (λ file n. IsSum (IsBrought g weights file) (sources ++ source ∷ []) n) (λ file n. IsBrought g weights file source n)
        s.files.keys.items s.files.bytes.items old.files.bytes.items new.files.bytes.items (λ file n m so_far one. sum_more (IsBrought g weights file) sources n source m so_far one)
        shares.files.bytes_are added.files.bytes costs.brought.bytes_are;
    counts_are = added_has g.files (λ file n. IsSum (IsReaching g file) sources n) (λ file n. IsSum (IsReaching g file) (sources ++ source ∷ []) n) (λ file n. IsReaching g file source n)
        s.files.keys.items s.files.counts.items old.files.counts.items new.files.counts.items (λ file n m so_far one. sum_more (IsReaching g file) sources n source m so_far one)
        shares.files.counts_are added.files.counts costs.brought.counts_are;
  };
}

-- one more source of the list
pub costs_more : (g : Graph) (weights sources items : List ℕ) (i source : ℕ) (old new : Costs) (s : SourceShares) → items ≡ sources → i < length items → source ≡ get_or items i source
    → AreCosts g weights (take i sources) old → AreSourceShares g weights source s → AreAllAdded s old new → AreCosts g weights (take (i + 1) sources) new
costs_more g weights sources items i source old new s are low at costs shares added =
    let inside : i < length sources = let long = ap (λ (l : List ℕ). length l) are in omega arith in
    let there : source ≡ get_or sources i source = at ∙ ap (λ (l : List ℕ). get_or l i source) are in
    let taken : take (i + 1) sources ≡ take i sources ++ source ∷ [] = ap (λ (n : ℕ). take n sources) (add-one i) ∙ take-suc sources i source inside ∙ ap (λ y. take i sources ++ y ∷ []) (sym there) in
    subst (λ (l : List ℕ). AreCosts g weights l new) (sym taken) (costs_push g weights (take i sources) source old new s costs shares added)

pub below_step : (most next : ℕ) (c : Costs) → most ≤ next → AreAllBelow most c → AreAllBelow next c
below_step most next c up below = record {
  total = let t = below.total in omega arith;
  edges = (λ k. (let b = below.edges.0 k in omega arith), λ k. (let b = below.edges.1 k in omega arith));
  files = (λ k. (let b = below.files.0 k in omega arith), λ k. (let b = below.files.1 k in omega arith));
}
