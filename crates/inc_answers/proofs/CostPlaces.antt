-- What is ranked is within the lists that it is ranked of.
use Rattle.std.proofs.Common.{◌≡◌, ◌∙◌, ℕ, zero, suc, ◌<◌, List, [], ◌∷◌, All, arith, get_or, length, map, subst, sym}
use Rattle.std.specs.Prelude.{slice_index}
use Rattle.std.proofs.lemmas.List.{length-map}
use Rattle.std.proofs.lemmas.List.FromFn.{length-map-range_with_len}
use Rattle.std.proofs.lemmas.Option.{slice_get-get_or}
use Rattle.inc_graph.specs.IncludeGraph.{Graph}
use Rattle.inc_cost.specs.Costs.{Group, AreAllBrought, AreDearest, AreSaved, IsTotal}
use Rattle.inc_cost.specs.declared.costs.Amounts.{Amounts}
use Rattle.inc_cost.specs.declared.costs.Costs.{Costs}
use Rattle.inc_lookup.specs.Projects.{Layout}
use Rattle.inc_answers.specs.CostGroups.{Costed, AreCosted, AreGroupsRanked}
use Rattle.inc_answers.specs.CostText.{IsRanked, header_bytes, header_bytes_at}
use Rattle.inc_answers.specs.CostViews.{AreWithin, seen_ranked}
use Rattle.inc_answers.specs.declared.cost.Ranked.{Ranked}
use Rattle.inc_answers.specs.declared.cost_groups.RankedGroups.{RankedGroups}

-- past the end there is nothing
some_within : (bytes : List ℕ) (i : ℕ) → 0 < slice_index bytes i → i < length bytes
some_within [] i some = absurd (omega (arith, some))
some_within (b ∷ bs) zero some = omega arith
some_within (b ∷ bs) (suc i) some = let low = some_within bs i some in omega arith

dearest_within : (bytes : List ℕ) (most : ℕ) (places : List ℕ) (n : ℕ) → length bytes ≡ n → AreDearest bytes most places → All (λ i. i < n) places
dearest_within bytes most places n long d = λ k e low.
    (let within = some_within bytes (get_or places k e) (d.some k (get_or places k e) (slice_get-get_or places k e low)) in omega (arith, within, long))

pub groups_within : (r : RankedGroups) → AreGroupsRanked r.costed.items r.places.items → All (λ i. i < length r.costed.items) r.places.items
groups_within r ranked =
    dearest_within (map (λ (c : Costed). suc c.bytes) r.costed.items) (length r.costed.items) r.places.items (length r.costed.items)
    (length-map r.costed.items (λ (c : Costed). suc c.bytes)) ranked

module _ (g : Graph) (weights : List ℕ) (most : ℕ) where
  pub headers_within : (n : ℕ) (a : Amounts) (places : List ℕ) → g.files ≡ n → AreAllBrought g weights g.sources a.bytes.items a.counts.items
      → AreDearest (header_bytes g a.bytes.items) most places → AreWithin n a places
  headers_within n a places files brought dearest =
      let all : List ℕ = header_bytes g a.bytes.items in
      let long : length all ≡ g.files = length-map-range_with_len (header_bytes_at g a.bytes.items) 0 g.files in
      record {
        bytes = dearest_within all most places (length a.bytes.items) (long ∙ sym brought.long) dearest;
        counts = dearest_within all most places (length a.counts.items) (long ∙ sym brought.counted) dearest;
        things = dearest_within all most places n (long ∙ files) dearest;
      }

  pub edges_within : (a : Amounts) (places : List ℕ) → AreSaved g weights g.sources a.bytes.items a.counts.items → AreDearest a.bytes.items most places → AreWithin (length g.edges) a places
  edges_within a places saved dearest =
      let all : List ℕ = a.bytes.items in
      record {
        bytes = λ k e low. some_within all (get_or places k e) (dearest.some k (get_or places k e) (slice_get-get_or places k e low));
        counts = dearest_within all most places (length a.counts.items) (saved.long ∙ sym saved.counted) dearest;
        things = dearest_within all most places (length g.edges) saved.long dearest;
      }

  -- what is ranked of some costs, and of groups
  pub ranked_of : (groups : List Group) (layout : Layout) (r : Ranked) (c : Costs) (rg : RankedGroups) → r.costs ≡ c → r.groups ≡ rg → AreCosted layout g weights groups rg.costed.items
      → AreGroupsRanked rg.costed.items rg.places.items → IsTotal g weights [] g.sources c.total → AreSaved g weights g.sources c.edges.bytes.items c.edges.counts.items
      → AreAllBrought g weights g.sources c.files.bytes.items c.files.counts.items → AreDearest (header_bytes g c.files.bytes.items) most r.headers.items
      → AreDearest c.edges.bytes.items most r.edges.items → IsRanked weights most groups layout g (seen_ranked r)
  ranked_of groups layout r c rg same same_groups costed ranked total saved brought headers edges = record {
    total = subst (λ (k : Costs). IsTotal g weights [] g.sources k.total) (sym same) total;
    brought = subst (λ (k : Costs). AreAllBrought g weights g.sources k.files.bytes.items k.files.counts.items) (sym same) brought;
    headers = subst (λ (k : Costs). AreDearest (header_bytes g k.files.bytes.items) most r.headers.items) (sym same) headers;
    costed = subst (λ (k : RankedGroups). AreCosted layout g weights groups k.costed.items) (sym same_groups) costed;
    ranked = subst (λ (k : RankedGroups). AreGroupsRanked k.costed.items k.places.items) (sym same_groups) ranked;
    saved = subst (λ (k : Costs). AreSaved g weights g.sources k.edges.bytes.items k.edges.counts.items) (sym same) saved;
    edges = subst (λ (k : Costs). AreDearest k.edges.bytes.items most r.edges.items) (sym same) edges;
  }
