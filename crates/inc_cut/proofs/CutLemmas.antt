-- The largest flow gives the cut, its chains the certificate.
use Rattle.std.proofs.Common.{◌≡◌, ℕ, Bool, true, false, List, [], length, refl, ◌∙◌, arith}
use Rattle.std.specs.Prelude.{nat_lt, not, ◌&&◌, slice_index_or}
use Rattle.std.proofs.lemmas.Bool.{and_parts, not-true}
use Rattle.std.proofs.lemmas.Option.{none-some}
use Rattle.inc_graph.specs.IncludeGraph.{Graph}
use Rattle.inc_graph.specs.Chains.{target}
use Rattle.inc_graph.specs.Cuts.{Counted, fixed_by, costs_by, are_in_order, chains_in, IsCostCertificate, IsCut}
use Rattle.inc_graph.proofs.CertificateLemmas.{certificate_is_cheapest}
use Rattle.inc_cut.specs.Flows.{source_of, is_open_by, leaving}
use Rattle.inc_cut.specs.Answers.{IsCuttable, IsLargest, CanSplit, AreChainsOf}
use Rattle.inc_cut.proofs.SideLemmas.{reach_closed, tight_from_closed, tight_barrier, tight_value, leaving_separates, increasing_range}
use Rattle.inc_cut.proofs.LoweringLemmas.{carrying_most}
use Rattle.inc_cut.proofs.NearestLemmas.{reach_is_nearest}

pub split_start : (g : Graph) (amounts flows : List ℕ) (reached : List Bool) → IsCuttable g amounts → (l : IsLargest g amounts flows reached) → CanSplit g amounts flows l.value []
split_start g amounts flows reached c l =
    let f = l.flow in
    let tight = tight_from_closed g amounts flows (λ file. slice_index_or reached file false) (reach_closed g (is_open_by amounts flows) (λ file. slice_index_or reached file false) l.reach) in
    record {
      cuttable = c;
      are = l.are;
      set = leaving g (λ file. slice_index_or reached file false);
      separates = leaving_separates g amounts (λ file. slice_index_or reached file false) (tight_barrier g amounts flows (λ file. slice_index_or reached file false) tight);
      real = refl;
      within = λ i free. let x = f.within i free in omega arith;
      balanced = λ inside side. let x = f.balanced inside side in omega arith;
      emptied = λ k x at. absurd (none-some x at);
      different = λ k j x y at. absurd (none-some x at);
      few =
          let x = carrying_most flows in
          let are = l.are in
          let y = are.flows_long in
          omega arith;
    }

pub cut_is : (g : Graph) (amounts flows : List ℕ) (reached : List Bool) (chains : List Counted) → (l : IsLargest g amounts flows reached)
    → AreChainsOf g amounts l.value chains → are_in_order (chains_in chains) ≡ true
    → IsCut g (fixed_by amounts) (costs_by amounts) (leaving g (λ file. slice_index_or reached file false)) chains
cut_is g amounts flows reached chains l a order =
    let tight = tight_from_closed g amounts flows (λ file. slice_index_or reached file false) (reach_closed g (is_open_by amounts flows) (λ file. slice_index_or reached file false) l.reach) in
    let value = tight_value g amounts flows l.value (λ file. slice_index_or reached file false) l.flow tight in
    let shown : IsCostCertificate g (fixed_by amounts) (costs_by amounts) (leaving g (λ file. slice_index_or reached file false)) chains = record {
      separates = leaving_separates g amounts (λ file. slice_index_or reached file false) (tight_barrier g amounts flows (λ file. slice_index_or reached file false) tight);
      real = a.real;
      within = λ i free. a.within i (not-true (fixed_by amounts i) (and_parts (nat_lt i (length g.edges)) (not (fixed_by amounts i)) free).1);
      counts = a.total ∙ value;
    } in
    record {
      nearest = reach_is_nearest g amounts flows l.value (λ file. slice_index_or reached file false) l.flow l.reach
          (certificate_is_cheapest g (fixed_by amounts) (costs_by amounts) (leaving g (λ file. slice_index_or reached file false)) chains shown);
      shown = shown;
      by_number = increasing_range (λ i. slice_index_or reached (source_of g i) false && not (slice_index_or reached (target g i) false)) (length g.edges);
      in_order = order;
    }
