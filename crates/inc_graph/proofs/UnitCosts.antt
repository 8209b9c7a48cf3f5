-- What costs that are all 1 say: the cheapest sets are the smallest, and chains that show it share no editable edge.
use Rattle.std.proofs.Common.{◌≡◌, ℕ, zero, suc, ◌+◌, ◌<◌, ◌≤◌, Bool, true, false, not, cond, List, [], ◌∷◌, Option, Some, refl, sym, ap₂, ◌∙◌, length, arith}
use Rattle.std.specs.Prelude.{◌↔◌, nat_lt, slice_get, IsTrue}
use Rattle.std.specs.List.{All, list_all}
use Rattle.std.specs.Option.{option_map_or}
use Rattle.std.proofs.lemmas.Bool.{and_parts, ltb-true}
use Rattle.std.proofs.lemmas.List.Sums.{sum_by-cons}
use Rattle.inc_lookup.specs.Projects.{Layout}
use Rattle.inc_graph.specs.IncludeGraph.{Edge, Graph}
use Rattle.inc_graph.specs.Cuts.{Fixed, Costs, Counted, is_editable, IsCheapest, IsCostCertificate, IsSmallest, one_each, total_cost, fixed_by, costs_by}
use Rattle.inc_graph.specs.MarkedEdges.{names, amount_at, amounts_by}
use Rattle.inc_graph.specs.Marks.{Mark, Cost}
use Rattle.inc_graph.proofs.CertificateLemmas.{cheapest_of_one}
use Rattle.inc_graph.proofs.MarkLaws.{cost_elsewhere}

---- costs that are equal on the editable edges

module _ (g : Graph) (fixed : Fixed) where
  abbrev Agree : Costs → Costs → Type 0
  Agree a b = (i : ℕ) → IsTrue (is_editable g fixed i) → a i ≡ b i

  turned : (a b : Costs) → Agree a b → Agree b a
  turned a b same i editable = sym (same i editable)

  total_same : (a b : Costs) → Agree a b → (set : List ℕ) → IsTrue (list_all (is_editable g fixed) set) → total_cost a set ≡ total_cost b set
  total_same a b same [] editable = refl
  total_same a b same (x ∷ xs) editable =
      let parts = and_parts (is_editable g fixed x) (list_all (is_editable g fixed) xs) editable in
      sum_by-cons a x xs ∙ ap₂ (λ m n. m + n) (same x parts.0) (total_same a b same xs parts.1) ∙ sym (sum_by-cons b x xs)

  cheapest_as : (a b : Costs) → Agree a b → (set : List ℕ) → IsCheapest g fixed a set → IsCheapest g fixed b set
  cheapest_as a b same set c =
      record {
        separates = c.separates;
        least = λ other separates.
            let here : total_cost a set ≡ total_cost b set = total_same a b same set c.separates.editable in
            let there : total_cost a other ≡ total_cost b other = total_same a b same other separates.editable in
            let least : total_cost a set ≤ total_cost a other = c.least other separates in
            omega arith;
      }

  certificate_as : (a b : Costs) → Agree a b → (set : List ℕ) (chains : List Counted) → IsCostCertificate g fixed a set chains → IsCostCertificate g fixed b set chains
  certificate_as a b same set chains c =
      record {
        separates = c.separates;
        real = c.real;
        within = λ i editable. rw (← same i editable) (c.within i editable);
        counts = c.counts ∙ total_same a b same set c.separates.editable;
      }

  pub cheapest_of_ones : (cost : Costs) (set : List ℕ) → ((i : ℕ) → IsTrue (is_editable g fixed i) → cost i ≡ 1) → IsCheapest g fixed cost set ↔ IsSmallest g fixed set
  cheapest_of_ones cost set ones =
      let one = cheapest_of_one g fixed set in
      ((λ c. one.0 (cheapest_as cost one_each ones set c)), (λ s. cheapest_as one_each cost (turned cost one_each ones) set (one.1 s)))

  pub certificate_of_ones : (cost : Costs) (set : List ℕ) (chains : List Counted) → ((i : ℕ) → IsTrue (is_editable g fixed i) → cost i ≡ 1)
      → IsCostCertificate g fixed cost set chains ↔ IsCostCertificate g fixed one_each set chains
  certificate_of_ones cost set chains ones =
      (certificate_as cost one_each ones set chains, certificate_as one_each cost (turned cost one_each ones) set chains)

---- amounts of lists of costs that are all 1

by_name : (c : Cost) (o : Option Cost) (b : Bool) → c.amount ≡ 1 → option_map_or (λ (x : Cost). x.amount) o 1 ≡ 1 → option_map_or (λ (x : Cost). x.amount) (cond b (Some c) o) 1 ≡ 1
by_name c o true here later = here
by_name c o false here later = later

given_one : (layout : Layout) (costs : List Cost) (file line : ℕ) → All (λ (c : Cost). c.amount ≡ 1) costs → amount_at layout costs file line ≡ 1
given_one layout [] file line each = refl
given_one layout (c ∷ cs) file line each =
    by_name c _ (names layout c.mark file line) (each 0 c (omega arith)) (given_one layout cs file line (λ k d low. each (suc k) d (omega arith)))

there_is : (es : List Edge) (i : ℕ) → i < length es → (e : Edge) × (slice_get es i ≡ Some e)
there_is [] i low = absurd (omega arith)
there_is (e ∷ es) zero low = (e, refl)
there_is (e ∷ es) (suc i) low = there_is es i (omega arith)

not_true : (b : Bool) → not b ≡ true → b ≡ false
not_true true h = sym h
not_true false h = refl

pub ones_given : (layout : Layout) (g : Graph) (kept : List Bool) (marks : List Mark) (costs : List Cost) → All (λ (c : Cost). c.amount ≡ 1) costs
    → (i : ℕ) → IsTrue (is_editable g (fixed_by (amounts_by layout g kept marks costs)) i) → costs_by (amounts_by layout g kept marks costs) i ≡ 1
ones_given layout g kept marks costs each i editable =
    let fixed = fixed_by (amounts_by layout g kept marks costs) in
    let parts = and_parts (nat_lt i (length g.edges)) (not (fixed i)) editable in
    let edge = there_is g.edges i (ltb-true i (length g.edges) parts.0) in
    let some : All (λ (c : Cost). 1 ≤ c.amount) costs = λ k d low. let is : (_) = each k d low in omega (arith, is) in
    cost_elsewhere layout g kept marks costs i edge.0 some edge.1 (not_true (fixed i) parts.1) ∙ given_one layout costs edge.0.from edge.0.line each
