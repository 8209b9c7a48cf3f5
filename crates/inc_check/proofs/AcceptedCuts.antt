-- A checker accepts the certificate of a cut.
use Rattle.std.proofs.Common.{◌≡◌, ℕ, ◌<◌, ◌≤◌, Bool, true, false, List, [], ◌∷◌, Option, Some, All, length, map, refl, sym, ap, ◌∙◌, subst, arith, ◌&&◌}
use Rattle.std.specs.Prelude.{◌==◌, not, nat_lt, IsTrue}
use Rattle.std.specs.List.{list_any, list_all}
use Rattle.std.specs.Option.{option_map_or}
use Rattle.std.proofs.lemmas.Bool.{and_parts, and_from, or_parts, or_from, eq-eqb, ne_eqb, ltb-true, false≢true, false_from_ne_true, not_from_false, not-true}
use Rattle.std.proofs.lemmas.List.Elements.{All-nil, All-cons, All-head, All-tail}
use Rattle.inc_lookup.specs.Projects.{Layout}
use Rattle.inc_graph.specs.IncludeGraph.{Graph, IsSound}
use Rattle.inc_graph.specs.Chains.{is_chain}
use Rattle.inc_graph.specs.Members.{is_member, is_distinct}
use Rattle.inc_graph.specs.Cuts.{Fixed, Costs, Counted, is_editable, meets, count_through, total_count, total_cost, IsCostCertificate}
use Rattle.inc_graph.specs.Marks.{Mark}
use Rattle.inc_graph.proofs.Walks.{chain-within}
use Rattle.inc_check.specs.declared.verdicts.Reason.TheVariants.{NotEditable, Repeated, StillReached, NotAChain, Shared, Counts}
use Rattle.inc_check.specs.declared.verdicts.Verdict.TheVariants.{Yes}
use Rattle.inc_graph.specs.MarkedEdges.{same_mark, edge_number}
use Rattle.inc_check.specs.Certificates.{edge_mark, marks_of, edge_numbers, chain_marks, certificate_of, chains_of, is_marked_editable, are_different, is_marked_chain, is_counted_chain, IsVerdict, IsEachPathOnce}
use Rattle.inc_graph.proofs.NamedEdges.{mark_is}
use Rattle.inc_check.proofs.EdgeMarks.{edge_at, marks_cons, same_edge, number_of_mark, numbers_of_marks}

never : (b : Bool) → b ≡ true → IsTrue (not b) → ⊥
never true is fails = false≢true fails
never false is fails = false≢true is

pub all_editable-within : (g : Graph) (fixed : Fixed) (is : List ℕ) → list_all (is_editable g fixed) is ≡ true → All (λ i. i < length g.edges) is
all_editable-within g fixed [] all = All-nil (λ i. i < length g.edges)
all_editable-within g fixed (i ∷ is) all =
    let parts = and_parts (is_editable g fixed i) (list_all (is_editable g fixed) is) all in
    All-cons (λ j. j < length g.edges) i is (ltb-true i (length g.edges) (and_parts (nat_lt i (length g.edges)) (not (fixed i)) parts.0).0) (all_editable-within g fixed is parts.1)

counts_one : (n : ℕ) → nat_lt 0 n ≡ true → not (n == 0) ≡ true
counts_one n some = not_from_false (n == 0) (ne_eqb n 0 (λ none. let more = ltb-true 0 n some in omega arith))

module _ (layout : Layout) (g : Graph) (once : IsEachPathOnce layout) (sound : IsSound g) (files : g.files ≡ length layout.paths) where
  number_is : (i : ℕ) → i < length g.edges → edge_number layout g (edge_mark layout (edge_at g i)) ≡ Some i
  number_is = number_of_mark layout g once sound files

  ---- the cut

  all_editable : (fixed : Fixed) (is : List ℕ) → list_all (is_editable g fixed) is ≡ true → list_all (is_marked_editable layout g fixed) (marks_of layout g is) ≡ true
  all_editable fixed [] all = refl
  all_editable fixed (i ∷ is) all =
      let parts = and_parts (is_editable g fixed i) (list_all (is_editable g fixed) is) all in
      let here = and_parts (nat_lt i (length g.edges)) (not (fixed i)) parts.0 in
      let low : i < length g.edges = ltb-true i (length g.edges) here.0 in
      let m : Mark = edge_mark layout (edge_at g i) in
      let first : is_marked_editable layout g fixed m ≡ true = ap (λ (o : Option ℕ). option_map_or (λ j. not (fixed j)) o false) (number_is i low) ∙ here.1 in
      ap (list_all (is_marked_editable layout g fixed)) (marks_cons layout g i is low)
      ∙ and_from (is_marked_editable layout g fixed m) (list_all (is_marked_editable layout g fixed) (marks_of layout g is)) first (all_editable fixed is parts.1)

  none_same : (i : ℕ) (is : List ℕ) → i < length g.edges → All (λ j. j < length g.edges) is → is_member i is ≡ false → list_any (same_mark (edge_mark layout (edge_at g i))) (marks_of layout g is) ≡ false
  none_same i [] low within none = refl
  none_same i (j ∷ js) low within none =
      let m : Mark = edge_mark layout (edge_at g i) in
      let k : Mark = edge_mark layout (edge_at g j) in
      let parts = or_parts (j == i) (is_member i js) none in
      let low_j : j < length g.edges = All-head (λ n. n < length g.edges) j js within in
      let differs : same_mark m k ≡ false = false_from_ne_true (same_mark m k) (λ same.
      let eq : i ≡ j = same_edge layout g once sound files i j low low_j (mark_is m k same) in
      false≢true (sym parts.0 ∙ eq-eqb j i (sym eq))) in
      ap (list_any (same_mark m)) (marks_cons layout g j js low_j)
      ∙ or_from (same_mark m k) (list_any (same_mark m) (marks_of layout g js)) differs (none_same i js low (All-tail (λ n. n < length g.edges) j js within) parts.1)

  all_different : (is : List ℕ) → All (λ j. j < length g.edges) is → is_distinct is ≡ true → are_different (marks_of layout g is) ≡ true
  all_different [] within distinct = refl
  all_different (i ∷ is) within distinct =
      let parts = and_parts (not (is_member i is)) (is_distinct is) distinct in
      let low : i < length g.edges = All-head (λ n. n < length g.edges) i is within in
      let rest : All (λ j. j < length g.edges) is = All-tail (λ n. n < length g.edges) i is within in
      let m : Mark = edge_mark layout (edge_at g i) in
      let none : list_any (same_mark m) (marks_of layout g is) ≡ false = none_same i is low rest (not-true (is_member i is) parts.0) in
      ap are_different (marks_cons layout g i is low)
      ∙ and_from (not (list_any (same_mark m) (marks_of layout g is))) (are_different (marks_of layout g is)) (not_from_false _ none) (all_different is rest parts.1)

  ---- the chains

  all_named : (is : List ℕ) → All (λ j. j < length g.edges) is → list_all (λ m. option_map_or (λ i. true) (edge_number layout g m) false) (marks_of layout g is) ≡ true
  all_named [] within = refl
  all_named (i ∷ is) within =
      let names : Mark → Bool = λ m. option_map_or (λ j. true) (edge_number layout g m) false in
      let low : i < length g.edges = All-head (λ n. n < length g.edges) i is within in
      let m : Mark = edge_mark layout (edge_at g i) in
      ap (list_all names) (marks_cons layout g i is low)
      ∙ and_from (names m) (list_all names (marks_of layout g is)) (ap (λ (o : Option ℕ). option_map_or (λ j. true) o false) (number_is i low))
      (all_named is (All-tail (λ n. n < length g.edges) i is within))

  chain_same : (is : List ℕ) → is_chain g is ≡ true → edge_numbers layout g (marks_of layout g is) ≡ is
  chain_same is real = numbers_of_marks layout g once sound files is (chain-within g is real)

  chains_same : (chains : List Counted) → list_all (λ (c : Counted). is_chain g c.chain && nat_lt 0 c.count) chains ≡ true → chains_of layout g (map (chain_marks layout g) chains) ≡ chains
  chains_same [] real = refl
  chains_same (c ∷ cs) real =
      let parts = and_parts (is_chain g c.chain && nat_lt 0 c.count) (list_all (λ (d : Counted). is_chain g d.chain && nat_lt 0 d.count) cs) real in
      let here = and_parts (is_chain g c.chain) (nat_lt 0 c.count) parts.0 in
      ap (λ (is : List ℕ). record { chain = is; count = c.count } ∷ chains_of layout g (map (chain_marks layout g) cs)) (chain_same c.chain here.0)
      ∙ ap (λ (ds : List Counted). c ∷ ds) (chains_same cs parts.1)

  all_counted : (chains : List Counted) → list_all (λ (c : Counted). is_chain g c.chain && nat_lt 0 c.count) chains ≡ true → list_all (is_counted_chain layout g) (map (chain_marks layout g) chains) ≡ true
  all_counted [] real = refl
  all_counted (c ∷ cs) real =
      let parts = and_parts (is_chain g c.chain && nat_lt 0 c.count) (list_all (λ (d : Counted). is_chain g d.chain && nat_lt 0 d.count) cs) real in
      let here = and_parts (is_chain g c.chain) (nat_lt 0 c.count) parts.0 in
      let marked : is_marked_chain layout g (marks_of layout g c.chain) ≡ true =
      and_from _ _ (all_named c.chain (chain-within g c.chain here.0)) (ap (is_chain g) (chain_same c.chain here.0) ∙ here.0) in
      and_from (is_counted_chain layout g (chain_marks layout g c)) (list_all (is_counted_chain layout g) (map (chain_marks layout g) cs))
      (and_from _ _ marked (counts_one c.count here.1)) (all_counted cs parts.1)

  ---- the verdict

  module _ (fixed : Fixed) (cost : Costs) (set : List ℕ) (chains : List Counted) (shown : IsCostCertificate g fixed cost set chains) where
    set_within : All (λ i. i < length g.edges) set
    set_within = all_editable-within g fixed set shown.separates.editable

    set_same : edge_numbers layout g (marks_of layout g set) ≡ set
    set_same = numbers_of_marks layout g once sound files set set_within

    same_chains : chains_of layout g (map (chain_marks layout g) chains) ≡ chains
    same_chains = chains_same chains shown.real

    pub cut_is_accepted : IsVerdict layout g fixed cost (certificate_of layout g set chains) Yes
    cut_is_accepted NotEditable fails = never (list_all (is_marked_editable layout g fixed) (marks_of layout g set)) (all_editable fixed set shown.separates.editable) fails
    cut_is_accepted Repeated fails = never (are_different (marks_of layout g set)) (all_different set set_within shown.separates.once) fails
    cut_is_accepted StillReached fails =
        never (meets fails.0 (edge_numbers layout g (marks_of layout g set))) (ap (meets fails.0) set_same ∙ shown.separates.met fails.0 fails.1) fails.2
    cut_is_accepted NotAChain fails = never (list_all (is_counted_chain layout g) (map (chain_marks layout g) chains)) (all_counted chains shown.real) fails
    cut_is_accepted Shared fails =
        let more : cost fails.0 < count_through fails.0 chains = subst (λ (cs : List Counted). cost fails.0 < count_through fails.0 cs) same_chains fails.2 in
        let most : count_through fails.0 chains ≤ cost fails.0 = shown.within fails.0 fails.1 in
        omega arith
    cut_is_accepted Counts fails =
        let same : total_count (chains_of layout g (map (chain_marks layout g) chains)) ≡ total_cost cost (edge_numbers layout g (marks_of layout g set)) =
        ap total_count same_chains ∙ shown.counts ∙ sym (ap (total_cost cost) set_same) in
        never _ (eq-eqb _ _ same) fails
