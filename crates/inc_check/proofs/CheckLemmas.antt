-- What a checker has worked out, and what that says of a certificate: each test that passes rules out a reason, and the first that
-- fails is the answer.
use Rattle.std.proofs.Common.{◌≡◌, ℕ, suc, ◌*◌, ◌<◌, ◌≤◌, Bool, true, false, List, [], ◌∷◌, ◌||◌, Option, Some, None, length, refl, sym, ap, ◌∙◌, inl, inr, arith, subst}
use Rattle.std.specs.Prelude.{◌==◌, ◌&&◌, not, nat_lt, slice_index}
use Rattle.std.specs.List.{list_any, list_all}
use Rattle.std.specs.Option.{option_map_or}
use Rattle.std.proofs.lemmas.Bool.{cases_Bool, cases_eq, and_parts, and_from, or_parts, eq-eqb, ne_eqb, not-true, not_from_false, true≢false, false_from_ne_true, ltb-true}
use Rattle.std.proofs.lemmas.Option.{slice_get_within}
use Rattle.inc_lookup.specs.Projects.{Layout}
use Rattle.inc_graph.specs.Chains.{target, leaves, is_walk, is_chain}
use Rattle.inc_graph.specs.Members.{is_member, is_distinct}
use Rattle.inc_graph.specs.Cuts.{Fixed, Costs, most_cost, is_editable, meets, count_through, total_count, total_cost}
use Rattle.inc_graph.specs.IncludeGraph.{Graph, most_directives}
use Rattle.inc_graph.specs.Marks.{Mark}
use Rattle.inc_graph.proofs.LooplessWalks.{chain_of_walk}
use Rattle.inc_check.specs.declared.certificates.Certificate.{Certificate}
use Rattle.inc_check.specs.declared.verdicts.Reason.{Reason}
use Rattle.inc_check.specs.declared.verdicts.Reason.TheVariants.{NotEditable, Repeated, StillReached, NotAChain, Shared, Counts}
use Rattle.inc_check.specs.declared.verdicts.Verdict.TheVariants.{Yes, No}
use Rattle.inc_graph.specs.MarkedEdges.{same_mark, edge_number}
use Rattle.inc_check.specs.Certificates.{edge_numbers, chains_of, reason_number, is_marked_editable, are_different, is_counted_chain, Fails, IsVerdict}
use Rattle.inc_check.specs.Checking.{is_named, AreNamed, IsSetOf, is_flagged, misses, IsHeaderPast, IsSetMet, capped, AreSums}
use Rattle.inc_graph.proofs.NamedEdges.{mark_is}
use Rattle.inc_check.proofs.VerdictLemmas.{numbers_cons, once}
use Rattle.inc_graph.proofs.Walks.{leaving_edge, chain_parts}

never : (b : Bool) → b ≡ true → not b ≡ true → ⊥
never true e n = true≢false (sym n)
never false e n = true≢false (sym e)

---- the cut

not_or : (a b : Bool) → not (a || b) ≡ (not a && not b)
not_or true b = refl
not_or false b = refl

-- where each mark names an edge, each is editable if no edge is fixed
editable_is : (layout : Layout) (g : Graph) (fixed : Fixed) (ms : List Mark) → list_all (is_named layout g) ms ≡ true
    → list_all (is_marked_editable layout g fixed) ms ≡ not (list_any fixed (edge_numbers layout g ms))
editable_is layout g fixed [] all = refl
editable_is layout g fixed (m ∷ ms) all =
    let parts = and_parts (is_named layout g m) (list_all (is_named layout g) ms) all in
    by_number (edge_number layout g m) refl parts.0 (editable_is layout g fixed ms parts.1)
  where
    by_number : (o : Option ℕ) → edge_number layout g m ≡ o → option_map_or (λ i. true) o false ≡ true → list_all (is_marked_editable layout g fixed) ms ≡ not (list_any fixed (edge_numbers layout g ms))
        → list_all (is_marked_editable layout g fixed) (m ∷ ms) ≡ not (list_any fixed (edge_numbers layout g (m ∷ ms)))
    by_number None e named rest = absurd (true≢false (sym named))
    by_number (Some i) e named rest =
        ap (λ (o : Option ℕ). option_map_or (λ j. not (fixed j)) o false && list_all (is_marked_editable layout g fixed) ms) e
        ∙ ap (λ b. not (fixed i) && b) rest ∙ sym (not_or (fixed i) (list_any fixed (edge_numbers layout g ms)))
        ∙ sym (ap (λ (is : List ℕ). not (list_any fixed is)) (numbers_cons layout g m ms (Some i) e))

-- a mark that is again names the same edge
or_last : (b : Bool) → (b || true) ≡ true
or_last true = refl
or_last false = refl

met_later : (layout : Layout) (g : Graph) (k : Mark) (i : ℕ) (ms : List Mark) (o : Option ℕ) → edge_number layout g k ≡ o → is_member i (edge_numbers layout g ms) ≡ true → is_member i (edge_numbers layout g (k ∷ ms)) ≡ true
met_later layout g k i ms None f later = ap (is_member i) (numbers_cons layout g k ms None f) ∙ later
met_later layout g k i ms (Some j) f later = ap (is_member i) (numbers_cons layout g k ms (Some j) f) ∙ ap (λ b. (j == i) || b) later ∙ or_last (j == i)

again : (layout : Layout) (g : Graph) (m : Mark) (i : ℕ) (ms : List Mark) → edge_number layout g m ≡ Some i → list_any (same_mark m) ms ≡ true → is_member i (edge_numbers layout g ms) ≡ true
again layout g m i [] e met = absurd (true≢false (sym met))
again layout g m i (k ∷ ms) e met =
    elim (cases_Bool (same_mark m k)) [
      | inl is ↦
          let number : edge_number layout g k ≡ Some i = ap (edge_number layout g) (sym (mark_is m k is)) ∙ e in
          ap (is_member i) (numbers_cons layout g k ms (Some i) number) ∙ ap (λ b. b || is_member i (edge_numbers layout g ms)) (eq-eqb i i refl)
      | inr other ↦ met_later layout g k i ms (edge_number layout g k) refl (again layout g m i ms e (sym (ap (λ b. b || list_any (same_mark m) ms) other) ∙ met))
    ]

-- so marks of different edges are different
different : (layout : Layout) (g : Graph) (ms : List Mark) → list_all (is_named layout g) ms ≡ true → is_distinct (edge_numbers layout g ms) ≡ true → are_different ms ≡ true
different layout g [] all d = refl
different layout g (m ∷ ms) all d =
    let parts = and_parts (is_named layout g m) (list_all (is_named layout g) ms) all in
    one (edge_number layout g m) refl parts.0 (λ rest. different layout g ms parts.1 rest)
  where
    one : (o : Option ℕ) → edge_number layout g m ≡ o → option_map_or (λ (i : ℕ). true) o false ≡ true → (is_distinct (edge_numbers layout g ms) ≡ true → are_different ms ≡ true) → are_different (m ∷ ms) ≡ true
    one None e named rest = absurd (true≢false (sym named))
    one (Some i) e named rest =
        let split : is_distinct (i ∷ edge_numbers layout g ms) ≡ true = ap is_distinct (sym (numbers_cons layout g m ms (Some i) e)) ∙ d in
        let parts = and_parts (not (is_member i (edge_numbers layout g ms))) (is_distinct (edge_numbers layout g ms)) split in
        let fresh : list_any (same_mark m) ms ≡ false = false_from_ne_true (list_any (same_mark m) ms) (λ met. never (is_member i (edge_numbers layout g ms)) (again layout g m i ms e met) parts.0) in
        and_from (not (list_any (same_mark m) ms)) (are_different ms) (not_from_false (list_any (same_mark m) ms) fresh) (rest parts.1)

---- walks past the cut

walk_within : (g : Graph) (a : ℕ) (walk : List ℕ) (b i : ℕ) → is_walk g a walk b ≡ true → is_member i walk ≡ true → i < length g.edges
walk_within g a [] b i walk met = absurd (true≢false (sym met))
walk_within g a (j ∷ js) b i walk met =
    let steps = and_parts (leaves g a j) (is_walk g (target g j) js b) walk in
    elim (cases_eq j i) [
      | inl same ↦
          let e = leaving_edge g a j _ refl steps.0 in
          let low = slice_get_within g.edges j e.0 e.1 in
          omega arith
      | inr other ↦ walk_within g (target g j) js b i steps.1 (sym (ap (λ x. x || is_member i js) (ne_eqb j i other)) ∙ met)
    ]

missed : (flags : List Bool) (walk : List ℕ) (i : ℕ) → misses flags walk ≡ true → is_member i walk ≡ true → is_flagged flags i ≡ false
missed flags [] i past met = absurd (true≢false (sym met))
missed flags (j ∷ js) i past met =
    let parts = and_parts (not (is_flagged flags j)) (misses flags js) past in
    elim (cases_eq j i) [
      | inl same ↦ ap (is_flagged flags) (sym same) ∙ not-true (is_flagged flags j) parts.0
      | inr other ↦ missed flags js i parts.1 (sym (ap (λ x. x || is_member i js) (ne_eqb j i other)) ∙ met)
    ]

member_first : (i : ℕ) (is : List ℕ) → is_member i (i ∷ is) ≡ true
member_first i is = ap (λ b. b || is_member i is) (eq-eqb i i refl)

member_later : (i j : ℕ) (is : List ℕ) → is_member i is ≡ true → is_member i (j ∷ is) ≡ true
member_later i j is met = ap (λ b. (j == i) || b) met ∙ or_last (j == i)

no_meeting : (is js : List ℕ) → ((i : ℕ) → is_member i is ≡ true → is_member i js ≡ false) → meets is js ≡ false
no_meeting [] js none = refl
no_meeting (i ∷ is) js none =
    ap (λ b. b || meets is js) (none i (member_first i is)) ∙ no_meeting is js (λ k met. none k (member_later k i is met))

all_missed : (flags : List Bool) (cut walk : List ℕ) → ((i : ℕ) → is_member i walk ≡ true → is_flagged flags i ≡ is_member i cut) → meets walk cut ≡ false → misses flags walk ≡ true
all_missed flags cut [] same none = refl
all_missed flags cut (i ∷ is) same none =
    let parts = or_parts (is_member i cut) (meets is cut) none in
    and_from (not (is_flagged flags i)) (misses flags is) (not_from_false (is_flagged flags i) (same i (member_first i is) ∙ parts.0))
    (all_missed flags cut is (λ k met. same k (member_later k i is met)) parts.1)

module _ (g : Graph) (cut : List ℕ) (flags : List Bool) (set : IsSetOf (length g.edges) cut flags) where
  -- a walk past the set holds a chain that misses the cut
  chain_past : IsHeaderPast g flags → (chain : List ℕ) × (is_chain g chain ≡ true) × (not (meets chain cut) ≡ true)
  chain_past p =
      let past = p.reached in
      let chain = chain_of_walk g past.source p.header past.walk past.among p.among past.real in (
        chain.0,
        chain.1,
        not_from_false (meets chain.0 cut) (no_meeting chain.0 cut (λ i met.
            let there = chain.2 i met in
            sym (set.are i (walk_within g past.source past.walk p.header i past.real there)) ∙ missed flags past.walk i past.past there)),
      )

  -- where no walk goes past the set each chain meets the cut
  chains_meet : IsSetMet g flags → (chain : List ℕ) → is_chain g chain ≡ true → meets chain cut ≡ true
  chains_meet none chain is =
      let c = chain_parts g chain is in
      elim (cases_Bool (meets chain cut)) [
        | inl met ↦ met
        | inr apart ↦
            let past = all_missed flags cut chain (λ i there. set.are i (walk_within g c.source chain c.header i c.walk there)) apart in
            absurd (true≢false (sym past ∙ none c.source c.header chain c.begins c.ends c.walk))
      ]

---- sums

capped_over : (n count : ℕ) → n < capped count → n < count
capped_over n count over = omega arith

capped_within : (n count : ℕ) → n ≤ most_cost → capped count ≤ n → count ≤ n
capped_within n count low within = omega arith

capped_same : (n count : ℕ) → n ≤ most_cost * most_directives → capped count ≡ n → count ≡ n
capped_same n count low same = omega arith

capped_other : (n count : ℕ) → n ≤ most_cost * most_directives → (capped count ≡ n → ⊥) → count ≡ n → ⊥
capped_other n count low other same = other (omega arith)

---- the verdict

module _ (layout : Layout) (g : Graph) (fixed : Fixed) (cost : Costs) (c : Certificate) where
  -- reasons before one, each ruled out if it is
  earlier : (n : ℕ) → (1 < n → ¬ Fails layout g fixed cost c NotEditable) → (2 < n → ¬ Fails layout g fixed cost c Repeated) → (3 < n → ¬ Fails layout g fixed cost c StillReached)
      → (4 < n → ¬ Fails layout g fixed cost c NotAChain) → (5 < n → ¬ Fails layout g fixed cost c Shared) → (6 < n → ¬ Fails layout g fixed cost c Counts)
      → (s : Reason) → reason_number s < n → ¬ Fails layout g fixed cost c s
  earlier n a b d e f h NotEditable low = a low
  earlier n a b d e f h Repeated low = b low
  earlier n a b d e f h StillReached low = d low
  earlier n a b d e f h NotAChain low = e low
  earlier n a b d e f h Shared low = f low
  earlier n a b d e f h Counts low = h low

  pub no_editable : list_all (is_marked_editable layout g fixed) c.cut ≡ false → IsVerdict layout g fixed cost c (No NotEditable)
  no_editable fails = (
    not_from_false (list_all (is_marked_editable layout g fixed) c.cut) fails,
    earlier 1 (λ low. absurd (omega arith)) (λ low. absurd (omega arith)) (λ low. absurd (omega arith)) (λ low. absurd (omega arith)) (λ low. absurd (omega arith)) (λ low. absurd (omega arith)),
  )

  -- the cut is named, and none of its edges is fixed
  pub record IsEditableCut (cut : List ℕ) : Type 0 where
    pub named : AreNamed layout g c.cut cut
    pub free : list_any fixed cut ≡ false

  not_editable : (cut : List ℕ) → IsEditableCut cut → ¬ Fails layout g fixed cost c NotEditable
  not_editable cut e =
      let is = editable_is layout g fixed c.cut e.named.all ∙ ap (λ (es : List ℕ). not (list_any fixed es)) (sym e.named.are) ∙ ap not e.free in
      never (list_all (is_marked_editable layout g fixed) c.cut) is

  pub mark_repeated : (cut : List ℕ) → IsEditableCut cut → is_distinct cut ≡ false → IsVerdict layout g fixed cost c (No Repeated)
  mark_repeated cut e twice =
      let fails : are_different c.cut ≡ false = false_from_ne_true (are_different c.cut) (λ d. true≢false (sym (once layout g c.cut d) ∙ ap is_distinct (sym e.named.are) ∙ twice)) in (
        not_from_false (are_different c.cut) fails,
        earlier 2 (λ low. not_editable cut e) (λ low. absurd (omega arith)) (λ low. absurd (omega arith)) (λ low. absurd (omega arith)) (λ low. absurd (omega arith)) (λ low. absurd (omega arith)),
      )

  not_repeated : (cut : List ℕ) → IsEditableCut cut → is_distinct cut ≡ true → ¬ Fails layout g fixed cost c Repeated
  not_repeated cut e distinct = never (are_different c.cut) (different layout g c.cut e.named.all (ap is_distinct (sym e.named.are) ∙ distinct))

  -- and none of them is twice
  pub record IsCutSet (cut : List ℕ) (flags : List Bool) : Type 0 where
    pub editable : IsEditableCut cut
    pub set : IsSetOf (length g.edges) cut flags

  pub header_reached : (cut : List ℕ) (flags : List Bool) → IsCutSet cut flags → IsHeaderPast g flags → IsVerdict layout g fixed cost c (No StillReached)
  header_reached cut flags s past =
      let chain = chain_past g cut flags s.set past in (
        (chain.0, chain.1, ap (λ (es : List ℕ). not (meets chain.0 es)) (sym s.editable.named.are) ∙ chain.2),
        earlier 3 (λ low. not_editable cut s.editable) (λ low. not_repeated cut s.editable s.set.once) (λ low. absurd (omega arith)) (λ low. absurd (omega arith)) (λ low. absurd (omega arith)) (λ low. absurd (omega arith)),
      )

  -- and each chain meets it
  pub record IsGoodCut (cut : List ℕ) (flags : List Bool) : Type 0 where
    pub cuts : IsCutSet cut flags
    pub met : IsSetMet g flags

  pub good_cut : (cut : List ℕ) (slice flags : List Bool) → slice ≡ flags → IsCutSet cut flags → IsSetMet g slice → IsGoodCut cut flags
  good_cut cut slice flags is s met = record { cuts = s; met = subst (λ (fs : List Bool). IsSetMet g fs) is met }

  not_reached : (cut : List ℕ) (flags : List Bool) → IsGoodCut cut flags → ¬ Fails layout g fixed cost c StillReached
  not_reached cut flags s f =
      never (meets f.0 (edge_numbers layout g c.cut)) (ap (meets f.0) (sym s.cuts.editable.named.are) ∙ chains_meet g cut flags s.cuts.set s.met f.0 f.1) f.2

  pub no_chain : (cut : List ℕ) (flags : List Bool) → IsGoodCut cut flags → list_all (is_counted_chain layout g) c.chains ≡ false → IsVerdict layout g fixed cost c (No NotAChain)
  no_chain cut flags s none = (
    not_from_false (list_all (is_counted_chain layout g) c.chains) none,
    earlier 4 (λ low. not_editable cut s.cuts.editable) (λ low. not_repeated cut s.cuts.editable s.cuts.set.once) (λ low. not_reached cut flags s) (λ low. absurd (omega arith)) (λ low. absurd (omega arith)) (λ low. absurd (omega arith)),
  )

  pub cost_exceeded : (cut : List ℕ) (flags : List Bool) (through : List ℕ) (total : ℕ) → IsGoodCut cut flags → AreSums layout g c.chains through total
      → (i : ℕ) × (is_editable g fixed i ≡ true) × (cost i < slice_index through i) → IsVerdict layout g fixed cost c (No Shared)
  cost_exceeded cut flags through total s sums over =
      let i : ℕ = over.0 in
      let low = ltb-true i (length g.edges) (and_parts (nat_lt i (length g.edges)) (not (fixed i)) over.1).0 in
      let sum = sums.each i low in
      let more : cost i < capped (count_through i (chains_of layout g c.chains)) = let o = over.2 in omega arith in (
        (i, over.1, capped_over (cost i) (count_through i (chains_of layout g c.chains)) more),
        earlier 5 (λ low'. not_editable cut s.cuts.editable) (λ low'. not_repeated cut s.cuts.editable s.cuts.set.once) (λ low'. not_reached cut flags s) (λ low'. never (list_all (is_counted_chain layout g) c.chains) sums.counted)
            (λ low'. absurd (omega arith)) (λ low'. absurd (omega arith)),
      )

  not_shared : (through : List ℕ) (total : ℕ) → AreSums layout g c.chains through total → ((i : ℕ) → cost i ≤ most_cost) → ((i : ℕ) → is_editable g fixed i ≡ true → slice_index through i ≤ cost i)
      → ¬ Fails layout g fixed cost c Shared
  not_shared through total sums few within f =
      let i : ℕ = f.0 in
      let low = ltb-true i (length g.edges) (and_parts (nat_lt i (length g.edges)) (not (fixed i)) f.1).0 in
      let sum = sums.each i low in
      let most = within i f.1 in
      let less : capped (count_through i (chains_of layout g c.chains)) ≤ cost i = omega arith in
      let all = capped_within (cost i) (count_through i (chains_of layout g c.chains)) (few i) less in
      let over = f.2 in
      omega arith

  -- the chains are counted, and fit into the costs
  pub record IsShown (cut : List ℕ) (flags : List Bool) (through : List ℕ) (total : ℕ) : Type 0 where
    pub good : IsGoodCut cut flags
    pub sums : AreSums layout g c.chains through total
    pub few : (i : ℕ) → cost i ≤ most_cost
    pub within : (i : ℕ) → is_editable g fixed i ≡ true → slice_index through i ≤ cost i

  pub counts_differ : (cut : List ℕ) (flags : List Bool) (through : List ℕ) (total : ℕ) → IsShown cut flags through total → total_cost cost cut ≤ most_cost * most_directives
      → (total ≡ total_cost cost cut → ⊥) → IsVerdict layout g fixed cost c (No Counts)
  counts_differ cut flags through total s low other =
      let count : ℕ = total_count (chains_of layout g c.chains) in
      let apart : count ≡ total_cost cost cut → ⊥ = capped_other (total_cost cost cut) count low (λ same. other (s.sums.all ∙ same)) in (
        not_from_false (count == total_cost cost (edge_numbers layout g c.cut)) (ne_eqb count (total_cost cost (edge_numbers layout g c.cut)) (λ same. apart (same ∙ ap (total_cost cost) (sym s.good.cuts.editable.named.are)))),
        earlier 6 (λ low'. not_editable cut s.good.cuts.editable) (λ low'. not_repeated cut s.good.cuts.editable s.good.cuts.set.once) (λ low'. not_reached cut flags s.good)
            (λ low'. never (list_all (is_counted_chain layout g) c.chains) s.sums.counted) (λ low'. not_shared through total s.sums s.few s.within) (λ low'. absurd (omega arith)),
      )

  pub all_shown : (cut : List ℕ) (flags : List Bool) (through : List ℕ) (total : ℕ) → IsShown cut flags through total → total_cost cost cut ≤ most_cost * most_directives
      → total ≡ total_cost cost cut → IsVerdict layout g fixed cost c Yes
  all_shown cut flags through total s low same r =
      let count : ℕ = total_count (chains_of layout g c.chains) in
      let is : count ≡ total_cost cost cut = capped_same (total_cost cost cut) count low (sym s.sums.all ∙ same) in
      earlier (suc (reason_number r)) (λ low'. not_editable cut s.good.cuts.editable) (λ low'. not_repeated cut s.good.cuts.editable s.good.cuts.set.once) (λ low'. not_reached cut flags s.good)
      (λ low'. never (list_all (is_counted_chain layout g) c.chains) s.sums.counted) (λ low'. not_shared through total s.sums s.few s.within)
      (λ low'. never (count == total_cost cost (edge_numbers layout g c.cut)) (eq-eqb count (total_cost cost (edge_numbers layout g c.cut)) (is ∙ ap (total_cost cost) s.good.cuts.editable.named.are))) r (omega arith)
