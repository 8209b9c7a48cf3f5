-- Chains that are summed mark by mark: each mark leads the chain on, or no marks that follow make it one that is counted.
use Rattle.std.proofs.Common.{◌≡◌, ℕ, ◌+◌, ◌<◌, Bool, true, false, List, [], ◌∷◌, ◌++◌, ◌||◌, Option, Some, None, length, get_or, set, refl, sym, ap, subst, ◌∙◌, inl, inr, arith, get_or-set_other, length-set}
use Rattle.std.specs.Prelude.{◌==◌, ◌&&◌, not, slice_index, if◌then◌else◌, MatchBool}
use Rattle.std.specs.List.{All, list_all}
use Rattle.std.proofs.lemmas.Bool.{cases_eq, or_cases, cond-true, cond-false, eq-eqb, eqb-true, eqb-false, ne_eqb, true≢false, false_from_ne_true}
use Rattle.std.proofs.lemmas.Option.{same_Some}
use Rattle.std.proofs.lemmas.List.{append-nil, append_assoc}
use Rattle.std.proofs.lemmas.List.Folds.{list_all-append}
use Rattle.std.proofs.lemmas.List.Elements.{filter_map-append}
use Rattle.inc_lookup.specs.Projects.{Layout}
use Rattle.inc_graph.specs.declared.graphs.Edge as declared
use Rattle.inc_graph.specs.IncludeGraph.{Graph}
use Rattle.inc_graph.specs.Chains.{target, leaves, is_chain}
use Rattle.inc_graph.specs.Members.{is_member}
use Rattle.inc_graph.specs.Marks.{Mark}
use Rattle.inc_graph.specs.MarkedEdges.{edge_number}
use Rattle.inc_graph.specs.Near.{IsNamedFrom, IsNamedElsewhere}
use Rattle.inc_graph.proofs.NamedEdges.{number_within}
use Rattle.inc_check.specs.declared.certificates.CountedMarks.{CountedMarks}
use Rattle.inc_check.specs.declared.checking.chain_sums.ChainSums.{ChainSums}
use Rattle.inc_check.specs.Certificates.{edge_numbers, is_counted_chain}
use Rattle.inc_check.specs.Checking.{capped, is_named, AreSums, goes_on, IsTaken, IsUnbegun, IsTakenBy, IsAdded, IsOnWay, IsLost, IsSumming, IsSummed, IsFitted, IsBegunAt, IsReadyFor, IsNamedNowhere, IsStepped}
use Rattle.inc_check.proofs.ChainLemmas.{chain_first, no_chain_first, is_stamped, stamped_set, step_is, leaves_is, target_is, IsEdgeAt}
use Rattle.inc_check.proofs.NamingLemmas.{none_named, named_push, unnamed_push, unnamed_more}
use Rattle.inc_check.proofs.SetLemmas.{member_other}
use Rattle.inc_check.proofs.SumLemmas.{added_none, added_push, sums_push, counts_none, counts_unnamed, counts_no_chain, counts_chain}
use Rattle.inc_check.proofs.VerdictLemmas.{numbers_cons}

---- a chain, edge by edge

or_last : (b : Bool) → (b || true) ≡ true
or_last true = refl
or_last false = refl

and_false : (b : Bool) → (b && false) ≡ false
and_false true = refl
and_false false = refl

-- the first edge, from a source that alone has the stamp
pub taken_first : (g : Graph) (old : List ℕ) (stamp at : ℕ) (e : declared.Edge) → is_member at g.sources ≡ true → at < g.files → length old ≡ g.files → All (λ s. s < stamp) old
    → IsEdgeAt g e.id e → e.to < g.files → e.from ≡ at → (slice_index (set old at stamp) e.to ≡ stamp → ⊥)
    → IsTaken g (set (set old at stamp) e.to stamp) stamp e.to (e.id ∷ [])
taken_first g old stamp at e among source long fresh edge within here apart =
    let mid : List ℕ = set old at stamp in
    let mid_long : length mid ≡ g.files = length-set old at stamp ∙ long in
    let first : (f : ℕ) → f < g.files → is_stamped mid stamp f ≡ is_member f (at ∷ []) = source_stamped g old stamp at source long fresh in
    let to : target g e.id ≡ e.to = target_is g e.id e edge in
    let fresh_to : is_member e.to (at ∷ []) ≡ false = sym (first e.to within) ∙ ne_eqb (slice_index mid e.to) stamp apart in
    let from : leaves g at e.id ≡ true = leaves_is g e.id at e edge ∙ eq-eqb e.from at here in
    record {
      seen = e.to ∷ at ∷ [];
      are = λ f below. stamped_set mid stamp e.to f (at ∷ []) (omega (arith, mid_long)) (first f below);
      met = λ k met. elim (or_cases (e.id == k) false met) [
        | inl same ↦ ap (λ b. b || is_member (target g k) (at ∷ [])) (eq-eqb e.to (target g k) (sym to ∙ ap (target g) (eqb-true e.id k same)))
        | inr none ↦ absurd (true≢false (sym none))
      ];
      stays = λ rest.
          sym (ap (λ b. b && (not (is_member e.to (at ∷ [])) && goes_on g (e.to ∷ at ∷ []) e.to rest)) (eq-eqb e.from at here) ∙ ap (λ b. not b && goes_on g (e.to ∷ at ∷ []) e.to rest) fresh_to)
          ∙ sym (step_is g (at ∷ []) at e.id e rest edge) ∙ sym (chain_first g at e.id rest among from);
    }
  where
    source_stamped : (g : Graph) (old : List ℕ) (stamp at : ℕ) → at < g.files → length old ≡ g.files → All (λ s. s < stamp) old → (f : ℕ) → f < g.files → is_stamped (set old at stamp) stamp f ≡ is_member f (at ∷ [])
    source_stamped g old stamp at source long fresh f within =
        let here : f < length old = omega (arith, long) in
        let other : get_or old f 0 ≡ stamp → ⊥ = λ q. let low = fresh f 0 here in omega arith in
        stamped_set old stamp at f [] (omega (arith, long)) (ne_eqb (get_or old f 0) stamp other)

-- the first edge leads back to its source
first_back : (g : Graph) (old : List ℕ) (stamp at : ℕ) (e : declared.Edge) → is_member at g.sources ≡ true → at < g.files → length old ≡ g.files → All (λ s. s < stamp) old
    → IsEdgeAt g e.id e → e.to < g.files → e.from ≡ at → slice_index (set old at stamp) e.to ≡ stamp → (rest : List ℕ) → is_chain g (e.id ∷ rest) ≡ false
first_back g old stamp at e among source long fresh edge within here visited rest =
    let low : e.to < length old = omega (arith, long) in
    let met : is_member e.to (at ∷ []) ≡ true = elim (cases_eq e.to at) [
      | inl same ↦ ap (λ b. b || false) (eq-eqb at e.to (sym same))
      | inr other ↦ let x = fresh e.to 0 low in let y = get_or-set_other old at e.to stamp 0 other in absurd (omega arith)
    ] in
    chain_first g at e.id rest among (leaves_is g e.id at e edge ∙ eq-eqb e.from at here) ∙ step_is g (at ∷ []) at e.id e rest edge
    ∙ ap (λ b. (e.from == at) && (not b && goes_on g (e.to ∷ at ∷ []) e.to rest)) met ∙ and_false (e.from == at)

-- the edge is not among those that were taken, since it leads to a file that was not visited
taken_fresh : (g : Graph) (old : List ℕ) (stamp at : ℕ) (e : declared.Edge) (edges : List ℕ) → IsEdgeAt g e.id e → e.to < g.files → (slice_index old e.to ≡ stamp → ⊥) → IsTaken g old stamp at edges
    → is_member e.id edges ≡ false
taken_fresh g old stamp at e edges edge within fresh so_far =
    false_from_ne_true (is_member e.id edges) (λ met. fresh (eqb-true (slice_index old e.to) stamp
    (so_far.are e.to within ∙ ap (λ (t : ℕ). is_member t so_far.seen) (sym (target_is g e.id e edge)) ∙ so_far.met e.id met)))

-- one more edge
pub taken_more : (g : Graph) (old : List ℕ) (stamp at : ℕ) (e : declared.Edge) (edges : List ℕ) → length old ≡ g.files → IsEdgeAt g e.id e → e.to < g.files → e.from ≡ at
    → (slice_index old e.to ≡ stamp → ⊥) → IsTaken g old stamp at edges → IsTaken g (set old e.to stamp) stamp e.to (edges ++ e.id ∷ [])
taken_more g old stamp at e edges long edge within here fresh so_far =
    let inside : e.to < length old = omega (arith, long) in
    let apart' : is_member e.to so_far.seen ≡ false = sym (so_far.are e.to within) ∙ ne_eqb (slice_index old e.to) stamp fresh in
    let to : target g e.id ≡ e.to = target_is g e.id e edge in
    record {
      seen = e.to ∷ so_far.seen;
      are = λ f below. stamped_set old stamp e.to f so_far.seen inside (so_far.are f below);
      met = λ k met. elim (cases_eq k e.id) [
        | inl same ↦ ap (λ b. b || is_member (target g k) so_far.seen) (eq-eqb e.to (target g k) (sym (ap (target g) same ∙ to)))
        | inr apart ↦
            ap (λ b. (e.to == target g k) || b) (so_far.met k (sym (member_other k edges e.id (λ q. apart (sym q))) ∙ met)) ∙ or_last (e.to == target g k)
      ];
      stays = λ rest.
          sym (ap (λ b. b && (not (is_member e.to so_far.seen) && goes_on g (e.to ∷ so_far.seen) e.to rest)) (eq-eqb e.from at here) ∙ ap (λ b. not b && goes_on g (e.to ∷ so_far.seen) e.to rest) apart')
          ∙ sym (step_is g so_far.seen at e.id e rest edge) ∙ so_far.stays (e.id ∷ rest) ∙ ap (is_chain g) (sym (append_assoc edges (e.id ∷ []) rest));
    }

-- an edge that leaves another file
taken_apart : (g : Graph) (stamps : List ℕ) (stamp at i : ℕ) (edges : List ℕ) → leaves g at i ≡ false → IsTaken g stamps stamp at edges → (rest : List ℕ) → is_chain g (edges ++ i ∷ rest) ≡ false
taken_apart g stamps stamp at i edges none so_far rest =
    sym (so_far.stays (i ∷ rest)) ∙ ap (λ b. b && (not (is_member (target g i) so_far.seen) && goes_on g (target g i ∷ so_far.seen) (target g i) rest)) none

-- an edge that leads back
taken_back : (g : Graph) (stamps : List ℕ) (stamp at : ℕ) (e : declared.Edge) (edges : List ℕ) → IsEdgeAt g e.id e → e.to < g.files → slice_index stamps e.to ≡ stamp → IsTaken g stamps stamp at edges
    → (rest : List ℕ) → is_chain g (edges ++ e.id ∷ rest) ≡ false
taken_back g stamps stamp at e edges edge within visited so_far rest =
    let met : is_member e.to so_far.seen ≡ true = sym (so_far.are e.to within) ∙ eq-eqb (slice_index stamps e.to) stamp visited in
    sym (so_far.stays (e.id ∷ rest)) ∙ step_is g so_far.seen at e.id e rest edge
    ∙ ap (λ b. (e.from == at) && (not b && goes_on g (e.to ∷ so_far.seen) e.to rest)) met ∙ and_false (e.from == at)

---- what a test says

pub at_good : (b : Bool) (P Q : Type 0) → b ≡ true → MatchBool b P Q → P
at_good b P Q is h = subst (λ (x : Bool). MatchBool x P Q) is h

pub at_bad : (b : Bool) (P Q : Type 0) → b ≡ false → MatchBool b P Q → Q
at_bad b P Q is h = subst (λ (x : Bool). MatchBool x P Q) is h

at_begun : (g : Graph) (t : ChainSums) (edges : List ℕ) → t.begun ≡ true → IsTakenBy g t edges → IsTaken g t.stamps.items t.stamp t.at edges
at_begun g t edges is h = at_good t.begun (IsTaken g t.stamps.items t.stamp t.at edges) (IsUnbegun t edges) is h

at_unbegun : (g : Graph) (t : ChainSums) (edges : List ℕ) → t.begun ≡ false → IsTakenBy g t edges → IsUnbegun t edges
at_unbegun g t edges is h = at_bad t.begun (IsTaken g t.stamps.items t.stamp t.at edges) (IsUnbegun t edges) is h

as_begun : (g : Graph) (t : ChainSums) (edges : List ℕ) → t.begun ≡ true → IsTaken g t.stamps.items t.stamp t.at edges → IsTakenBy g t edges
as_begun g t edges is h = subst (λ (b : Bool). MatchBool b (IsTaken g t.stamps.items t.stamp t.at edges) (IsUnbegun t edges)) (sym is) h

as_unbegun : (g : Graph) (t : ChainSums) (edges : List ℕ) → t.begun ≡ false → IsUnbegun t edges → IsTakenBy g t edges
as_unbegun g t edges is h = subst (λ (b : Bool). MatchBool b (IsTaken g t.stamps.items t.stamp t.at edges) (IsUnbegun t edges)) (sym is) h

---- chains that are not all counted

module _ (layout : Layout) (g : Graph) where
  -- one that is not, behind others
  last_lost : (chains : List CountedMarks) (k : CountedMarks) → is_counted_chain layout g k ≡ false → list_all (is_counted_chain layout g) (chains ++ k ∷ []) ≡ false
  last_lost chains k none =
      list_all-append (is_counted_chain layout g) chains (k ∷ []) ∙ ap (λ b. list_all (is_counted_chain layout g) chains && (b && true)) none
      ∙ and_false (list_all (is_counted_chain layout g) chains)

  -- one before others
  pub first_lost : (chains : List CountedMarks) (k : CountedMarks) → list_all (is_counted_chain layout g) chains ≡ false → list_all (is_counted_chain layout g) (chains ++ k ∷ []) ≡ false
  first_lost chains k none = list_all-append (is_counted_chain layout g) chains (k ∷ []) ∙ ap (λ b. b && list_all (is_counted_chain layout g) (k ∷ [])) none

  lost_more : (chains : List CountedMarks) (count : ℕ) (marks : List Mark) (m : Mark) → IsLost layout g chains count marks → IsLost layout g chains count (marks ++ m ∷ [])
  lost_more chains count marks m lost more =
      ap (λ (ms : List Mark). list_all (is_counted_chain layout g) (chains ++ record { count = count; marks = ms } ∷ [])) (append_assoc marks (m ∷ []) more) ∙ lost (m ∷ more)

  no_chain_counts : (k : CountedMarks) (edges : List ℕ) → edge_numbers layout g k.marks ≡ edges → is_chain g edges ≡ false → is_counted_chain layout g k ≡ false
  no_chain_counts k edges are none =
      ap (λ b. (list_all (is_named layout g) k.marks && b) && not (k.count == 0)) (ap (is_chain g) are ∙ none)
      ∙ ap (λ b. b && not (k.count == 0)) (and_false (list_all (is_named layout g) k.marks))

  -- the chain is lost by this mark
  lost_by : (chains : List CountedMarks) (count : ℕ) (marks : List Mark) (m : Mark) (edges : List ℕ) → edges ≡ edge_numbers layout g marks
      → ((i : ℕ) → edge_number layout g m ≡ Some i → (rest : List ℕ) → is_chain g (edges ++ i ∷ rest) ≡ false) → IsLost layout g chains count (marks ++ m ∷ [])
  lost_by chains count marks m edges are ends more = last_lost chains (record { count = count; marks = (marks ++ m ∷ []) ++ more }) (by_number (edge_number layout g m) refl)
    where
      by_number : (o : Option ℕ) → edge_number layout g m ≡ o → is_counted_chain layout g (record { count = count; marks = (marks ++ m ∷ []) ++ more }) ≡ false
      by_number None is = counts_unnamed layout g (record { count = count; marks = (marks ++ m ∷ []) ++ more }) (unnamed_more layout g (marks ++ m ∷ []) more (unnamed_push layout g marks m is))
      by_number (Some i) is =
          no_chain_counts (record { count = count; marks = (marks ++ m ∷ []) ++ more }) (edges ++ i ∷ edge_numbers layout g more)
          (filter_map-append (edge_number layout g) (marks ++ m ∷ []) more
          ∙ ap (λ (es : List ℕ). es ++ edge_numbers layout g more) (filter_map-append (edge_number layout g) marks (m ∷ []) ∙ ap (λ (es : List ℕ). edge_numbers layout g marks ++ es) (numbers_cons layout g m [] (Some i) is))
          ∙ ap (λ (es : List ℕ). (es ++ i ∷ []) ++ edge_numbers layout g more) (sym are) ∙ append_assoc edges (i ∷ []) (edge_numbers layout g more))
          (ends i is (edge_numbers layout g more))

  ---- the walk's steps

  -- a mark of an edge that leads on, where the chain with it is taken
  way_taken : (chains : List CountedMarks) (count : ℕ) (marks : List Mark) (m : Mark) (e : declared.Edge) (at : ℕ) (old mid new : ChainSums) → IsFitted g mid → IsNamedFrom layout g at m e
      → IsStepped mid new e count → mid.through ≡ old.through → mid.total ≡ old.total → new.begun ≡ true → (way : IsOnWay layout g chains count marks old) → is_member e.id way.edges ≡ false
      → IsTaken g (set mid.stamps.items e.to mid.stamp) mid.stamp e.to (way.edges ++ e.id ∷ []) → IsOnWay layout g chains count (marks ++ m ∷ []) new
  way_taken chains count marks m e at old mid new fitted from stepped through total begun way once taken =
      let added : IsAdded way.before count way.edges mid.through = subst (λ (ns : List ℕ). IsAdded way.before count way.edges ns) (sym through) way.added in
      let low : e.id < length way.before = omega (arith, added.long, fitted.through, number_within layout g m e.id from.number) in
      record {
        before = way.before;
        edges = way.edges ++ e.id ∷ [];
        sums = subst (λ (n : ℕ). AreSums layout g chains way.before n) (sym (stepped.total ∙ total)) way.sums;
        some = way.some;
        named = named_push layout g marks m e.id way.edges from.number way.named;
        taken = as_begun g new (way.edges ++ e.id ∷ []) begun
            (subst (λ (ss : List ℕ). IsTaken g ss new.stamp new.at (way.edges ++ e.id ∷ [])) (sym stepped.stamps)
            (subst (λ (n : ℕ). IsTaken g (set mid.stamps.items e.to mid.stamp) n new.at (way.edges ++ e.id ∷ [])) (sym stepped.stamp)
            (subst (λ (n : ℕ). IsTaken g (set mid.stamps.items e.to mid.stamp) mid.stamp n (way.edges ++ e.id ∷ [])) (sym stepped.at) taken)));
        added = subst (λ (ns : List ℕ). IsAdded way.before count (way.edges ++ e.id ∷ []) ns) (sym stepped.through)
            (added_push way.before mid.through count way.edges e.id once low added);
      }

  -- one that goes on
  way_on : (chains : List CountedMarks) (count : ℕ) (marks : List Mark) (m : Mark) (e : declared.Edge) (old new : ChainSums) → old.begun ≡ true → IsFitted g old → IsNamedFrom layout g old.at m e
      → IsStepped old new e count → (slice_index old.stamps.items e.to ≡ old.stamp → ⊥) → IsOnWay layout g chains count marks old → IsOnWay layout g chains count (marks ++ m ∷ []) new
  way_on chains count marks m e old new begun fitted from stepped fresh way =
      let edge : IsEdgeAt g e.id e = record { at = from.at } in
      let so_far = at_begun g old way.edges begun way.taken in
      way_taken chains count marks m e old.at old old new fitted from stepped refl refl (stepped.begun ∙ begun) way
      (taken_fresh g old.stamps.items old.stamp old.at e way.edges edge from.to fresh so_far)
      (taken_more g old.stamps.items old.stamp old.at e way.edges fitted.stamps edge from.to from.from fresh so_far)

  -- the first one
  way_first : (chains : List CountedMarks) (count : ℕ) (marks : List Mark) (m : Mark) (e : declared.Edge) (old mid new : ChainSums) → IsBegunAt g old mid → IsFitted g old → IsFitted g mid → IsNamedFrom layout g mid.at m e
      → IsStepped mid new e count → (slice_index mid.stamps.items e.to ≡ mid.stamp → ⊥) → IsOnWay layout g chains count marks old → IsOnWay layout g chains count (marks ++ m ∷ []) new
  way_first chains count marks m e old mid new b fitted mid_fitted from stepped fresh way =
      let u = at_unbegun g old way.edges b.first way.taken in
      let stamp : mid.stamp ≡ old.stamp = ap (λ (t : ChainSums). t.stamp) b.is in
      let stamps : mid.stamps.items ≡ set old.stamps.items mid.at old.stamp = b.stamps in
      let none : is_member e.id way.edges ≡ false = ap (is_member e.id) u.none in
      let apart : slice_index (set old.stamps.items mid.at old.stamp) e.to ≡ old.stamp → ⊥ = λ q. fresh (ap (λ (ss : List ℕ). slice_index ss e.to) stamps ∙ q ∙ sym stamp) in
      let taken = taken_first g old.stamps.items old.stamp mid.at e b.among mid_fitted.at fitted.stamps u.fresh (record { at = from.at }) from.to from.from apart in
      way_taken chains count marks m e mid.at old mid new mid_fitted from stepped (ap (λ (t : ChainSums). t.through) b.is) (ap (λ (t : ChainSums). t.total) b.is)
      (stepped.begun ∙ ap (λ (t : ChainSums). t.begun) b.is) way none
      (subst (λ (es : List ℕ). IsTaken g (set mid.stamps.items e.to mid.stamp) mid.stamp e.to (es ++ e.id ∷ [])) (sym u.none)
      (subst (λ (ss : List ℕ). IsTaken g (set ss e.to mid.stamp) mid.stamp e.to (e.id ∷ [])) (sym stamps)
      (subst (λ (n : ℕ). IsTaken g (set (set old.stamps.items mid.at old.stamp) e.to n) n e.to (e.id ∷ [])) (sym stamp) taken)))

  -- a mark of an edge that leads back
  way_back : (chains : List CountedMarks) (count : ℕ) (marks : List Mark) (m : Mark) (e : declared.Edge) (old : ChainSums) → old.begun ≡ true → IsNamedFrom layout g old.at m e
      → slice_index old.stamps.items e.to ≡ old.stamp → IsOnWay layout g chains count marks old → IsLost layout g chains count (marks ++ m ∷ [])
  way_back chains count marks m e old begun from visited way =
      lost_by chains count marks m way.edges way.named.are (λ i is rest.
      let same : e.id ≡ i = same_Some e.id i (sym from.number ∙ is) in
      ap (λ (k : ℕ). is_chain g (way.edges ++ k ∷ rest)) (sym same)
      ∙ taken_back g old.stamps.items old.stamp old.at e way.edges (record { at = from.at }) from.to visited (at_begun g old way.edges begun way.taken) rest)

  -- which is the first
  way_first_back : (chains : List CountedMarks) (count : ℕ) (marks : List Mark) (m : Mark) (e : declared.Edge) (old mid : ChainSums) → IsBegunAt g old mid → IsFitted g old → IsFitted g mid → IsNamedFrom layout g mid.at m e
      → slice_index mid.stamps.items e.to ≡ mid.stamp → IsOnWay layout g chains count marks old → IsLost layout g chains count (marks ++ m ∷ [])
  way_first_back chains count marks m e old mid b fitted mid_fitted from visited way =
      let u = at_unbegun g old way.edges b.first way.taken in
      let stamp : mid.stamp ≡ old.stamp = ap (λ (t : ChainSums). t.stamp) b.is in
      let there : slice_index (set old.stamps.items mid.at old.stamp) e.to ≡ old.stamp = ap (λ (ss : List ℕ). slice_index ss e.to) (sym b.stamps) ∙ visited ∙ stamp in
      lost_by chains count marks m way.edges way.named.are (λ i is rest.
      let same : e.id ≡ i = same_Some e.id i (sym from.number ∙ is) in
      ap (λ (es : List ℕ). is_chain g (es ++ i ∷ rest)) u.none ∙ ap (λ (k : ℕ). is_chain g (k ∷ rest)) (sym same)
      ∙ first_back g old.stamps.items old.stamp mid.at e b.among mid_fitted.at fitted.stamps u.fresh (record { at = from.at }) from.to from.from there rest)

  -- a mark that names no edge from which the chain can go on
  way_off : (chains : List CountedMarks) (count : ℕ) (marks : List Mark) (m : Mark) (old : ChainSums) → IsNamedNowhere layout g old m → IsOnWay layout g chains count marks old
      → IsLost layout g chains count (marks ++ m ∷ [])
  way_off chains count marks m old nowhere way = by_begun old.begun refl
    where
      by_begun : (b : Bool) → old.begun ≡ b → IsLost layout g chains count (marks ++ m ∷ [])
      by_begun true is = lost_by chains count marks m way.edges way.named.are (λ i number rest.
          taken_apart g old.stamps.items old.stamp old.at i way.edges (at_good old.begun (IsNamedElsewhere layout g old.at m) _ is nowhere i number) (at_begun g old way.edges is way.taken) rest)
      by_begun false is = lost_by chains count marks m way.edges way.named.are (λ i number rest.
          ap (λ (es : List ℕ). is_chain g (es ++ i ∷ rest)) (at_unbegun g old way.edges is way.taken).none
          ∙ no_chain_first g i rest (λ s among. at_bad old.begun (IsNamedElsewhere layout g old.at m) ((s2 : ℕ) → is_member s2 g.sources ≡ true → IsNamedElsewhere layout g s2 m) is nowhere s among i number))

  ---- a chain begins and ends

  begun_by : (b z n : Bool) → n ≡ (b && not z) → (P Q A L : Type 0) → (z ≡ false → P → A) → (Q → L) → (z ≡ true → L) → MatchBool b P Q → MatchBool n A L
  begun_by true false n is P Q A L one two three h = subst (λ b. MatchBool b A L) (sym is) (one refl h)
  begun_by true true n is P Q A L one two three h = subst (λ b. MatchBool b A L) (sym is) (three refl)
  begun_by false z n is P Q A L one two three h = subst (λ b. MatchBool b A L) (sym is) (two h)

  pub begun : (chains : List CountedMarks) (count : ℕ) (old new : ChainSums) → IsFitted g old → new.stamp ≡ old.stamp + 1 → new.stamps.items ≡ old.stamps.items → new.begun ≡ false
      → new.through ≡ old.through → new.total ≡ old.total → new.good ≡ (old.good && not (count == 0)) → IsSummed layout g chains old → IsSumming layout g chains count [] new
  begun chains count old new fitted stamp stamps first through total good so_far =
      begun_by old.good (count == 0) new.good good (AreSums layout g chains old.through old.total) (list_all (is_counted_chain layout g) chains ≡ false)
      (IsOnWay layout g chains count [] new) (IsLost layout g chains count [])
      (λ some sums. record {
        before = old.through;
        edges = [];
        sums = subst (λ (n : ℕ). AreSums layout g chains old.through n) (sym total) sums;
        some = eqb-false count 0 some;
        named = none_named layout g;
        taken = as_unbegun g new [] first (record {
          none = refl;
          fresh = subst (λ (ss : List ℕ). All (λ s. s < new.stamp) ss) (sym stamps) (λ k d low. let l = fitted.low k d low in omega (arith, l, stamp));
        });
        added = subst (λ (ns : List ℕ). IsAdded old.through count [] ns) (sym through) (added_none old.through count);
      })
      (λ lost more. first_lost chains (record { count = count; marks = [] ++ more }) lost)
      (λ none more. last_lost chains (record { count = count; marks = [] ++ more }) (counts_none layout g (record { count = count; marks = [] ++ more }) (eqb-true count 0 none))) so_far

  ended_by : (b z n : Bool) → n ≡ (b && z) → (P Q A L : Type 0) → (z ≡ true → P → A) → (z ≡ false → P → L) → (Q → L) → MatchBool b P Q → MatchBool n A L
  ended_by true true n is P Q A L one two three h = subst (λ b. MatchBool b A L) (sym is) (one refl h)
  ended_by true false n is P Q A L one two three h = subst (λ b. MatchBool b A L) (sym is) (two refl h)
  ended_by false z n is P Q A L one two three h = subst (λ b. MatchBool b A L) (sym is) (three h)

  -- where the chain has led to a header, or is empty and that is one of the graph
  abbrev pub ends_here : ChainSums → Bool
  ends_here t = if t.begun then is_member t.at g.headers else t.empty

  chain_is : (chains : List CountedMarks) (count : ℕ) (marks : List Mark) (t : ChainSums) (b : Bool) → IsFitted g t → ends_here t ≡ b → (way : IsOnWay layout g chains count marks t) → is_chain g way.edges ≡ b
  chain_is chains count marks t b fitted is way = by_begun t.begun refl
    where
      by_begun : (c : Bool) → t.begun ≡ c → is_chain g way.edges ≡ b
      by_begun true begun =
          ap (is_chain g) (sym (append-nil way.edges)) ∙ sym ((at_begun g t way.edges begun way.taken).stays [])
          ∙ sym (cond-true t.begun (is_member t.at g.headers) t.empty begun) ∙ is
      by_begun false begun =
          ap (is_chain g) (at_unbegun g t way.edges begun way.taken).none ∙ sym fitted.empty ∙ sym (cond-false t.begun (is_member t.at g.headers) t.empty begun) ∙ is

  pub ended : (chains : List CountedMarks) (count : ℕ) (marks : List Mark) (old : ChainSums) (total : ℕ) (good : Bool) → IsFitted g old → total ≡ capped (old.total + count)
      → good ≡ (old.good && ends_here old) → IsSumming layout g chains count marks old
      → IsSummed layout g (chains ++ record { count = count; marks = marks } ∷ []) (record old { total = total; good = good })
  ended chains count marks old total good fitted is still so_far =
      let k : CountedMarks = record { count = count; marks = marks } in
      ended_by old.good (ends_here old) good still (IsOnWay layout g chains count marks old) (IsLost layout g chains count marks)
      (AreSums layout g (chains ++ k ∷ []) old.through total) (list_all (is_counted_chain layout g) (chains ++ k ∷ []) ≡ false)
      (λ ends way. sums_push layout g way.before old.through old.total total chains k way.edges
      (counts_chain layout g k way.edges way.some way.named (chain_is chains count marks old true fitted ends way)) way.added is way.sums)
      (λ apart way. last_lost chains k (counts_no_chain layout g k way.edges way.named (chain_is chains count marks old false fitted apart way)))
      (λ lost. ap (λ (ms : List Mark). list_all (is_counted_chain layout g) (chains ++ record { count = count; marks = ms } ∷ [])) (sym (append-nil marks)) ∙ lost [])
      so_far

  ---- a mark

  stepped_on : (chains : List CountedMarks) (count : ℕ) (marks : List Mark) (m : Mark) (e : declared.Edge) (old mid new : ChainSums) (begun : Bool) → old.begun ≡ begun → IsReadyFor g old mid
      → IsFitted g old → IsFitted g mid → IsNamedFrom layout g mid.at m e → IsStepped mid new e count → (slice_index mid.stamps.items e.to ≡ mid.stamp → ⊥) → IsOnWay layout g chains count marks old
      → IsOnWay layout g chains count (marks ++ m ∷ []) new
  stepped_on chains count marks m e old mid new true begun ready fitted mid_fitted from stepped fresh way =
      let same : mid ≡ old = at_good old.begun (mid ≡ old) (IsBegunAt g old mid) begun ready in
      way_on chains count marks m e mid new (ap (λ (t : ChainSums). t.begun) same ∙ begun) mid_fitted from stepped fresh (subst (λ (t : ChainSums). IsOnWay layout g chains count marks t) (sym same) way)
  stepped_on chains count marks m e old mid new false begun ready fitted mid_fitted from stepped fresh way =
      way_first chains count marks m e old mid new (at_bad old.begun (mid ≡ old) (IsBegunAt g old mid) begun ready) fitted mid_fitted from stepped fresh way

  stepped_back : (chains : List CountedMarks) (count : ℕ) (marks : List Mark) (m : Mark) (e : declared.Edge) (old mid : ChainSums) (begun : Bool) → old.begun ≡ begun → IsReadyFor g old mid
      → IsFitted g old → IsFitted g mid → IsNamedFrom layout g mid.at m e → slice_index mid.stamps.items e.to ≡ mid.stamp → IsOnWay layout g chains count marks old
      → IsLost layout g chains count (marks ++ m ∷ [])
  stepped_back chains count marks m e old mid true begun ready fitted mid_fitted from visited way =
      let same : mid ≡ old = at_good old.begun (mid ≡ old) (IsBegunAt g old mid) begun ready in
      way_back chains count marks m e mid (ap (λ (t : ChainSums). t.begun) same ∙ begun) from visited (subst (λ (t : ChainSums). IsOnWay layout g chains count marks t) (sym same) way)
  stepped_back chains count marks m e old mid false begun ready fitted mid_fitted from visited way =
      way_first_back chains count marks m e old mid (at_bad old.begun (mid ≡ old) (IsBegunAt g old mid) begun ready) fitted mid_fitted from visited way

  pub gone_on : (chains : List CountedMarks) (count : ℕ) (marks : List Mark) (m : Mark) (e : declared.Edge) (old mid new : ChainSums) (b : Bool) → old.good ≡ true → IsReadyFor g old mid → IsFitted g old → IsFitted g mid
      → IsNamedFrom layout g mid.at m e
      → MatchBool b (IsStepped mid new e count × (slice_index mid.stamps.items e.to ≡ mid.stamp → ⊥)) ((new ≡ mid) × (slice_index mid.stamps.items e.to ≡ mid.stamp))
      → IsSumming layout g chains count marks old → IsSumming layout g chains count (marks ++ m ∷ []) (record new { good = b })
  gone_on chains count marks m e old mid new true good ready fitted mid_fitted from step so_far =
      stepped_on chains count marks m e old mid (record new { good = true }) old.begun refl ready fitted mid_fitted from
      (record {
        stamps = step.0.stamps;
        through = step.0.through;
        at = step.0.at;
        stamp = step.0.stamp;
        total = step.0.total;
        begun = step.0.begun;
        start = step.0.start;
        near = step.0.near;
        empty = step.0.empty;
      }) step.1 (at_good old.good (IsOnWay layout g chains count marks old) (IsLost layout g chains count marks) good so_far)
  gone_on chains count marks m e old mid new false good ready fitted mid_fitted from step so_far =
      stepped_back chains count marks m e old mid old.begun refl ready fitted mid_fitted from step.1
      (at_good old.good (IsOnWay layout g chains count marks old) (IsLost layout g chains count marks) good so_far)

  pub gone_off : (chains : List CountedMarks) (count : ℕ) (marks : List Mark) (m : Mark) (old new : ChainSums) → old.good ≡ true → IsNamedNowhere layout g old m → IsSumming layout g chains count marks old
      → IsSumming layout g chains count (marks ++ m ∷ []) (record new { good = false })
  gone_off chains count marks m old new good nowhere so_far =
      way_off chains count marks m old nowhere (at_good old.good (IsOnWay layout g chains count marks old) (IsLost layout g chains count marks) good so_far)

  pub gone_lost : (chains : List CountedMarks) (count : ℕ) (marks : List Mark) (m : Mark) (old : ChainSums) → old.good ≡ false → IsSumming layout g chains count marks old → IsSumming layout g chains count (marks ++ m ∷ []) old
  gone_lost chains count marks m old bad so_far =
      subst (λ (b : Bool). MatchBool b (IsOnWay layout g chains count (marks ++ m ∷ []) old) (IsLost layout g chains count (marks ++ m ∷ []))) (sym bad)
      (lost_more chains count marks m (at_bad old.good (IsOnWay layout g chains count marks old) (IsLost layout g chains count marks) bad so_far))
