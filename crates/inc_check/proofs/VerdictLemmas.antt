-- What a yes says of the edges that a certificate names.
use Rattle.std.proofs.Common.{◌≡◌, ℕ, zero, suc, ◌<◌, ◌≤◌, Bool, true, false, List, [], ◌∷◌, ◌++◌, Option, Some, None, length, get_or, refl, sym, ap, ◌∙◌, subst, arith, ◌&&◌, inl, inr}
use Rattle.std.specs.Prelude.{◌==◌, not, nat_lt, nat_le, option_to_list, IsTrue}
use Rattle.std.specs.List.{list_any, list_all}
use Rattle.std.specs.Option.{option_map_or}
use Rattle.std.proofs.lemmas.Bool.{cases_Bool, or_parts, and_parts, and_from, lt-ltb, eqb-true, leb-true, leb-false}
use Rattle.std.proofs.lemmas.List.Quantifiers.{position-Some}
use Rattle.inc_lookup.specs.Projects.{Layout}
use Rattle.inc_graph.specs.IncludeGraph.{Graph}
use Rattle.inc_graph.specs.Chains.{is_chain}
use Rattle.inc_graph.specs.Members.{is_member, is_distinct}
use Rattle.inc_graph.specs.Cuts.{Fixed, Costs, Counted, is_editable, meets, IsSeparating, IsCostCertificate}
use Rattle.inc_graph.specs.Marks.{Mark}
use Rattle.inc_check.specs.declared.certificates.Certificate.{Certificate}
use Rattle.inc_check.specs.declared.certificates.CountedMarks.{CountedMarks}
use Rattle.inc_check.specs.declared.verdicts.Reason.TheVariants.{NotEditable, Repeated, StillReached, NotAChain, Shared, Counts}
use Rattle.inc_check.specs.declared.verdicts.Verdict.TheVariants.{Yes}
use Rattle.inc_graph.specs.MarkedEdges.{same_mark, names_edge, edge_number}
use Rattle.inc_graph.proofs.NamedEdges.{no_edge, mark_is, same_self}
use Rattle.inc_check.specs.Certificates.{edge_mark, edge_numbers, chains_of, is_marked_editable, are_different, is_marked_chain, is_counted_chain, IsVerdict}

holds : (b : Bool) → (IsTrue (not b) → ⊥) → b ≡ true
holds true never = refl
holds false never = absurd (never refl)

---- marks and edges

-- a mark that names an edge of the graph is its mark
pub named : (layout : Layout) (g : Graph) (m : Mark) (i : ℕ) → edge_number layout g m ≡ Some i → (i < length g.edges) × (m ≡ edge_mark layout (get_or g.edges i no_edge))
named layout g m i e =
    let at = position-Some (names_edge layout m) g.edges i no_edge e in
    (at.0, mark_is m (edge_mark layout (get_or g.edges i no_edge)) at.1)

pub numbers_cons : (layout : Layout) (g : Graph) (m : Mark) (ms : List Mark) (o : Option ℕ) → edge_number layout g m ≡ o → edge_numbers layout g (m ∷ ms) ≡ option_to_list o ++ edge_numbers layout g ms
numbers_cons layout g m ms None e = rw e refl
numbers_cons layout g m ms (Some i) e = rw e refl

---- the cut

editable : (layout : Layout) (g : Graph) (fixed : Fixed) (ms : List Mark) → list_all (is_marked_editable layout g fixed) ms ≡ true → list_all (is_editable g fixed) (edge_numbers layout g ms) ≡ true
editable layout g fixed [] all = refl
editable layout g fixed (m ∷ ms) all =
    let parts = and_parts (is_marked_editable layout g fixed m) (list_all (is_marked_editable layout g fixed) ms) all in
    one (edge_number layout g m) refl parts.0 (editable layout g fixed ms parts.1)
  where
    one : (o : Option ℕ) → edge_number layout g m ≡ o → option_map_or (λ i. not (fixed i)) o false ≡ true → list_all (is_editable g fixed) (edge_numbers layout g ms) ≡ true → list_all (is_editable g fixed) (edge_numbers layout g (m ∷ ms)) ≡ true
    one None e test rest = cc
    one (Some i) e test rest =
        let within = (named layout g m i e).0 in
        subst (λ is. list_all (is_editable g fixed) is ≡ true) (sym (numbers_cons layout g m ms (Some i) e))
        (and_from (is_editable g fixed i) (list_all (is_editable g fixed) (edge_numbers layout g ms))
        (and_from (nat_lt i (length g.edges)) (not (fixed i)) (lt-ltb i (length g.edges) within) test) rest)

not_false : (b : Bool) → not b ≡ true → b ≡ false
not_false true e = cc
not_false false e = refl

false_not : (b : Bool) → b ≡ false → not b ≡ true
false_not true e = cc
false_not false e = refl

-- an edge that a mark names is named by no other
pub not_among : (layout : Layout) (g : Graph) (m : Mark) (i : ℕ) (ms : List Mark) → edge_number layout g m ≡ Some i → list_any (same_mark m) ms ≡ false → is_member i (edge_numbers layout g ms) ≡ false
not_among layout g m i [] e none = refl
not_among layout g m i (k ∷ ms) e none =
    let parts = or_parts (same_mark m k) (list_any (same_mark m) ms) none in
    one (edge_number layout g k) refl parts.0 (not_among layout g m i ms e parts.1)
  where
    differs : (j : ℕ) → edge_number layout g k ≡ Some j → same_mark m k ≡ false → (j == i) ≡ true → ⊥
    differs j f other same =
        let eq = eqb-true j i same in
        let first = (named layout g m i e).1 in
        let second = (named layout g k j f).1 ∙ ap (λ n. edge_mark layout (get_or g.edges n no_edge)) eq in
        let yes' = same_self m k (first ∙ sym second) in cc

    one : (o : Option ℕ) → edge_number layout g k ≡ o → same_mark m k ≡ false → is_member i (edge_numbers layout g ms) ≡ false → is_member i (edge_numbers layout g (k ∷ ms)) ≡ false
    one None f other rest = subst (λ is. is_member i is ≡ false) (sym (numbers_cons layout g k ms None f)) rest
    one (Some j) f other rest = subst (λ is. is_member i is ≡ false) (sym (numbers_cons layout g k ms (Some j) f)) (elim (cases_Bool (j == i)) [
      | inl same ↦ absurd (differs j f other same)
      | inr no' ↦ rw (no', rest) refl
    ])

pub once : (layout : Layout) (g : Graph) (ms : List Mark) → are_different ms ≡ true → is_distinct (edge_numbers layout g ms) ≡ true
once layout g [] d = refl
once layout g (m ∷ ms) d =
    let parts = and_parts (not (list_any (same_mark m) ms)) (are_different ms) d in
    one (edge_number layout g m) refl (not_false (list_any (same_mark m) ms) parts.0) (once layout g ms parts.1)
  where
    one : (o : Option ℕ) → edge_number layout g m ≡ o → list_any (same_mark m) ms ≡ false → is_distinct (edge_numbers layout g ms) ≡ true → is_distinct (edge_numbers layout g (m ∷ ms)) ≡ true
    one None f none rest = subst (λ is. is_distinct is ≡ true) (sym (numbers_cons layout g m ms None f)) rest
    one (Some i) f none rest = subst (λ is. is_distinct is ≡ true) (sym (numbers_cons layout g m ms (Some i) f))
        (and_from (not (is_member i (edge_numbers layout g ms))) (is_distinct (edge_numbers layout g ms)) (false_not (is_member i (edge_numbers layout g ms)) (not_among layout g m i ms f none)) rest)

---- the chains

counts_some : (n : ℕ) → not (n == 0) ≡ true → nat_lt 0 n ≡ true
counts_some zero e = cc
counts_some (suc n) e = lt-ltb 0 (suc n) (omega arith)

real : (layout : Layout) (g : Graph) (ks : List CountedMarks) → list_all (is_counted_chain layout g) ks ≡ true → list_all (λ (c : Counted). is_chain g c.chain && nat_lt 0 c.count) (chains_of layout g ks) ≡ true
real layout g [] all = refl
real layout g (k ∷ ks) all =
    let parts = and_parts (is_counted_chain layout g k) (list_all (is_counted_chain layout g) ks) all in
    let chain = and_parts (is_marked_chain layout g k.marks) (not (k.count == 0)) parts.0 in
    let walk = and_parts (list_all (λ m. option_map_or (λ i. true) (edge_number layout g m) false) k.marks) (is_chain g (edge_numbers layout g k.marks)) chain.0 in
    and_from (is_chain g (edge_numbers layout g k.marks) && nat_lt 0 k.count) (list_all (λ (c : Counted). is_chain g c.chain && nat_lt 0 c.count) (chains_of layout g ks))
    (and_from (is_chain g (edge_numbers layout g k.marks)) (nat_lt 0 k.count) walk.1 (counts_some k.count chain.1)) (real layout g ks parts.1)

at_most : (a b : ℕ) → (b < a → ⊥) → a ≤ b
at_most a b never = elim (cases_Bool (nat_le a b)) [
  | inl e ↦ leb-true a b e
  | inr e ↦ absurd (never (leb-false a b e))
]

---- a yes

pub yes_is_certificate : (layout : Layout) (g : Graph) (fixed : Fixed) (cost : Costs) (c : Certificate) → IsVerdict layout g fixed cost c Yes → IsCostCertificate g fixed cost (edge_numbers layout g c.cut) (chains_of layout g c.chains)
yes_is_certificate layout g fixed cost c good =
    let separates : IsSeparating g fixed (edge_numbers layout g c.cut) = record {
      editable = editable layout g fixed c.cut (holds (list_all (is_marked_editable layout g fixed) c.cut) (good NotEditable));
      once = once layout g c.cut (holds (are_different c.cut) (good Repeated));
      met = λ chain is. holds (meets chain (edge_numbers layout g c.cut)) (λ misses. good StillReached (chain, is, misses));
    } in
    record {
      separates = separates;
      real = real layout g c.chains (holds (list_all (is_counted_chain layout g) c.chains) (good NotAChain));
      within = λ i e. at_most _ (cost i) (λ more. good Shared (i, e, more));
      counts = eqb-true _ _ (holds _ (good Counts));
    }
