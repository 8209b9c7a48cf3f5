-- Sums of the counts of chains.
use Rattle.std.proofs.Common.{◌≡◌, ℕ, ◌+◌, ◌-◌, ◌<◌, ◌≤◌, ◌^◌, Bool, true, false, cond, List, [], ◌∷◌, ◌++◌, ◌||◌, length, get_or, set, map, replicate, min, zero-add, refl, sym, ap, ◌∙◌, inl, inr, arith, get_or-set_same, get_or-set_other, length-set}
use Rattle.std.specs.Prelude.{◌==◌, ◌&&◌, not, nat_lt, sum_by, slice_index}
use Rattle.std.specs.List.{list_all}
use Rattle.std.proofs.lemmas.Bool.{cases_Bool, cases_eq, and_parts, and_from, eq-eqb, ne_eqb, not-true, not_from_false, lt-ltb, ltb-true, ltb-false, true≢false, cond-true, cond-false}
use Rattle.std.proofs.lemmas.List.{map-append, length-replicate, get_or-replicate}
use Rattle.std.proofs.lemmas.List.Sums.{sum_by-append}
use Rattle.std.proofs.lemmas.List.Folds.{list_all-append}
use Rattle.inc_lookup.specs.Projects.{Layout}
use Rattle.inc_graph.specs.declared.graphs.Edge as declared
use Rattle.inc_graph.specs.IncludeGraph.{Graph}
use Rattle.inc_graph.specs.Chains.{target, is_chain}
use Rattle.inc_graph.specs.Members.{is_member, is_distinct}
use Rattle.inc_graph.specs.Cuts.{Counted, count_through, total_count, fixed_by, costs_by, is_editable}
use Rattle.inc_graph.specs.Views.{numbered}
use Rattle.inc_graph.proofs.NumberedEdges.{length-numbered_from}
use Rattle.inc_check.specs.declared.certificates.CountedMarks.{CountedMarks}
use Rattle.inc_check.specs.Certificates.{edge_numbers, chains_of, is_marked_chain, is_counted_chain}
use Rattle.inc_check.specs.Checking.{is_named, AreNamed, IsCounted, IsAdded, capped, AreSums}
use Rattle.inc_check.proofs.SetLemmas.{member_self, member_other}
use Rattle.inc_graph.proofs.Walks.{chain_parts}

---- the edges of a chain

member_mapped : (f : ℕ → ℕ) (n : ℕ) (ns : List ℕ) → is_member n ns ≡ true → is_member (f n) (map f ns) ≡ true
member_mapped f n [] met = cc
member_mapped f n (m ∷ ms) met =
    elim (cases_eq m n) [
      | inl same ↦ ap (λ b. b || is_member (f n) (map f ms)) (eq-eqb (f m) (f n) (ap f same))
      | inr apart ↦
          let later : is_member n ms ≡ true = sym (ap (λ b. b || is_member n ms) (ne_eqb m n apart)) ∙ met in
          ap (λ b. (f m == f n) || b) (member_mapped f n ms later) ∙ or_last (f m == f n)
    ]
  where
    or_last : (a : Bool) → (a || true) ≡ true
    or_last true = refl
    or_last false = refl

-- edges that lead to different files are different
distinct_unmapped : (f : ℕ → ℕ) (ns : List ℕ) → is_distinct (map f ns) ≡ true → is_distinct ns ≡ true
distinct_unmapped f [] d = refl
distinct_unmapped f (n ∷ ns) d =
    let parts = and_parts (not (is_member (f n) (map f ns))) (is_distinct (map f ns)) d in
    let fresh : is_member n ns ≡ false = elim (cases_Bool (is_member n ns)) [
      | inl met ↦ absurd (true≢false (sym (member_mapped f n ns met) ∙ not-true (is_member (f n) (map f ns)) parts.0))
      | inr none ↦ none
    ] in
    and_from (not (is_member n ns)) (is_distinct ns) (not_from_false (is_member n ns) fresh) (distinct_unmapped f ns parts.1)

pub chain_once : (g : Graph) (is : List ℕ) → is_chain g is ≡ true → is_distinct is ≡ true
chain_once g is chain =
    let c = chain_parts g is chain in
    let files = and_parts (not (is_member c.source (map (target g) is))) (is_distinct (map (target g) is)) c.distinct in
    distinct_unmapped (target g) is files.1

and_false : (b : Bool) → (b && false) ≡ false
and_false true = refl
and_false false = refl

-- a chain that counts 0
pub counts_none : (layout : Layout) (g : Graph) (k : CountedMarks) → k.count ≡ 0 → is_counted_chain layout g k ≡ false
counts_none layout g k none = ap (λ b. is_marked_chain layout g k.marks && not b) (eq-eqb k.count 0 none) ∙ and_false (is_marked_chain layout g k.marks)

-- a chain with a mark that names no edge
pub counts_unnamed : (layout : Layout) (g : Graph) (k : CountedMarks) → list_all (is_named layout g) k.marks ≡ false → is_counted_chain layout g k ≡ false
counts_unnamed layout g k none = ap (λ b. (b && is_chain g (edge_numbers layout g k.marks)) && not (k.count == 0)) none

-- edges that are no chain
pub counts_no_chain : (layout : Layout) (g : Graph) (k : CountedMarks) (edges : List ℕ) → AreNamed layout g k.marks edges → is_chain g edges ≡ false → is_counted_chain layout g k ≡ false
counts_no_chain layout g k edges named no_chain =
    ap (λ b. (list_all (is_named layout g) k.marks && b) && not (k.count == 0)) (ap (is_chain g) (sym named.are) ∙ no_chain)
    ∙ ap (λ b. b && not (k.count == 0)) (and_false (list_all (is_named layout g) k.marks))

pub counts_chain : (layout : Layout) (g : Graph) (k : CountedMarks) (edges : List ℕ) → (k.count ≡ 0 → ⊥) → AreNamed layout g k.marks edges → is_chain g edges ≡ true → IsCounted layout g k edges
counts_chain layout g k edges some named chain = record {
  counted = and_from (is_marked_chain layout g k.marks) (not (k.count == 0))
      (and_from (list_all (is_named layout g) k.marks) (is_chain g (edge_numbers layout g k.marks)) named.all (ap (is_chain g) (sym named.are) ∙ chain))
      (not_from_false (k.count == 0) (ne_eqb k.count 0 some));
  are = named.are;
  within = named.within;
  once = chain_once g edges chain;
}

---- a count that is added to edges

pub added_none : (old : List ℕ) (count : ℕ) → IsAdded old count [] old
added_none old count = record { long = refl; each = λ i low. refl }

pub added_push : (old now : List ℕ) (count : ℕ) (edges : List ℕ) (e : ℕ) → is_member e edges ≡ false → e < length old → IsAdded old count edges now → IsAdded old count (edges ++ e ∷ []) (set now e (capped (slice_index now e + count)))
added_push old now count edges e fresh within so_far =
    let inside : e < length now = let l = so_far.long in omega arith in
    let here : slice_index now e ≡ slice_index old e = so_far.each e within ∙ cond-false (is_member e edges) (capped (slice_index old e + count)) (slice_index old e) fresh in
    record {
      long = length-set now e (capped (slice_index now e + count)) ∙ so_far.long;
      each = λ i below. elim (cases_eq i e) [
        | inl same ↦
            ap (λ (k : ℕ). slice_index (set now e (capped (slice_index now e + count))) k) same ∙ get_or-set_same now e (capped (slice_index now e + count)) 0 inside
            ∙ ap (λ (n : ℕ). capped (n + count)) (here ∙ ap (slice_index old) (sym same))
            ∙ sym (cond-true (is_member i (edges ++ e ∷ [])) (capped (slice_index old i + count)) (slice_index old i) (ap (λ (k : ℕ). is_member k (edges ++ e ∷ [])) same ∙ member_self e edges))
        | inr apart ↦
            get_or-set_other now e i (capped (slice_index now e + count)) 0 apart ∙ so_far.each i below
            ∙ ap (λ b. cond b (capped (slice_index old i + count)) (slice_index old i)) (sym (member_other i edges e (λ q. apart (sym q))))
      ];
    }

---- the sums of chains

capped_more : (a c m : ℕ) → min (min a m + c) m ≡ min (a + c) m
capped_more a c m = omega arith

sum_push : {X : Type 0} (f : X → ℕ) (xs : List X) (x : X) → sum_by f (xs ++ x ∷ []) ≡ sum_by f xs + f x
sum_push f xs x = sum_by-append f xs (x ∷ []) ∙ ap (λ (n : ℕ). sum_by f xs + n) (zero-add (f x))

step_sum : (b : Bool) (a count old new : ℕ) → old ≡ capped a → new ≡ cond b (capped (old + count)) old → new ≡ capped (a + cond b count 0)
step_sum true a count old new so_far is = is ∙ ap (λ (n : ℕ). capped (n + count)) so_far ∙ capped_more a count (2 ^ 64 - 1)
step_sum false a count old new so_far is = let same : a ≡ a + 0 = omega arith in is ∙ so_far ∙ ap capped same

-- of no chains
pub sums_none : (layout : Layout) (g : Graph) (through : List ℕ) (count : ℕ) → count ≡ length g.edges → through ≡ replicate count 0 → AreSums layout g [] through 0
sums_none layout g through count edges none = record {
  counted = refl;
  long = ap (λ (ns : List ℕ). length ns) none ∙ length-replicate count 0 ∙ edges;
  each = λ i low.
      let inside : i < count = omega arith in
      ap (λ (ns : List ℕ). get_or ns i 0) none ∙ get_or-replicate count i 0 0 inside;
  all = refl;
}

-- the sums with those of one chain more
pub sums_push : (layout : Layout) (g : Graph) (old new : List ℕ) (total more : ℕ) (front : List CountedMarks) (k : CountedMarks) (edges : List ℕ)
    → IsCounted layout g k edges → IsAdded old k.count edges new → more ≡ capped (total + k.count) → AreSums layout g front old total → AreSums layout g (front ++ k ∷ []) new more
sums_push layout g old new total more front k edges counted added is so_far =
    let one : Counted = record { chain = edge_numbers layout g k.marks; count = k.count } in
    let all : chains_of layout g (front ++ k ∷ []) ≡ chains_of layout g front ++ one ∷ [] = map-append (λ (x : CountedMarks). record { chain = edge_numbers layout g x.marks; count = x.count }) front (k ∷ []) in
    record {
      counted = list_all-append (is_counted_chain layout g) front (k ∷ []) ∙ ap (λ b. b && list_all (is_counted_chain layout g) (k ∷ [])) so_far.counted ∙ and_from (is_counted_chain layout g k) true counted.counted refl;
      long = added.long ∙ so_far.long;
      each = λ i within.
          let inside : i < length old = let l = so_far.long in omega arith in
          step_sum (is_member i edges) (count_through i (chains_of layout g front)) k.count (slice_index old i) (slice_index new i) (so_far.each i within) (added.each i inside)
          ∙ ap (λ (es : List ℕ). capped (count_through i (chains_of layout g front) + cond (is_member i es) k.count 0)) counted.are
          ∙ sym (ap (λ (cs : List Counted). capped (count_through i cs)) all ∙ ap capped (sum_push (λ (c : Counted). cond (is_member i c.chain) c.count 0) (chains_of layout g front) one));
      all =
          is ∙ ap (λ (n : ℕ). capped (n + k.count)) so_far.all ∙ capped_more (total_count (chains_of layout g front)) k.count (2 ^ 64 - 1)
          ∙ sym (ap (λ (cs : List Counted). capped (total_count cs)) all ∙ ap capped (sum_push (λ (c : Counted). c.count) (chains_of layout g front) one));
    }

---- sums over the costs

-- the edge is not fixed, and its sum is over its cost
abbrev pub is_over : (amounts through : List ℕ) → ℕ → Bool
is_over amounts through i = not (fixed_by amounts i) && nat_lt (costs_by amounts i) (slice_index through i)

pub below_edges : (g : Graph) (items : List declared.Edge) (i n : ℕ) → items ≡ numbered g.edges → n ≡ length g.edges → i < length items → i < n
below_edges g items i n are same low =
    let count : length items ≡ length g.edges = ap (λ (es : List declared.Edge). length es) are ∙ length-numbered_from 0 g.edges in
    omega arith

pub all_edges : (g : Graph) (items : List declared.Edge) (n : ℕ) → items ≡ numbered g.edges → length items ≤ n → length g.edges ≤ n
all_edges g items n are low =
    let count : length items ≡ length g.edges = ap (λ (es : List declared.Edge). length es) are ∙ length-numbered_from 0 g.edges in
    omega arith

pub over_there : (g : Graph) (amounts through : List ℕ) (i : ℕ) → i < length g.edges → is_over amounts through i ≡ true
    → (j : ℕ) × (is_editable g (fixed_by amounts) j ≡ true) × (costs_by amounts j < slice_index through j)
over_there g amounts through i low over =
    let parts = and_parts (not (fixed_by amounts i)) (nat_lt (costs_by amounts i) (slice_index through i)) over in
    (i, and_from (nat_lt i (length g.edges)) (not (fixed_by amounts i)) (lt-ltb i (length g.edges) low) parts.0, ltb-true (costs_by amounts i) (slice_index through i) parts.1)

none_over : (b : Bool) (a c : ℕ) → b ≡ true → (b && nat_lt a c) ≡ false → c ≤ a
none_over true a c editable none = ltb-false a c none
none_over false a c editable none = absurd (true≢false (sym editable))

pub over_nowhere : (g : Graph) (amounts through : List ℕ) (count : ℕ) → length g.edges ≤ count → ((i : ℕ) → i < count → is_over amounts through i ≡ false)
    → (i : ℕ) → is_editable g (fixed_by amounts) i ≡ true → slice_index through i ≤ costs_by amounts i
over_nowhere g amounts through count all none i editable =
    let parts = and_parts (nat_lt i (length g.edges)) (not (fixed_by amounts i)) editable in
    let low = ltb-true i (length g.edges) parts.0 in
    none_over (not (fixed_by amounts i)) (costs_by amounts i) (slice_index through i) parts.1 (none i (omega arith))
