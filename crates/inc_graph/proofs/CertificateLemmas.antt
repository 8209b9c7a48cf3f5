-- What the definitions on separating sets say of each other: certificates show the cheapest and the smallest.
use Rattle.std.proofs.Common.{◌≡◌, ℕ, Bool, true, false, List, [], ◌∷◌, subst, ap, refl, ◌&&◌, ◌||◌, not, ◌==◌, ◌≤◌, inl, inr, arith}
use Rattle.std.specs.List.{list_any, list_all}
use Rattle.std.proofs.lemmas.Bool.{eqb-true, eq-eqb, ltb-true, lt-ltb, or_cases, or_right, and_from}
use Rattle.std.proofs.lemmas.Option.{slice_get_cases}
use Rattle.std.specs.Prelude.{nat_lt, length, if◌then◌else◌, map, ◌+◌, ◌<◌, sum_by, ◌↔◌}
use Rattle.std.proofs.lemmas.List.Sums.{sum_by-cons}
use Rattle.inc_graph.specs.IncludeGraph.{Graph}
use Rattle.inc_graph.specs.Chains.{leaves, is_walk, target, is_chain}
use Rattle.inc_graph.specs.Members.{is_member}
use Rattle.inc_graph.specs.Cuts.{Fixed, Costs, meets, is_editable, share_editable, are_apart, IsSeparating, IsFixedChain, one_each, total_cost, total_count, count_through, chains_in, Counted, counted_once, IsCheapest, IsSmallest, IsCostCertificate, IsCertificate}
use Rattle.inc_graph.proofs.Walks.{chain_parts}

and_left : (a b : Bool) → (a && b) ≡ true → a ≡ true
and_left true b h = refl
and_left false b h = h

and_right : (a b : Bool) → (a && b) ≡ true → b ≡ true
and_right true b h = h
and_right false b h = cc

-- some member passes p, and all pass q
pub any_all : (p q : ℕ → Bool) (xs : List ℕ) → list_any p xs ≡ true → list_all q xs ≡ true → (x : ℕ) × (p x ≡ true) × (q x ≡ true)
any_all p q [] h k = cc
any_all p q (x ∷ xs) h k = elim (or_cases (p x) (list_any p xs) h) [
  | inl e ↦ (x, e, and_left (q x) (list_all q xs) k)
  | inr e ↦ any_all p q xs e (and_right (q x) (list_all q xs) k)
]

-- a member of a list that passes
member_passes : (q : ℕ → Bool) (n : ℕ) (xs : List ℕ) → is_member n xs ≡ true → list_all q xs ≡ true → q n ≡ true
member_passes q n [] h k = cc
member_passes q n (x ∷ xs) h k = elim (or_cases (x == n) (is_member n xs) h) [
  | inl e ↦ subst (λ m. q m ≡ true) (eqb-true x n e) (and_left (q x) (list_all q xs) k)
  | inr e ↦ member_passes q n xs e (and_right (q x) (list_all q xs) k)
]

not_both : (b : Bool) → b ≡ true → not b ≡ true → ⊥
not_both true h k = cc
not_both false h k = cc

pub fixed_chain_leaves_no_cut : (g : Graph) (fixed : Fixed) (chain : List ℕ) → IsFixedChain g fixed chain → (set : List ℕ) → IsSeparating g fixed set → ⊥
fixed_chain_leaves_no_cut g fixed chain c set s =
    let x = any_all (λ i. is_member i set) fixed chain (s.met chain c.real) c.uncuttable in
    not_both (fixed x.0) x.2 (and_right (nat_lt x.0 (length g.edges)) (not (fixed x.0)) (member_passes (is_editable g fixed) x.0 set x.1 s.editable))

or_false : (a b : Bool) → (a || b) ≡ false → (a ≡ false) × (b ≡ false)
or_false true b h = cc
or_false false b h = (refl, h)

not_true : (b : Bool) → not b ≡ true → b ≡ false
not_true true h = cc
not_true false h = refl

-- the lists have no editable edge in common, so an editable one of the first is not in the second
not_in_other : (fixed : Fixed) (i : ℕ) (c d : List ℕ) → is_member i c ≡ true → not (fixed i) ≡ true → share_editable fixed c d ≡ false → is_member i d ≡ false
not_in_other fixed i [] d m e h = cc
not_in_other fixed i (x ∷ xs) d m e h =
    let parts = or_false (not (fixed x) && is_member x d) (share_editable fixed xs d) h in
    elim (or_cases (x == i) (is_member i xs) m) [
      | inl f ↦ here parts.0 (eqb-true x i f)
      | inr f ↦ not_in_other fixed i xs d f e parts.1
    ]
  where
    drop_test : (a b : Bool) → a ≡ true → (a && b) ≡ false → b ≡ false
    drop_test true b k l = l
    drop_test false b k l = cc

    here : (not (fixed x) && is_member x d) ≡ false → x ≡ i → is_member i d ≡ false
    here k f = drop_test (not (fixed i)) (is_member i d) e (subst (λ y. (not (fixed y) && is_member y d) ≡ false) f k)

-- a member that passes
any_member : (p : ℕ → Bool) (xs : List ℕ) → list_any p xs ≡ true → (x : ℕ) × (p x ≡ true) × (is_member x xs ≡ true)
any_member p [] h = cc
any_member p (x ∷ xs) h = elim (or_cases (p x) (list_any p xs) h) [
  | inl e ↦ (x, e, first (is_member x xs))
  | inr e ↦ let y = any_member p xs e in (y.0, y.1, or_right (x == y.0) (is_member y.0 xs) y.2)
]
  where
    first : (b : Bool) → ((x == x) || b) ≡ true
    first b = rw (eq-eqb x x refl) refl

-- from a fact of each member another
all_of : {X : Type 0} (p q : X → Bool) (xs : List X) → ((x : X) → p x ≡ true → q x ≡ true) → list_all p xs ≡ true → list_all q xs ≡ true
all_of p q [] f h = refl
all_of p q (x ∷ xs) f h =
    and_from (q x) (list_all q xs) (f x (and_left (p x) (list_all p xs) h)) (all_of p q xs f (and_right (p x) (list_all p xs) h))

total_one : (set : List ℕ) → total_cost one_each set ≡ length set
total_one [] = refl
total_one (x ∷ xs) = let s = sum_by-cons one_each x xs in let r = total_one xs in omega arith

pub cheapest_of_one : (g : Graph) (fixed : Fixed) (set : List ℕ) → IsCheapest g fixed one_each set ↔ IsSmallest g fixed set
cheapest_of_one g fixed set = (to, from)
  where
    to : IsCheapest g fixed one_each set → IsSmallest g fixed set
    to c = record { separates = c.separates; least = λ other s. let a = total_one set in let b = total_one other in let k = c.least other s in omega arith }

    from : IsSmallest g fixed set → IsCheapest g fixed one_each set
    from c = record { separates = c.separates; least = λ other s. let a = total_one set in let b = total_one other in let k = c.least other s in omega arith }

---- a certificate is cheapest

-- what one chain adds to the counts through an edge
adds : ℕ → Counted → ℕ
adds i c = if is_member i c.chain then c.count else 0

-- counts through an edge, chain by chain
through_cons : (i : ℕ) (c : Counted) (cs : List Counted) → count_through i (c ∷ cs) ≡ adds i c + count_through i cs
unfolding adds
through_cons i c cs = sum_by-cons (λ (d : Counted). if is_member i d.chain then d.count else 0) c cs

count_cons : (c : Counted) (cs : List Counted) → total_count (c ∷ cs) ≡ c.count + total_count cs
count_cons c cs = sum_by-cons (λ (d : Counted). d.count) c cs

adds_member : (i : ℕ) (c : Counted) → is_member i c.chain ≡ true → adds i c ≡ c.count
unfolding adds
adds_member i c h = rw h refl

-- the sum of sums
sum_add : (f h k : ℕ → ℕ) (xs : List ℕ) → ((i : ℕ) → f i ≡ h i + k i) → sum_by f xs ≡ sum_by h xs + sum_by k xs
sum_add f h k [] e = refl
sum_add f h k (x ∷ xs) e =
    let a = sum_by-cons f x xs in let b = sum_by-cons h x xs in let c = sum_by-cons k x xs in
    let r = sum_add f h k xs e in let d = e x in omega arith

-- a member's share is at most the sum
at_least : (f : ℕ → ℕ) (i : ℕ) (xs : List ℕ) → is_member i xs ≡ true → f i ≤ sum_by f xs
at_least f i [] h = cc
at_least f i (x ∷ xs) h =
    let a = sum_by-cons f x xs in
    elim (or_cases (x == i) (is_member i xs) h) [
      | inl e ↦ let k = ap f (eqb-true x i e) in omega arith
      | inr e ↦ let r = at_least f i xs e in omega arith
    ]

-- all counts are at most the counts through the members of a set that each chain meets
counts_bound : (cs : List Counted) (set : List ℕ) → list_all (λ (c : Counted). meets c.chain set) cs ≡ true →
    total_count cs ≤ sum_by (λ i. count_through i cs) set
counts_bound [] set h = omega arith
counts_bound (c ∷ cs) set h =
    let i = any_member (λ x. is_member x set) c.chain (and_left (meets c.chain set) (list_all (λ (d : Counted). meets d.chain set) cs) h) in
    let a = sum_add (λ j. count_through j (c ∷ cs)) (λ j. adds j c) (λ j. count_through j cs) set (λ j. through_cons j c cs) in
    let b = at_least (λ j. adds j c) i.0 set i.1 in
    let e = adds_member i.0 c i.2 in
    let r = counts_bound cs set (and_right (meets c.chain set) (list_all (λ (d : Counted). meets d.chain set) cs) h) in
    let n = count_cons c cs in
    omega arith

-- below in each member, below in the sum
sum_bound : (f h : ℕ → ℕ) (q : ℕ → Bool) (xs : List ℕ) → ((i : ℕ) → q i ≡ true → f i ≤ h i) → list_all q xs ≡ true → sum_by f xs ≤ sum_by h xs
sum_bound f h q [] e k = omega arith
sum_bound f h q (x ∷ xs) e k =
    let a = sum_by-cons f x xs in let b = sum_by-cons h x xs in
    let d = e x (and_left (q x) (list_all q xs) k) in
    let r = sum_bound f h q xs e (and_right (q x) (list_all q xs) k) in omega arith

pub certificate_is_cheapest : (g : Graph) (fixed : Fixed) (cost : Costs) (set : List ℕ) (chains : List Counted) →
    IsCostCertificate g fixed cost set chains → IsCheapest g fixed cost set
certificate_is_cheapest g fixed cost set chains c = record { separates = c.separates; least = least }
  where
    least : (other : List ℕ) → IsSeparating g fixed other → total_cost cost set ≤ total_cost cost other
    least other s =
        let met = all_of (λ (d : Counted). is_chain g d.chain && nat_lt 0 d.count) (λ (d : Counted). meets d.chain other) chains
        (λ d r. s.met d.chain (and_left (is_chain g d.chain) (nat_lt 0 d.count) r)) c.real in
        let a = counts_bound chains other met in
        let b = sum_bound (λ i. count_through i chains) cost (is_editable g fixed) other c.within s.editable in
        let e = c.counts in
        omega arith

---- costs of 1

-- the edge begins in the file, so it is one
leaves_edge : (g : Graph) (a i : ℕ) → leaves g a i ≡ true → nat_lt i (length g.edges) ≡ true
leaves_edge g a i h = elim ((slice_get_cases g.edges i).1) [
  | inl x ↦ lt-ltb i (length g.edges) x.1
  | inr x ↦ absurd (none (rw x.1 at h))
]
  where
    none : false ≡ true → ⊥
    none e = cc

-- the edges of a walk are edges of the graph
walk_edge : (g : Graph) (a b j : ℕ) (is : List ℕ) → is_walk g a is b ≡ true → is_member j is ≡ true → nat_lt j (length g.edges) ≡ true
walk_edge g a b j [] w m = cc
walk_edge g a b j (i ∷ is) w m = elim (or_cases (i == j) (is_member j is) m) [
  | inl e ↦ subst (λ n. nat_lt n (length g.edges) ≡ true) (eqb-true i j e) (leaves_edge g a i (and_left (leaves g a i) (is_walk g (target g i) is b) w))
  | inr e ↦ walk_edge g (target g i) b j is (and_right (leaves g a i) (is_walk g (target g i) is b) w) e
]

chain_edge : (g : Graph) (j : ℕ) (c : List ℕ) → is_chain g c ≡ true → is_member j c ≡ true → nat_lt j (length g.edges) ≡ true
chain_edge g j c r m = let parts = chain_parts g c r in walk_edge g parts.source parts.header j c parts.walk m

-- what is asked of counted chains
is_real : Graph → Counted → Bool
is_real g d = is_chain g d.chain && nat_lt 0 d.count

real_chain : (g : Graph) (d : Counted) → is_real g d ≡ true → is_chain g d.chain ≡ true
unfolding is_real
real_chain g d h = and_left (is_chain g d.chain) (nat_lt 0 d.count) h

real_count : (g : Graph) (d : Counted) → is_real g d ≡ true → 0 < d.count
unfolding is_real
real_count g d h = ltb-true 0 d.count (and_right (is_chain g d.chain) (nat_lt 0 d.count) h)

once_eta : (c : Counted) → c.count ≡ 1 → c ≡ counted_once c.chain
once_eta c h = ap (λ n. record { chain = c.chain; count = n }) h

cons_equal : {X : Type 0} (x y : X) (xs ys : List X) → x ≡ y → xs ≡ ys → (x ∷ xs) ≡ (y ∷ ys)
cons_equal x y xs ys h k = rw h (rw k refl)

-- chains after a chain, none of which counts through an editable edge of it
apart_from : (g : Graph) (fixed : Fixed) (c : Counted) (ds : List Counted) → is_chain g c.chain ≡ true → list_all (is_real g) ds ≡ true →
    ((j : ℕ) → is_editable g fixed j ≡ true → is_member j c.chain ≡ true → count_through j ds ≤ 0) →
    list_all (λ d. not (share_editable fixed c.chain d)) (chains_in ds) ≡ true
apart_from g fixed c [] r l z = refl
apart_from g fixed c (d ∷ ds) r l z =
    and_from (not (share_editable fixed c.chain d.chain)) (list_all (λ x. not (share_editable fixed c.chain x)) (chains_in ds))
    (go (share_editable fixed c.chain d.chain) refl)
    (apart_from g fixed c ds r (and_right (is_real g d) (list_all (is_real g) ds) l)
    (λ j e m. let a = z j e m in let b = through_cons j d ds in omega arith))
  where
    go : (b : Bool) → share_editable fixed c.chain d.chain ≡ b → not b ≡ true
    go false h = refl
    go true h =
        let j = any_member (λ i. not (fixed i) && is_member i d.chain) c.chain h in
        let e = and_from (nat_lt j.0 (length g.edges)) (not (fixed j.0)) (chain_edge g j.0 c.chain r j.2) (and_left (not (fixed j.0)) (is_member j.0 d.chain) j.1) in
        let a = z j.0 e j.2 in
        let b = through_cons j.0 d ds in
        let k = adds_member j.0 d (and_right (not (fixed j.0)) (is_member j.0 d.chain) j.1) in
        let p = real_count g d (and_left (is_real g d) (list_all (is_real g) ds) l) in
        absurd (omega arith)

-- each count is 1, and the chains are apart
Ones : Fixed → List Counted → Type 0
Ones fixed cs = (cs ≡ map counted_once (chains_in cs)) × (are_apart fixed (chains_in cs) ≡ true) × (total_count cs ≡ length (chains_in cs))

ones : (g : Graph) (fixed : Fixed) (set : List ℕ) (cs : List Counted) → list_all (is_editable g fixed) set ≡ true →
    list_all (is_real g) cs ≡ true → list_all (λ (c : Counted). meets c.chain set) cs ≡ true →
    ((i : ℕ) → is_editable g fixed i ≡ true → count_through i cs ≤ 1) → Ones fixed cs
unfolding Ones
ones g fixed set [] e r m w = (refl, refl, refl)
ones g fixed set (c ∷ cs) e r m w =
    let rc = and_left (is_real g c) (list_all (is_real g) cs) r in
    let rs = and_right (is_real g c) (list_all (is_real g) cs) r in
    let i = any_member (λ x. is_member x set) c.chain (and_left (meets c.chain set) (list_all (λ (d : Counted). meets d.chain set) cs) m) in
    let p = real_count g c rc in
    let a = w i.0 (member_passes (is_editable g fixed) i.0 set i.1 e) in
    let b = through_cons i.0 c cs in
    let k = adds_member i.0 c i.2 in
    let one : c.count ≡ 1 = omega arith in
    let rest = ones g fixed set cs e rs (and_right (meets c.chain set) (list_all (λ (d : Counted). meets d.chain set) cs) m)
    (λ j f. let x = w j f in let y = through_cons j c cs in omega arith) in
    let others = apart_from g fixed c cs (real_chain g c rc) rs
    (λ j f n. let x = w j f in let y = through_cons j c cs in let z = adds_member j c n in omega arith) in
    let n = count_cons c cs in
    let q = rest.2 in (
      cons_equal c (counted_once c.chain) cs (map counted_once (chains_in cs)) (once_eta c one) rest.0,
      and_from (list_all (λ d. not (share_editable fixed c.chain d)) (chains_in cs)) (are_apart fixed (chains_in cs)) others rest.1,
      omega arith,
    )

adds_none : (j : ℕ) (x : Counted) → is_member j x.chain ≡ false → adds j x ≡ 0
unfolding adds
adds_none j x h = rw h refl

-- the chains counted once, after a chain that shares no editable edge with them: none of them goes through its edges
none_through : (fixed : Fixed) (i : ℕ) (c : List ℕ) (ds : List (List ℕ)) → not (fixed i) ≡ true → is_member i c ≡ true →
    list_all (λ d. not (share_editable fixed c d)) ds ≡ true → count_through i (map counted_once ds) ≡ 0
none_through fixed i c [] e m l = refl
none_through fixed i c (d ∷ ds) e m l =
    let out = not_in_other fixed i c d m e (not_true (share_editable fixed c d) (and_left (not (share_editable fixed c d)) (list_all (λ x. not (share_editable fixed c x)) ds) l)) in
    let a = through_cons i (counted_once d) (map counted_once ds) in
    let k = adds_none i (counted_once d) out in
    let r = none_through fixed i c ds e m (and_right (not (share_editable fixed c d)) (list_all (λ x. not (share_editable fixed c x)) ds) l) in
    omega arith

at_most_one : (fixed : Fixed) (i : ℕ) (cs : List (List ℕ)) → not (fixed i) ≡ true → are_apart fixed cs ≡ true → count_through i (map counted_once cs) ≤ 1
at_most_one fixed i [] e a = omega arith
at_most_one fixed i (c ∷ cs) e a =
    go (is_member i c) refl (at_most_one fixed i cs e (and_right (list_all (λ d. not (share_editable fixed c d)) cs) (are_apart fixed cs) a))
  where
    b : count_through i (counted_once c ∷ map counted_once cs) ≡ adds i (counted_once c) + count_through i (map counted_once cs)
    b = through_cons i (counted_once c) (map counted_once cs)

    go : (m : Bool) → is_member i c ≡ m → count_through i (map counted_once cs) ≤ 1 → count_through i (counted_once c ∷ map counted_once cs) ≤ 1
    go true h r =
        let z = none_through fixed i c cs e h (and_left (list_all (λ d. not (share_editable fixed c d)) cs) (are_apart fixed cs) a) in
        let k = adds_member i (counted_once c) h in let s = b in omega arith
    go false h r =
        let k = adds_none i (counted_once c) h in let s = b in omega arith

total_once : (cs : List (List ℕ)) → total_count (map counted_once cs) ≡ length cs
total_once [] = refl
total_once (c ∷ cs) = let a = count_cons (counted_once c) (map counted_once cs) in let r = total_once cs in omega arith

chains_real : (g : Graph) (cs : List Counted) → list_all (is_real g) cs ≡ true → list_all (is_chain g) (chains_in cs) ≡ true
chains_real g [] h = refl
chains_real g (c ∷ cs) h =
    and_from (is_chain g c.chain) (list_all (is_chain g) (chains_in cs)) (real_chain g c (and_left (is_real g c) (list_all (is_real g) cs) h))
    (chains_real g cs (and_right (is_real g c) (list_all (is_real g) cs) h))

real_once : (g : Graph) (cs : List (List ℕ)) → list_all (is_chain g) cs ≡ true → list_all (is_real g) (map counted_once cs) ≡ true
unfolding is_real
real_once g [] h = refl
real_once g (c ∷ cs) h =
    and_from (is_chain g c && nat_lt 0 1) (list_all (λ (d : Counted). is_chain g d.chain && nat_lt 0 d.count) (map counted_once cs))
    (and_from (is_chain g c) (nat_lt 0 1) (and_left (is_chain g c) (list_all (is_chain g) cs) h) refl)
    (real_once g cs (and_right (is_chain g c) (list_all (is_chain g) cs) h))

as_real : (g : Graph) (cs : List Counted) → list_all (λ (d : Counted). is_chain g d.chain && nat_lt 0 d.count) cs ≡ true → list_all (is_real g) cs ≡ true
unfolding is_real
as_real g cs h = h

of_real : (g : Graph) (cs : List Counted) → list_all (is_real g) cs ≡ true → list_all (λ (d : Counted). is_chain g d.chain && nat_lt 0 d.count) cs ≡ true
unfolding is_real
of_real g cs h = h

ones_parts : (fixed : Fixed) (cs : List Counted) → Ones fixed cs → (cs ≡ map counted_once (chains_in cs)) × (are_apart fixed (chains_in cs) ≡ true) × (total_count cs ≡ length (chains_in cs))
unfolding Ones
ones_parts fixed cs o = o

pub costs_of_one : (g : Graph) (fixed : Fixed) (set : List ℕ) →
    ((chains : List Counted) → IsCostCertificate g fixed one_each set chains →
    (chains ≡ map counted_once (chains_in chains)) × IsCertificate g fixed set (chains_in chains))
    × ((chains : List (List ℕ)) → IsCertificate g fixed set chains → IsCostCertificate g fixed one_each set (map counted_once chains))
costs_of_one g fixed set = (to, from)
  where
    to : (chains : List Counted) → IsCostCertificate g fixed one_each set chains →
        (chains ≡ map counted_once (chains_in chains)) × IsCertificate g fixed set (chains_in chains)
    to chains c =
        let met = all_of (λ (d : Counted). is_chain g d.chain && nat_lt 0 d.count) (λ (d : Counted). meets d.chain set) chains
        (λ d r. (c.separates).met d.chain (and_left (is_chain g d.chain) (nat_lt 0 d.count) r)) c.real in
        let o = ones_parts fixed chains (ones g fixed set chains (c.separates).editable (as_real g chains c.real) met c.within) in (
          o.0,
          record {
            separates = c.separates;
            real = chains_real g chains (as_real g chains c.real);
            apart = o.1;
            counts = let a = o.2 in let b = c.counts in let d = total_one set in omega arith;
          },
        )

    from : (chains : List (List ℕ)) → IsCertificate g fixed set chains → IsCostCertificate g fixed one_each set (map counted_once chains)
    from chains c = record {
      separates = c.separates;
      real = of_real g (map counted_once chains) (real_once g chains c.real);
      within = λ i e. at_most_one fixed i chains (and_right (nat_lt i (length g.edges)) (not (fixed i)) e) c.apart;
      counts = let a = total_once chains in let b = c.counts in let d = total_one set in omega arith;
    }

pub certificate_is_smallest : (g : Graph) (fixed : Fixed) (set : List ℕ) (chains : List (List ℕ)) → IsCertificate g fixed set chains → IsSmallest g fixed set
certificate_is_smallest g fixed set chains c =
    (cheapest_of_one g fixed set).0 (certificate_is_cheapest g fixed one_each set (map counted_once chains) ((costs_of_one g fixed set).1 chains c))
