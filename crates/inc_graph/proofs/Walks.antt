-- Walks with one more edge at their end, and the files that they visit.
use Rattle.std.proofs.Common.{◌≡◌, ℕ, ◌<◌, true, false, List, [], ◌∷◌, ◌++◌, Option, Some, None, All, length, refl, sym, ap, ◌∙◌, subst}
use Rattle.std.specs.Prelude.{◌==◌, not, slice_get}
use Rattle.std.specs.Option.{option_map_or}
use Rattle.std.specs.List.{list_any}
use Rattle.std.proofs.lemmas.List.{map-append}
use Rattle.std.proofs.lemmas.List.Elements.{All-nil, All-cons, All-get_or}
use Rattle.std.proofs.lemmas.Option.{slice_get_within, get_or_from_slice_get}
use Rattle.std.proofs.lemmas.Bool.{eq-eqb, ne_eqb, eqb-true, eqb-false, and_parts, and_from, or_from, or_parts, not_from_false, not-true, false≢true}
use Rattle.inc_graph.proofs.Members.{any_member, any_by}
use Rattle.inc_graph.specs.IncludeGraph.{Edge, Graph, IsInner, IsSound}
use Rattle.inc_graph.specs.Chains.{target, leaves, is_walk, files_on, is_chain_from, is_chain, ends_with}
use Rattle.inc_graph.specs.Members.{is_member, is_distinct}

pub walk_push : (g : Graph) (a : ℕ) (xs : List ℕ) (b i : ℕ) → is_walk g a xs b ≡ true → leaves g b i ≡ true → is_walk g a (xs ++ i ∷ []) (target g i) ≡ true
walk_push g a [] b i w l =
    let at : leaves g a i ≡ true = rw (eqb-true a b w) l in
    and_from (leaves g a i) (target g i == target g i) at (eq-eqb (target g i) (target g i) refl)
walk_push g a (x ∷ xs) b i w l =
    let parts = and_parts (leaves g a x) (is_walk g (target g x) xs b) w in
    and_from (leaves g a x) (is_walk g (target g x) (xs ++ i ∷ []) (target g i)) parts.0 (walk_push g (target g x) xs b i parts.1 l)

-- a walk before its last edge
pub walk_before : (g : Graph) (a : ℕ) (xs : List ℕ) (i c : ℕ) → is_walk g a (xs ++ i ∷ []) c ≡ true
    → (b : ℕ) × (is_walk g a xs b ≡ true) × (leaves g b i ≡ true) × (target g i ≡ c)
walk_before g a [] i c w =
    let parts = and_parts (leaves g a i) (target g i == c) w in
    (a, eq-eqb a a refl, parts.0, eqb-true (target g i) c parts.1)
walk_before g a (x ∷ xs) i c w =
    let parts = and_parts (leaves g a x) (is_walk g (target g x) (xs ++ i ∷ []) c) w in
    let rest = walk_before g (target g x) xs i c parts.1 in
    (rest.0, and_from (leaves g a x) (is_walk g (target g x) xs rest.0) parts.0 rest.1, rest.2, rest.3)

-- a list before its last edge
pub before_last : (i : ℕ) (xs : List ℕ) → ends_with i xs ≡ true → (w : List ℕ) × (xs ≡ w ++ i ∷ [])
before_last i [] e = absurd (false≢true e)
before_last i (x ∷ []) e = ([], ap (λ (n : ℕ). n ∷ []) (eqb-true x i e))
before_last i (x ∷ y ∷ ys) e =
    let rest = before_last i (y ∷ ys) e in
    (x ∷ rest.0, ap (λ (l : List ℕ). x ∷ l) rest.1)

pub ends_push : (i : ℕ) (xs : List ℕ) → ends_with i (xs ++ i ∷ []) ≡ true
ends_push i [] = eq-eqb i i refl
ends_push i (x ∷ []) = eq-eqb i i refl
ends_push i (x ∷ y ∷ ys) = ends_push i (y ∷ ys)

pub files_push : (g : Graph) (a : ℕ) (xs : List ℕ) (i : ℕ) → files_on g a (xs ++ i ∷ []) ≡ files_on g a xs ++ target g i ∷ []
files_push g a xs i = ap (λ (l : List ℕ). a ∷ l) (map-append (target g) xs (i ∷ []))

pub member_push : (t : ℕ) (ns : List ℕ) (n : ℕ) → is_member t ns ≡ false → (n ≡ t → ⊥) → is_member t (ns ++ n ∷ []) ≡ false
member_push t [] n e d = or_from (n == t) false (ne_eqb n t d) refl
member_push t (m ∷ ms) n e d =
    let parts = or_parts (m == t) (is_member t ms) e in
    or_from (m == t) (is_member t (ms ++ n ∷ [])) parts.0 (member_push t ms n parts.1 d)

pub distinct_push : (ns : List ℕ) (n : ℕ) → is_distinct ns ≡ true → is_member n ns ≡ false → is_distinct (ns ++ n ∷ []) ≡ true
distinct_push [] n d e = refl
distinct_push (m ∷ ms) n d e =
    let parts = or_parts (m == n) (is_member n ms) e in
    let kept = and_parts (not (is_member m ms)) (is_distinct ms) d in
    let apart : is_member m (ms ++ n ∷ []) ≡ false = member_push m ms n (not-true (is_member m ms) kept.0) (λ same. eqb-false m n parts.0 (sym same)) in
    and_from (not (is_member m (ms ++ n ∷ []))) (is_distinct (ms ++ n ∷ [])) (not_from_false (is_member m (ms ++ n ∷ [])) apart) (distinct_push ms n kept.1 parts.1)

-- an edge that leaves a file
pub leaving_edge : (g : Graph) (a i : ℕ) (o : Option Edge) → slice_get g.edges i ≡ o → option_map_or (λ (e : Edge). e.from == a) o false ≡ true
    → (e : Edge) × (slice_get g.edges i ≡ Some e) × (e.from ≡ a)
leaving_edge g a i None s l = absurd (false≢true l)
leaving_edge g a i (Some e) s l = (e, s, eqb-true e.from a l)

pub inner_edge : (g : Graph) (i : ℕ) (e : Edge) → IsSound g → slice_get g.edges i ≡ Some e → IsInner g.files g.headers e
inner_edge g i e sound s =
    let P : Edge → Type 0 = λ x. IsInner g.files g.headers x in
    subst P (get_or_from_slice_get g.edges i e e s) (All-get_or P g.edges i e (slice_get_within g.edges i e s) sound.inner)

-- no edge leaves a header
pub before_header : (g : Graph) (a i : ℕ) → IsSound g → leaves g a i ≡ true → is_member a g.headers ≡ false
before_header g a i sound l =
    let e = leaving_edge g a i _ refl l in
    ap (λ (f : ℕ). is_member f g.headers) (sym e.2) ∙ (inner_edge g i e.0 sound e.1).before

other_than : (headers : List ℕ) (h a : ℕ) → is_member h headers ≡ true → is_member a headers ≡ false → a ≡ h → ⊥
other_than headers h a is none same = false≢true (sym none ∙ ap (λ (f : ℕ). is_member f headers) same ∙ is)

-- so a walk that ends elsewhere does not visit one
pub header_apart : (g : Graph) (h a : ℕ) (p : List ℕ) (b : ℕ) → IsSound g → is_member h g.headers ≡ true → is_walk g a p b ≡ true → is_member b g.headers ≡ false
    → is_member h (files_on g a p) ≡ false
header_apart g h a [] b sound is w d =
    or_from (a == h) false (ne_eqb a h (other_than g.headers h a is (ap (λ (f : ℕ). is_member f g.headers) (eqb-true a b w) ∙ d))) refl
header_apart g h a (i ∷ is) b sound there w d =
    let parts = and_parts (leaves g a i) (is_walk g (target g i) is b) w in
    or_from (a == h) (is_member h (files_on g (target g i) is)) (ne_eqb a h (other_than g.headers h a there (before_header g a i sound parts.0)))
    (header_apart g h (target g i) is b sound there parts.1 d)

---- chains

-- a chain with its ends
pub record IsChainOf (g : Graph) (is : List ℕ) : Type 0 where
  -- it begins at a source
  pub source : ℕ
  pub begins : is_member source g.sources ≡ true
  -- and ends at a header
  pub header : ℕ
  pub ends : is_member header g.headers ≡ true
  -- to which it leads
  pub walk : is_walk g source is header ≡ true
  -- and visits no file twice
  pub distinct : is_distinct (files_on g source is) ≡ true

pub chain_parts : (g : Graph) (is : List ℕ) → is_chain g is ≡ true → IsChainOf g is
chain_parts g is chain =
    let s = any_member (is_chain_from g is) g.sources chain in
    let parts = and_parts (list_any (is_walk g s.0 is) g.headers) (is_distinct (files_on g s.0 is)) s.2 in
    let h = any_member (is_walk g s.0 is) g.headers parts.0 in
    record { source = s.0; begins = s.1; header = h.0; ends = h.1; walk = h.2; distinct = parts.1 }

pub chain_of : (g : Graph) (is : List ℕ) → IsChainOf g is → is_chain g is ≡ true
chain_of g is c =
    any_by (is_chain_from g is) g.sources c.source c.begins
    (and_from (list_any (is_walk g c.source is) g.headers) (is_distinct (files_on g c.source is)) (any_by (is_walk g c.source is) g.headers c.header c.ends c.walk) c.distinct)

-- the edges of a walk are edges of the graph
walk-within : (g : Graph) (a : ℕ) (p : List ℕ) (b : ℕ) → is_walk g a p b ≡ true → All (λ i. i < length g.edges) p
walk-within g a [] b w = All-nil (λ i. i < length g.edges)
walk-within g a (i ∷ is) b w =
    let parts = and_parts (leaves g a i) (is_walk g (target g i) is b) w in
    let e = leaving_edge g a i _ refl parts.0 in
    All-cons (λ j. j < length g.edges) i is (slice_get_within g.edges i e.0 e.1) (walk-within g (target g i) is b parts.1)

-- and so are those of a chain
pub chain-within : (g : Graph) (p : List ℕ) → is_chain g p ≡ true → All (λ i. i < length g.edges) p
chain-within g p c = let parts = chain_parts g p c in walk-within g parts.source p parts.header parts.walk
