-- The numbers that the edges of a part have in the whole graph.
use Rattle.std.proofs.Common.{◌≡◌, ℕ, zero, suc, ◌+◌, ◌<◌, Bool, true, false, cond, List, [], ◌∷◌, Option, Some, All, length, get_or, refl, sym, ap, ◌∙◌, subst, arith}
use Rattle.std.specs.Prelude.{filter, map, slice_get}
use Rattle.std.specs.List.{range_with_len}
use Rattle.std.specs.Option.{option_map_or}
use Rattle.std.proofs.lemmas.List.Elements.{All-nil, All-cons}
use Rattle.std.proofs.lemmas.Option.{slice_get_within}
use Rattle.inc_graph.specs.Between.{kept_of, leaves_none, numbers_between}
use Rattle.inc_graph.specs.declared.graphs.Edge as declared
use Rattle.inc_graph.specs.IncludeGraph.{Edge, Graph}
use Rattle.inc_graph.specs.Views.{seen_edge, numbered_from, numbered}
use Rattle.inc_graph.proofs.NumberedEdges.{head_at, shifted, with_number}

---- edges by numbers

-- at each of the numbers stands the edge at its place of the other list
abbrev AreThere : (all : List Edge) → List ℕ → List Edge → Type 0
AreThere all [] [] = Unit {0}
AreThere all (n ∷ ns) (f ∷ fs) = (slice_get all n ≡ Some f) × AreThere all ns fs
AreThere all (n ∷ ns) [] = ⊥
AreThere all [] (f ∷ fs) = ⊥

there_long : (all : List Edge) (ns : List ℕ) (fs : List Edge) → AreThere all ns fs → length ns ≡ length fs
there_long all [] [] t = refl
there_long all (n ∷ ns) (f ∷ fs) t = let rest = there_long all ns fs t.1 in omega arith
there_long all (n ∷ ns) [] t = absurd t
there_long all [] (f ∷ fs) t = absurd t

there_at : (all : List Edge) (ns : List ℕ) (fs : List Edge) (k : ℕ) → AreThere all ns fs → k < length fs → slice_get fs k ≡ slice_get all (get_or ns k 0)
there_at all [] [] k t low = absurd (omega arith)
there_at all (n ∷ ns) (f ∷ fs) zero t low = sym t.0
there_at all (n ∷ ns) (f ∷ fs) (suc k) t low = there_at all ns fs k t.1 (omega arith)
there_at all (n ∷ ns) [] k t low = absurd t
there_at all [] (f ∷ fs) k t low = absurd t

there_within : (all : List Edge) (ns : List ℕ) (fs : List Edge) → AreThere all ns fs → All (λ i. i < length all) ns
there_within all [] [] t = All-nil (λ i. i < length all)
there_within all (n ∷ ns) (f ∷ fs) t = All-cons (λ i. i < length all) n ns (slice_get_within all n f t.0) (there_within all ns fs t.1)
there_within all (n ∷ ns) [] t = absurd t
there_within all [] (f ∷ fs) t = absurd t

---- the numbers of the edges that pass a test

abbrev passes_at : (all : List Edge) → (Edge → Bool) → ℕ → Bool
passes_at all p i = option_map_or p (slice_get all i) false

there_cond : (all : List Edge) (b : Bool) (n : ℕ) (ns : List ℕ) (x : Edge) (fs : List Edge) → slice_get all n ≡ Some x → AreThere all ns fs → AreThere all (cond b (n ∷ ns) ns) (cond b (x ∷ fs) fs)
there_cond all true n ns x fs at rest = (at, rest)
there_cond all false n ns x fs at rest = rest

passing_there : (all : List Edge) (p : Edge → Bool) (n : ℕ) (es : List Edge) → ((j : ℕ) → slice_get es j ≡ slice_get all (n + j))
    → AreThere all (filter (passes_at all p) (range_with_len n (length es))) (filter p es)
passing_there all p n [] each = tt
passing_there all p n (x ∷ xs) each =
    let at = head_at all n x xs each in
    let numbers : List ℕ = filter (passes_at all p) (range_with_len (n + 1) (length xs)) in
    let test : passes_at all p n ≡ p x = ap (λ (o : Option Edge). option_map_or p o false) at in
    subst (λ (b : Bool). AreThere all (cond b (n ∷ numbers) numbers) (cond (p x) (x ∷ filter p xs) (filter p xs))) (sym test)
    (there_cond all (p x) n numbers x (filter p xs) at (passing_there all p (n + 1) xs (shifted all n x xs each)))

ids_cond : (b : Bool) (y : declared.Edge) (ys : List declared.Edge) (ns : List ℕ) → map (λ (e : declared.Edge). e.id) ys ≡ ns → map (λ (e : declared.Edge). e.id) (cond b (y ∷ ys) ys) ≡ cond b (y.id ∷ ns) ns
ids_cond true y ys ns is = ap (λ (l : List ℕ). y.id ∷ l) is
ids_cond false y ys ns is = is

-- they are those that these edges hold
ids_are : (all : List Edge) (p : Edge → Bool) (n : ℕ) (es : List Edge) → ((j : ℕ) → slice_get es j ≡ slice_get all (n + j))
    → map (λ (e : declared.Edge). e.id) (filter (λ (e : declared.Edge). p (seen_edge e)) (numbered_from n es)) ≡ filter (passes_at all p) (range_with_len n (length es))
ids_are all p n [] each = refl
ids_are all p n (x ∷ xs) each =
    let numbers : List ℕ = filter (passes_at all p) (range_with_len (n + 1) (length xs)) in
    let test : passes_at all p n ≡ p x = ap (λ (o : Option Edge). option_map_or p o false) (head_at all n x xs each) in
    ids_cond (p x) (with_number n x) (filter (λ (e : declared.Edge). p (seen_edge e)) (numbered_from (n + 1) xs)) numbers (ids_are all p (n + 1) xs (shifted all n x xs each))
    ∙ ap (λ (b : Bool). cond b (n ∷ numbers) numbers) (sym test)

---- those of a part

from_none : (es : List Edge) (j : ℕ) → slice_get es j ≡ slice_get es (0 + j)
from_none es j = let same : j ≡ 0 + j = omega arith in ap (slice_get es) same

kept_there : (g : Graph) (to : List ℕ) → AreThere g.edges (numbers_between to g) (filter (leaves_none to) g.edges)
kept_there g to = passing_there g.edges (leaves_none to) 0 g.edges (from_none g.edges)

pub numbers_long : (g : Graph) (to : List ℕ) → length (numbers_between to g) ≡ length (filter (leaves_none to) g.edges)
numbers_long g to = there_long g.edges (numbers_between to g) (filter (leaves_none to) g.edges) (kept_there g to)

pub numbers_within : (g : Graph) (to : List ℕ) → All (λ i. i < length g.edges) (numbers_between to g)
numbers_within g to = there_within g.edges (numbers_between to g) (filter (leaves_none to) g.edges) (kept_there g to)

pub edge_at : (g : Graph) (to : List ℕ) (i : ℕ) → i < length (filter (leaves_none to) g.edges) → slice_get (filter (leaves_none to) g.edges) i ≡ slice_get g.edges (get_or (numbers_between to g) i 0)
edge_at g to i low = there_at g.edges (numbers_between to g) (filter (leaves_none to) g.edges) i (kept_there g to) low

pub numbers_are : (g : Graph) (to headers : List ℕ) (items : List declared.Edge) → items ≡ numbered g.edges → headers ≡ to
    → map (λ (e : declared.Edge). e.id) (kept_of headers items) ≡ numbers_between to g
numbers_are g to headers items all same =
    ap (λ (l : List declared.Edge). map (λ (e : declared.Edge). e.id) (kept_of headers l)) all
    ∙ ap (λ (l : List ℕ). map (λ (e : declared.Edge). e.id) (kept_of l (numbered g.edges))) same ∙ ids_are g.edges (leaves_none to) 0 g.edges (from_none g.edges)
