-- Chains, an edge at a time: the first from a source, each other from where the last one led, to a file that was not visited.
use Rattle.std.proofs.Common.{◌≡◌, ℕ, ◌<◌, ◌≤◌, Bool, true, false, List, [], ◌∷◌, ◌||◌, Option, Some, length, get_or, set, map, refl, sym, ap, subst, ◌∙◌, inl, inr, arith, get_or-set_same, get_or-set_other, length-set}
use Rattle.std.specs.Prelude.{◌==◌, ◌&&◌, not, slice_get}
use Rattle.std.specs.List.{All, list_any, list_all}
use Rattle.std.specs.Option.{option_map_or}
use Rattle.std.proofs.lemmas.Bool.{cases_eq, eq-eqb, ne_eqb, and_parts, false_from_ne_true, true≢false}
use Rattle.std.proofs.lemmas.Option.{same_Some}
use Rattle.inc_graph.specs.declared.graphs.Edge as declared
use Rattle.inc_graph.specs.IncludeGraph.{Edge, Graph}
use Rattle.inc_graph.specs.Chains.{target, leaves, is_walk, is_chain_from, is_chain}
use Rattle.inc_graph.specs.Members.{is_member, is_distinct}
use Rattle.inc_graph.proofs.Members.{any_member, any_by}
use Rattle.inc_graph.proofs.UnknownMarks.{eq_sym}
use Rattle.inc_graph.proofs.Walks.{leaving_edge, chain_parts}
use Rattle.inc_check.specs.Checking.{goes_on}

---- a chain is one that goes on from a source

and_true : (b : Bool) → (b && true) ≡ b
and_true true = refl
and_true false = refl

-- none of the numbers is in the other list
abbrev pub apart : (seen ns : List ℕ) → Bool
apart seen ns = list_all (λ n. not (is_member n seen)) ns

apart_head : (x a b r s : Bool) → (not a && r) ≡ s → (not (x || a) && (not b && r)) ≡ (not (x || b) && s)
apart_head true a b r s e = refl
apart_head false true true r s e = refl
apart_head false true false r s e = e
apart_head false false true r s e = refl
apart_head false false false r s e = e

apart_cons : (t : ℕ) (seen ns : List ℕ) → (not (is_member t ns) && apart seen ns) ≡ apart (t ∷ seen) ns
apart_cons t seen [] = refl
apart_cons t seen (n ∷ ns) =
    ap (λ b. not (b || is_member t ns) && (not (is_member n seen) && apart seen ns)) (eq_sym n t)
    ∙ apart_head (t == n) (is_member t ns) (is_member n seen) (apart seen ns) (apart (t ∷ seen) ns) (apart_cons t seen ns)

regroup : (l w n d m a : Bool) → ((l && w) && ((n && d) && (m && a))) ≡ (l && (m && (w && (d && (n && a)))))
regroup false w n d m a = refl
regroup true false n d true a = refl
regroup true false n d false a = refl
regroup true true true true true a = refl
regroup true true true true false a = refl
regroup true true true false true a = refl
regroup true true true false false a = refl
regroup true true false true true a = refl
regroup true true false true false a = refl
regroup true true false false true a = refl
regroup true true false false false a = refl

-- walks to one of these files, an edge at a time
ends_none : (a : ℕ) (hs : List ℕ) → list_any (λ h. a == h) hs ≡ is_member a hs
ends_none a [] = refl
ends_none a (h ∷ hs) = ap (λ b. b || list_any (λ x. a == x) hs) (eq_sym a h) ∙ ap (λ b. (h == a) || b) (ends_none a hs)

any_and : (l : Bool) (p : ℕ → Bool) (hs : List ℕ) → list_any (λ h. l && p h) hs ≡ (l && list_any p hs)
any_and true p hs = refl
any_and false p [] = refl
any_and false p (h ∷ hs) = any_and false p hs

goes_on_is : (g : Graph) (seen : List ℕ) (a : ℕ) (is : List ℕ) → (list_any (is_walk g a is) g.headers && (is_distinct (map (target g) is) && apart seen (map (target g) is))) ≡ goes_on g seen a is
goes_on_is g seen a [] = ap (λ b. b && true) (ends_none a g.headers) ∙ and_true (is_member a g.headers)
goes_on_is g seen a (i ∷ is) =
    let t : ℕ = target g i in
    let ns : List ℕ = map (target g) is in
    let w : Bool = list_any (is_walk g t is) g.headers in
    ap (λ b. b && (is_distinct (t ∷ ns) && apart seen (t ∷ ns))) (any_and (leaves g a i) (is_walk g t is) g.headers)
    ∙ regroup (leaves g a i) w (not (is_member t ns)) (is_distinct ns) (not (is_member t seen)) (apart seen ns)
    ∙ ap (λ b. leaves g a i && (not (is_member t seen) && (w && (is_distinct ns && b)))) (apart_cons t seen ns)
    ∙ ap (λ b. leaves g a i && (not (is_member t seen) && b)) (goes_on_is g (t ∷ seen) t is)

apart_none : (ns : List ℕ) → apart [] ns ≡ true
apart_none [] = refl
apart_none (n ∷ ns) = apart_none ns

swap_and : (a b : Bool) → (a && b) ≡ (b && a)
swap_and true true = refl
swap_and true false = refl
swap_and false true = refl
swap_and false false = refl

chain_goes_on : (g : Graph) (a : ℕ) (is : List ℕ) → is_chain_from g is a ≡ goes_on g (a ∷ []) a is
chain_goes_on g a is =
    let ns : List ℕ = map (target g) is in
    ap (λ b. list_any (is_walk g a is) g.headers && b)
    (swap_and (not (is_member a ns)) (is_distinct ns)
    ∙ ap (λ b. is_distinct ns && b) (sym (and_true (not (is_member a ns))) ∙ ap (λ b. not (is_member a ns) && b) (sym (apart_none ns)) ∙ apart_cons a [] ns))
    ∙ goes_on_is g (a ∷ []) a is

both_tests : (a b : Bool) → (a ≡ true → b ≡ true) → (b ≡ true → a ≡ true) → a ≡ b
both_tests true b to from = sym (to refl)
both_tests false true to from = from refl
both_tests false false to from = refl

-- an edge leaves one file
one_file : (g : Graph) (a b i : ℕ) → leaves g a i ≡ true → leaves g b i ≡ true → a ≡ b
one_file g a b i from_a from_b =
    let x = leaving_edge g a i _ refl from_a in
    let y = leaving_edge g b i _ refl from_b in
    let same : x.0 ≡ y.0 = same_Some x.0 y.0 (sym x.1 ∙ y.1) in
    sym x.2 ∙ ap (λ (e : Edge). e.from) same ∙ y.2

-- edges of which the first leaves a source
pub chain_first : (g : Graph) (a i : ℕ) (rest : List ℕ) → is_member a g.sources ≡ true → leaves g a i ≡ true → is_chain g (i ∷ rest) ≡ goes_on g (a ∷ []) a (i ∷ rest)
chain_first g a i rest among from =
    both_tests (is_chain g (i ∷ rest)) (is_chain_from g (i ∷ rest) a)
    (λ is.
    let s = any_member (is_chain_from g (i ∷ rest)) g.sources is in
    let walk = any_member (is_walk g s.0 (i ∷ rest)) g.headers (and_parts (list_any (is_walk g s.0 (i ∷ rest)) g.headers) _ s.2).0 in
    let same = one_file g s.0 a i (and_parts (leaves g s.0 i) _ walk.2).0 from in
    ap (is_chain_from g (i ∷ rest)) (sym same) ∙ s.2)
    (λ is. any_by (is_chain_from g (i ∷ rest)) g.sources a among is)
    ∙ chain_goes_on g a (i ∷ rest)

-- and one that leaves none begins no chain
pub no_chain_first : (g : Graph) (i : ℕ) (rest : List ℕ) → ((s : ℕ) → is_member s g.sources ≡ true → leaves g s i ≡ false) → is_chain g (i ∷ rest) ≡ false
no_chain_first g i rest none = false_from_ne_true (is_chain g (i ∷ rest)) (λ is.
    let c = chain_parts g (i ∷ rest) is in
    true≢false (sym (and_parts (leaves g c.source i) _ c.walk).0 ∙ none c.source c.begins))

---- the stamps of files

-- the file has the stamp
abbrev pub is_stamped : List ℕ → ℕ → ℕ → Bool
is_stamped stamps stamp f = get_or stamps f 0 == stamp

pub all_set : (stamps : List ℕ) (f stamp : ℕ) → All (λ s. s ≤ stamp) stamps → All (λ s. s ≤ stamp) (set stamps f stamp)
all_set stamps f stamp low k d within =
    let here : k < length stamps = let l = length-set stamps f stamp in omega arith in
    elim (cases_eq k f) [
      | inl same ↦
          let P : ℕ → Type 0 = λ s. s ≤ stamp in
          let inside : f < length stamps = omega arith in
          subst P (sym (ap (λ (j : ℕ). get_or (set stamps f stamp) j d) same ∙ get_or-set_same stamps f stamp d inside)) (omega arith)
      | inr other ↦
          let P : ℕ → Type 0 = λ s. s ≤ stamp in
          subst P (sym (get_or-set_other stamps f k stamp d other)) (low k d here)
    ]

pub stamped_set : (stamps : List ℕ) (stamp f k : ℕ) (seen : List ℕ) → f < length stamps → is_stamped stamps stamp k ≡ is_member k seen → is_stamped (set stamps f stamp) stamp k ≡ is_member k (f ∷ seen)
stamped_set stamps stamp f k seen inside so_far =
    elim (cases_eq k f) [
      | inl same ↦
          ap (λ (j : ℕ). is_stamped (set stamps f stamp) stamp j) same ∙ ap (λ (s : ℕ). s == stamp) (get_or-set_same stamps f stamp 0 inside) ∙ eq-eqb stamp stamp refl
          ∙ sym (ap (λ b. b || is_member k seen) (eq-eqb f k (sym same)))
      | inr other ↦
          ap (λ (s : ℕ). s == stamp) (get_or-set_other stamps f k stamp 0 other) ∙ so_far ∙ sym (ap (λ b. b || is_member k seen) (ne_eqb f k (λ q. other (sym q))))
    ]

---- one more edge

-- the edge with this number, as it is read
pub record IsEdgeAt (g : Graph) (i : ℕ) (e : declared.Edge) : Type 0 where
  pub at : slice_get g.edges i ≡ Some (record { from = e.from; to = e.to; line = e.line })

pub leaves_is : (g : Graph) (i at : ℕ) (e : declared.Edge) → IsEdgeAt g i e → leaves g at i ≡ (e.from == at)
leaves_is g i at e is = ap (λ (o : Option Edge). option_map_or (λ (x : Edge). x.from == at) o false) is.at

pub target_is : (g : Graph) (i : ℕ) (e : declared.Edge) → IsEdgeAt g i e → target g i ≡ e.to
target_is g i e is = ap (λ (o : Option Edge). option_map_or (λ (x : Edge). x.to) o 0) is.at

-- what is left begins with this edge
pub step_is : (g : Graph) (seen : List ℕ) (at i : ℕ) (e : declared.Edge) (rest : List ℕ) → IsEdgeAt g i e
    → goes_on g seen at (i ∷ rest) ≡ ((e.from == at) && (not (is_member e.to seen) && goes_on g (e.to ∷ seen) e.to rest))
step_is g seen at i e rest is =
    ap (λ b. b && (not (is_member (target g i) seen) && goes_on g (target g i ∷ seen) (target g i) rest)) (leaves_is g i at e is)
    ∙ ap (λ (t : ℕ). (e.from == at) && (not (is_member t seen) && goes_on g (t ∷ seen) t rest)) (target_is g i e is)
