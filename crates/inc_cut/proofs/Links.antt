-- Which files walks over some edges reach, as a test: a walk goes over an edge of the list, or it does not.
use Rattle.std.proofs.Common.{◌≡◌, ℕ, ◌<◌, Bool, true, false, List, [], ◌∷◌, ◌++◌, length, filter, inl, inr, refl, sym, ap, ◌∙◌, arith}
use Rattle.std.specs.Prelude.{◌==◌, not, ◌&&◌, ◌||◌, ◌⊎◌}
use Rattle.std.specs.List.{list_any}
use Rattle.std.specs.Option.{option_map_or}
use Rattle.std.proofs.lemmas.Bool.{cases_eq, false≢true, eq-eqb, eqb-true, and_parts, and_from, or_cases, or_left, or_right, or_from, not_from_false, not-true, false_from_ne_true, both_ways}
use Rattle.inc_graph.specs.IncludeGraph.{Edge, Graph}
use Rattle.inc_graph.specs.Chains.{target, leaves, is_walk}
use Rattle.inc_graph.specs.Members.{is_member}
use Rattle.inc_graph.specs.Cuts.{meets, IsNear}
use Rattle.inc_cut.specs.Flows.{source_of, edge_numbers}
use Rattle.inc_cut.proofs.StepLists.{at_of, from_at}
use Rattle.inc_cut.proofs.SideLemmas.{source_at, member_range, range_member, meets_at}
use Rattle.inc_graph.proofs.Members.{any_member, any_by}

-- from a file to a file over edges of the list
abbrev pub links : Graph → List ℕ → ℕ → ℕ → Bool
links g [] a b = a == b
links g (e ∷ es) a b = links g es a b || (links g es a (source_of g e) && links g es (target g e) b)

-- a walk over edges of the list
pub record IsLinked (g : Graph) (es : List ℕ) (a b : ℕ) : Type 0 where
  pub walk : List ℕ
  pub real : is_walk g a walk b ≡ true
  pub among : (i : ℕ) → is_member i walk ≡ true → is_member i es ≡ true

pub leaves_source : (g : Graph) (i : ℕ) → i < length g.edges → leaves g (source_of g i) i ≡ true
leaves_source g i low =
    let x = at_of g.edges i low in
    ap (λ o. option_map_or (λ (e : Edge). e.from == source_of g i) o false) x.1 ∙ eq-eqb x.0.from (source_of g i) (sym (from_at g i x.0 x.1))

pub walk_append : (g : Graph) (a c b : ℕ) (v w : List ℕ) → is_walk g a v c ≡ true → is_walk g c w b ≡ true → is_walk g a (v ++ w) b ≡ true
walk_append g a c b [] w first second = ap (λ (f : ℕ). is_walk g f w b) (eqb-true a c first) ∙ second
walk_append g a c b (i ∷ is) w first second =
    let p = and_parts (leaves g a i) (is_walk g (target g i) is c) first in
    and_from (leaves g a i) (is_walk g (target g i) (is ++ w) b) p.0 (walk_append g (target g i) c b is w p.1 second)

pub member_append : (i : ℕ) (v w : List ℕ) → is_member i (v ++ w) ≡ true → (is_member i v ≡ true) ⊎ (is_member i w ≡ true)
member_append i [] w met = inr met
member_append i (x ∷ xs) w met = elim (or_cases (x == i) (is_member i (xs ++ w)) met) [
  | inl here ↦ inl (or_left (x == i) (is_member i xs) here)
  | inr later ↦ elim (member_append i xs w later) [
    | inl first ↦ inl (or_right (x == i) (is_member i xs) first)
    | inr second ↦ inr second
  ]
]

pub linked_from : (g : Graph) (es : List ℕ) → ((i : ℕ) → is_member i es ≡ true → i < length g.edges) → (a b : ℕ) → links g es a b ≡ true → IsLinked g es a b
linked_from g [] low a b is = record { walk = []; real = is; among = λ i met. met }
linked_from g (e ∷ es) low a b is =
    let lower : (i : ℕ) → is_member i es ≡ true → i < length g.edges = λ i met. low i (or_right (e == i) (is_member i es) met) in
    elim (or_cases (links g es a b) _ is) [
      | inl without ↦
          let w = linked_from g es lower a b without in
          record { walk = w.walk; real = w.real; among = λ i met. or_right (e == i) (is_member i es) (w.among i met) }
      | inr over ↦
          let p = and_parts (links g es a (source_of g e)) (links g es (target g e) b) over in
          let v = linked_from g es lower a (source_of g e) p.0 in
          let w = linked_from g es lower (target g e) b p.1 in
          record {
            walk = v.walk ++ e ∷ w.walk;
            real = walk_append g a (source_of g e) b v.walk (e ∷ w.walk) v.real
                (and_from (leaves g (source_of g e) e) _ (leaves_source g e (low e (or_left (e == e) _ (eq-eqb e e refl)))) w.real);
            among = λ i met. elim (member_append i v.walk (e ∷ w.walk) met) [
              | inl first ↦ or_right (e == i) (is_member i es) (v.among i first)
              | inr second ↦ elim (or_cases (e == i) (is_member i w.walk) second) [
                | inl here ↦ or_left (e == i) (is_member i es) here
                | inr later ↦ or_right (e == i) (is_member i es) (w.among i later)
              ]
            ];
          }
    ]

-- the test for one edge less holds of its walks, so the test holds of walks over one more
over_more : (g : Graph) (e : ℕ) (es : List ℕ) → ((a b : ℕ) → links g es a b ≡ true → IsLinked g es a b)
    → ((a b : ℕ) (w : List ℕ) → is_walk g a w b ≡ true → ((i : ℕ) → is_member i w ≡ true → is_member i es ≡ true) → links g es a b ≡ true)
    → (a b : ℕ) (w : List ℕ) → is_walk g a w b ≡ true → ((i : ℕ) → is_member i w ≡ true → is_member i (e ∷ es) ≡ true) → links g (e ∷ es) a b ≡ true
over_more g e es sound whole a b [] walk among = or_left (links g es a b) _ (whole a b [] walk (λ i met. absurd (false≢true met)))
over_more g e es sound whole a b (x ∷ xs) walk among =
    let p = and_parts (leaves g a x) (is_walk g (target g x) xs b) walk in
    let rest = over_more g e es sound whole (target g x) b xs p.1 (λ i met. among i (or_right (x == i) (is_member i xs) met)) in
    let from = (source_at g a x p.0).0 in
    elim (cases_eq e x) [
      | inl is ↦
          let begins : a ≡ source_of g e = sym (ap (source_of g) is ∙ from) in
          let ends : links g es (target g e) b ≡ true = elim (or_cases (links g es (target g x) b) _ rest) [
            | inl without ↦ ap (λ (i : ℕ). links g es (target g i) b) is ∙ without
            | inr over ↦ (and_parts (links g es (target g x) (source_of g e)) (links g es (target g e) b) over).1
          ] in
          or_right (links g es a b) _ (and_from (links g es a (source_of g e)) _ (whole a (source_of g e) [] (eq-eqb a (source_of g e) begins) (λ i met. absurd (false≢true met))) ends)
      | inr other ↦
          let there : is_member x es ≡ true = elim (or_cases (e == x) (is_member x es) (among x (or_left (x == x) _ (eq-eqb x x refl)))) [
            | inl same ↦ absurd (other (eqb-true e x same))
            | inr later ↦ later
          ] in
          let before : (c : ℕ) → links g es (target g x) c ≡ true → links g es a c ≡ true = λ c linked.
          let w = sound (target g x) c linked in
          whole a c (x ∷ w.walk) (and_from (leaves g a x) _ p.0 w.real) (λ i met. elim (or_cases (x == i) (is_member i w.walk) met) [
            | inl here ↦ ap (λ (n : ℕ). is_member n es) (sym (eqb-true x i here)) ∙ there
            | inr later ↦ w.among i later
          ]) in
          elim (or_cases (links g es (target g x) b) _ rest) [
            | inl without ↦ or_left (links g es a b) _ (before b without)
            | inr over ↦
                let q = and_parts (links g es (target g x) (source_of g e)) (links g es (target g e) b) over in
                or_right (links g es a b) _ (and_from (links g es a (source_of g e)) _ (before (source_of g e) q.0) q.1)
          ]
    ]

pub from_linked : (g : Graph) (es : List ℕ) → ((i : ℕ) → is_member i es ≡ true → i < length g.edges)
    → (a b : ℕ) (w : List ℕ) → is_walk g a w b ≡ true → ((i : ℕ) → is_member i w ≡ true → is_member i es ≡ true) → links g es a b ≡ true
from_linked g [] low a b [] walk among = walk
from_linked g [] low a b (x ∷ xs) walk among = absurd (false≢true (among x (or_left (x == x) _ (eq-eqb x x refl))))
from_linked g (e ∷ es) low a b w walk among =
    let lower : (i : ℕ) → is_member i es ≡ true → i < length g.edges = λ i met. low i (or_right (e == i) (is_member i es) met) in
    over_more g e es (linked_from g es lower) (from_linked g es lower) a b w walk among

---- the near side of a set

-- the edges outside a set
abbrev pub outside : Graph → List ℕ → List ℕ
outside g set = filter (λ i. not (is_member i set)) (edge_numbers g)

-- walks from a source outside the set reach the file
abbrev pub near : Graph → List ℕ → ℕ → Bool
near g set f = list_any (λ a. links g (outside g set) a f) g.sources

outside_low : (g : Graph) (set : List ℕ) (i : ℕ) → is_member i (outside g set) ≡ true → i < length g.edges
outside_low g set i met = let r = range_member (λ j. not (is_member j set)) i 0 (length g.edges) met in omega (arith, r.2)

pub no_meeting : (w set : List ℕ) → ((i : ℕ) → is_member i w ≡ true → is_member i set ≡ false) → meets w set ≡ false
no_meeting w set apart = go w apart
  where
    go : (v : List ℕ) → ((i : ℕ) → is_member i v ≡ true → is_member i set ≡ false) → list_any (λ i. is_member i set) v ≡ false
    go [] each = refl
    go (x ∷ xs) each =
        or_from (is_member x set) _ (each x (or_left (x == x) _ (eq-eqb x x refl))) (go xs (λ i met. each i (or_right (x == i) (is_member i xs) met)))

walk_low : (g : Graph) (a b : ℕ) (w : List ℕ) (i : ℕ) → is_walk g a w b ≡ true → is_member i w ≡ true → i < length g.edges
walk_low g a b [] i walk met = absurd (false≢true met)
walk_low g a b (x ∷ xs) i walk met =
    let p = and_parts (leaves g a x) (is_walk g (target g x) xs b) walk in
    elim (or_cases (x == i) (is_member i xs) met) [
      | inl here ↦ let same = eqb-true x i here in let low = (source_at g a x p.0).1 in omega arith
      | inr later ↦ walk_low g (target g x) b xs i p.1 later
    ]

pub near_to : (g : Graph) (set : List ℕ) (f : ℕ) → near g set f ≡ true → IsNear g set f
near_to g set f is =
    let s = any_member (λ a. links g (outside g set) a f) g.sources is in
    let w = linked_from g (outside g set) (outside_low g set) s.0 f s.2 in
    record {
      source = s.0;
      among = s.1;
      walk = w.walk;
      real = w.real;
      outside = not_from_false (meets w.walk set) (no_meeting w.walk set (λ i met.
          not-true (is_member i set) (range_member (λ j. not (is_member j set)) i 0 (length g.edges) (w.among i met)).0));
    }

pub near_from : (g : Graph) (set : List ℕ) (f : ℕ) → IsNear g set f → near g set f ≡ true
near_from g set f n =
    any_by (λ a. links g (outside g set) a f) g.sources n.source n.among (from_linked g (outside g set) (outside_low g set) n.source f n.walk n.real (λ i met.
    let low = walk_low g n.source f n.walk i n.real met in
    member_range (λ j. not (is_member j set)) i 0 (length g.edges) (omega arith) (omega arith)
    (not_from_false (is_member i set) (false_from_ne_true (is_member i set) (λ there.
    both_ways (meets n.walk set) (not-true (meets n.walk set) n.outside) (meets_at i n.walk set met there))))))
