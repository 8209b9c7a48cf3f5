-- Going over the edges of a graph that pass a test, in order of their numbers.
use Rattle.std.proofs.Common.{◌≡◌, ℕ, ◌+◌, ◌-◌, ◌<◌, ◌≤◌, Bool, true, false, List, [], ◌∷◌, Some, length, get_or, filter, zero-add, zero, suc, inl, inr, refl, sym, ap, ◌∙◌, subst, arith}
use Rattle.std.specs.Prelude.{slice_get}
use Rattle.std.proofs.lemmas.Bool.{cases_Bool, cases_eq, cond-true, cond-false}
use Rattle.std.proofs.lemmas.Option.{none-some, same_Some}
use Rattle.inc_graph.specs.declared.graphs.Edge as declared
use Rattle.inc_graph.specs.IncludeGraph.{Edge}
use Rattle.inc_graph.specs.Views.{seen_edge, numbered_from, numbered}

abbrev pub with_number : ℕ → Edge → declared.Edge
with_number i e = record { id = i; from = e.from; to = e.to; line = e.line }

-- the edges with at least this number that pass
pub record AreFrom (all : List Edge) (p : declared.Edge → Bool) (n : ℕ) (items : List declared.Edge) : Type 0 where
  pub edges : List Edge
  pub are : items ≡ filter p (numbered_from n edges)
  pub each : (j : ℕ) → slice_get edges j ≡ slice_get all (n + j)

-- the first of them, and those after it
pub record IsFirstFrom (all : List Edge) (p : declared.Edge → Bool) (n : ℕ) (e : declared.Edge) (rest : List declared.Edge) : Type 0 where
  -- its number is not below this one
  pub next : n ≤ e.id
  -- it is the edge with its number
  pub at : slice_get all e.id ≡ Some (seen_edge e)
  -- it passes the test
  pub passes : p e ≡ true
  -- no edge passes between this number and its own
  pub between : (i : ℕ) (x : Edge) → n ≤ i → i < e.id → slice_get all i ≡ Some x → p (with_number i x) ≡ false
  -- the others are those after it
  pub rest_from : AreFrom all p (e.id + 1) rest

pub from_first : (all : List Edge) (p : declared.Edge → Bool) → AreFrom all p 0 (filter p (numbered all))
from_first all p = record { edges = all; are = refl; each = λ j. rw zero-add refl }

pub shifted : (all : List Edge) (n : ℕ) (x : Edge) (xs : List Edge) → ((j : ℕ) → slice_get (x ∷ xs) j ≡ slice_get all (n + j)) → (j : ℕ) → slice_get xs j ≡ slice_get all (n + 1 + j)
shifted all n x xs each j = let e : n + suc j ≡ n + 1 + j = omega arith in each (suc j) ∙ ap (slice_get all) e

pub head_at : (all : List Edge) (n : ℕ) (x : Edge) (xs : List Edge) → ((j : ℕ) → slice_get (x ∷ xs) j ≡ slice_get all (n + j)) → slice_get all n ≡ Some x
head_at all n x xs each = let e : n ≡ n + 0 = omega arith in ap (slice_get all) e ∙ sym (each 0)

pub first_from : (all : List Edge) (p : declared.Edge → Bool) (n : ℕ) (e : declared.Edge) (rest : List declared.Edge) (edges : List Edge)
    → ((j : ℕ) → slice_get edges j ≡ slice_get all (n + j)) → e ∷ rest ≡ filter p (numbered_from n edges) → IsFirstFrom all p n e rest
first_from all p n e rest [] each are = cc
first_from all p n e rest (x ∷ xs) each are =
    elim (cases_Bool (p (with_number n x))) [
      | inl passes ↦
          let parts : e ∷ rest ≡ with_number n x ∷ filter p (numbered_from (n + 1) xs) = are ∙ cond-true (p (with_number n x)) _ _ passes in
          let is : with_number n x ≡ e = cc in
          let behind : rest ≡ filter p (numbered_from (n + 1) xs) = cc in
          let first : IsFirstFrom all p n (with_number n x) rest = record {
            next = omega arith;
            at = head_at all n x xs each;
            passes = passes;
            between = λ i y low less at. absurd (omega arith);
            rest_from = record { edges = xs; are = behind; each = shifted all n x xs each };
          } in
          subst (λ (y : declared.Edge). IsFirstFrom all p n y rest) is first
      | inr fails ↦
          let further = first_from all p (n + 1) e rest xs (shifted all n x xs each) (are ∙ cond-false (p (with_number n x)) _ _ fails) in
          let next = further.next in
          record {
            next = omega arith;
            at = further.at;
            passes = further.passes;
            between = λ i y low less at. elim (cases_eq n i) [
              | inl is ↦
                  let same : x ≡ y = same_Some x y (sym (head_at all n x xs each) ∙ ap (slice_get all) is ∙ at) in
                  rw (← is, ← same) fails
              | inr other ↦ further.between i y (omega arith) less at
            ];
            rest_from = further.rest_from;
          }
    ]

pub none_from : (all : List Edge) (p : declared.Edge → Bool) (n : ℕ) (edges : List Edge)
    → ((j : ℕ) → slice_get edges j ≡ slice_get all (n + j)) → [] ≡ filter p (numbered_from n edges)
    → (i : ℕ) (x : Edge) → n ≤ i → slice_get all i ≡ Some x → p (with_number i x) ≡ false
none_from all p n [] each are i x low at =
    let k : ℕ = i - n in
    let e : n + k ≡ i = omega arith in
    absurd (none-some x (each k ∙ ap (slice_get all) e ∙ at))
none_from all p n (y ∷ ys) each are i x low at =
    elim (cases_Bool (p (with_number n y))) [
      | inl passes ↦ let parts : [] ≡ with_number n y ∷ filter p (numbered_from (n + 1) ys) = are ∙ cond-true (p (with_number n y)) _ _ passes in cc
      | inr fails ↦
          elim (cases_eq n i) [
            | inl is ↦
                let same : y ≡ x = same_Some y x (sym (head_at all n y ys each) ∙ ap (slice_get all) is ∙ at) in
                rw (← is, ← same) fails
            | inr other ↦ none_from all p (n + 1) ys (shifted all n y ys each) (are ∙ cond-false (p (with_number n y)) _ _ fails) i x (omega arith) at
          ]
    ]

-- an edge by its number
pub numbered_from-at : (n : ℕ) (edges : List Edge) (i : ℕ) (e : declared.Edge) → i < length edges → e ≡ get_or (numbered_from n edges) i e → slice_get edges i ≡ Some (seen_edge e)
numbered_from-at n [] i e low is = absurd (omega arith)
numbered_from-at n (x ∷ xs) zero e low is = ap (λ (d : declared.Edge). Some (seen_edge d)) (sym is)
numbered_from-at n (x ∷ xs) (suc i) e low is = numbered_from-at (n + 1) xs i e (omega arith) is

pub length-numbered_from : (n : ℕ) (edges : List Edge) → length (numbered_from n edges) ≡ length edges
length-numbered_from n [] = refl
length-numbered_from n (x ∷ xs) = let rest = length-numbered_from (n + 1) xs in omega arith

pub numbered_at : (n : ℕ) (edges : List Edge) (i : ℕ) (x : Edge) (d : declared.Edge) → slice_get edges i ≡ Some x → get_or (numbered_from n edges) i d ≡ with_number (n + i) x
numbered_at n [] i x d at = absurd (none-some x at)
numbered_at n (y ∷ ys) zero x d at =
    let same : y ≡ x = same_Some y x at in
    let e : n ≡ n + 0 = omega arith in
    ap (with_number n) same ∙ ap (λ (k : ℕ). with_number k x) e
numbered_at n (y ∷ ys) (suc i) x d at =
    let e : n + 1 + i ≡ n + suc i = omega arith in
    numbered_at (n + 1) ys i x d at ∙ ap (λ (k : ℕ). with_number k x) e
