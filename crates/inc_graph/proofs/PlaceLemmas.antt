-- Places that are reached one after the other.
use Rattle.std.proofs.Common.{◌≡◌, ℕ, zero, suc, ◌+◌, ◌<◌, ◌≤◌, List, [], ◌∷◌, ◌++◌, Option, Some, length, get_or, take, map, refl, ap, sym, ◌∙◌, subst, inl, inr, add-one, arith, option_map}
use Rattle.std.specs.Prelude.{Contains, slice_get}
use Rattle.std.proofs.Math.Seq.{take-suc}
use Rattle.std.proofs.lemmas.Option.{slice_get-map, slice_get_within, slice_get-get_or, get_or_from_slice_get}
use Rattle.std.proofs.lemmas.List.{append-nil, append_assoc, map-append}
use Rattle.std.proofs.lemmas.List.Elements.{Contains-append_cases, Contains-append_left, Contains-append_right}
use Rattle.inc_lookup.specs.declared.projects.Found.{Found}
use Rattle.inc_graph.specs.IncludeGraph.{as_source}
use Rattle.inc_graph.specs.declared.building.places.Place.{Place}
use Rattle.inc_graph.specs.Places.{next_of, seen_place, Reaches}
use Rattle.inc_graph.proofs.LeadLemmas.{contains_cases, contains_nothing}

-- nothing was tried
pub reaches_none : (old : List Found) → Reaches old [] old
reaches_none old = record { more = []; grown = sym (append-nil old); from = λ at c. c; there = λ at c. absurd (contains_nothing at c) }

-- it was there
pub reaches_same : (old : List Found) (at : Found) → Contains old at → Reaches old (at ∷ []) old
reaches_same old at c = record {
  more = [];
  grown = sym (append-nil old);
  from = λ x d. absurd (contains_nothing x d);
  there = λ x d. elim (contains_cases at [] x d) [ inl is ↦ subst (λ (y : Found). Contains old y) is c | inr none ↦ absurd (contains_nothing x none) ];
}

-- it was put after the others
pub reaches_new : (old : List Found) (at : Found) → Reaches old (at ∷ []) (old ++ at ∷ [])
reaches_new old at = record { more = at ∷ []; grown = refl; from = λ x d. d; there = λ x d. Contains-append_right old (at ∷ []) x d }

pub reaches_more : (a b c xs ys : List Found) → Reaches a xs b → Reaches b ys c → Reaches a (xs ++ ys) c
reaches_more a b c xs ys r s = record {
  more = r.more ++ s.more;
  grown = s.grown ∙ ap (λ (l : List Found). l ++ s.more) r.grown ∙ append_assoc a r.more s.more;
  from = λ x d. elim (Contains-append_cases r.more s.more x d) [
    | inl first ↦ Contains-append_left xs ys x (r.from x first)
    | inr later ↦ Contains-append_right xs ys x (s.from x later)
  ];
  there = λ x d. elim (Contains-append_cases xs ys x d) [
    | inl first ↦ subst (λ (l : List Found). Contains l x) (sym s.grown) (Contains-append_left b s.more x (r.there x first))
    | inr later ↦ s.there x later
  ];
}

-- what was tried so far, and what is left of all
pub record IsReaching (old new left all : List Found) : Type 0 where
  pub tried : List Found
  pub reached : Reaches old tried new
  pub parts : tried ++ left ≡ all

pub reaching_more : (old new next xs ys all : List Found) → IsReaching old new (xs ++ ys) all → Reaches new xs next → IsReaching old next ys all
reaching_more old new next xs ys all r s = record {
  tried = r.tried ++ xs;
  reached = reaches_more old new next r.tried xs r.reached s;
  parts = append_assoc r.tried xs ys ∙ r.parts;
}

---- a place that is put

pub reaches_found : (old : List Found) (f : Found) (next : Option ℕ) → next ≡ f.next → Contains old (record { file = f.file; next = next }) → Reaches old (f ∷ []) old
reaches_found old f next same c = reaches_same old f (subst (λ (n : Option ℕ). Contains old (record { file = f.file; next = n })) same c)

pub reaches_put : (old new : List Found) (f : Found) (next : Option ℕ) → next ≡ f.next → new ≡ old ++ record { file = f.file; next = next } ∷ [] → Reaches old (f ∷ []) new
reaches_put old new f next same is =
    subst (λ (l : List Found). Reaches old (f ∷ []) l) (sym (is ∙ ap (λ (n : Option ℕ). old ++ record { file = f.file; next = n } ∷ []) same)) (reaches_new old f)

-- a place of the queue
pub at_place : (queue : List Place) (k : ℕ) (p : Place) (file mark : ℕ) → k < length queue → p ≡ get_or queue k p → p.file ≡ file → p.mark ≡ mark
    → Contains (map seen_place queue) (record { file = file; next = next_of mark })
at_place queue k p file mark low is same_file same_mark =
    let here : slice_get queue k ≡ Some p = slice_get-get_or queue k p low ∙ ap Some (sym is) in
    let seen : slice_get (map seen_place queue) k ≡ Some (seen_place p) = slice_get-map seen_place queue k ∙ ap (option_map seen_place) here in
    let there : Contains (map seen_place queue) (seen_place p) = (k, slice_get_within (map seen_place queue) k (seen_place p) seen, get_or_from_slice_get (map seen_place queue) k (seen_place p) (seen_place p) seen) in
    subst (λ (m : ℕ). Contains (map seen_place queue) (record { file = file; next = next_of m })) same_mark
    (subst (λ (f : ℕ). Contains (map seen_place queue) (record { file = f; next = next_of p.mark })) same_file there)

---- lists that are read from the front

pub take_more : {X : Type 0} (xs : List X) (i : ℕ) (x : X) → i < length xs → x ≡ get_or xs i x → take (i + 1) xs ≡ take i xs ++ x ∷ []
take_more xs i x low is = ap (λ (n : ℕ). take n xs) (add-one i) ∙ take-suc xs i x low ∙ ap (λ y. take i xs ++ (y ∷ [])) (sym is)

pub take_whole : {X : Type 0} (xs : List X) (i : ℕ) → length xs ≤ i → take i xs ≡ xs
take_whole [] zero low = refl
take_whole [] (suc i) low = refl
take_whole (y ∷ ys) zero low = absurd (omega arith)
take_whole (y ∷ ys) (suc i) low = ap (λ l. y ∷ l) (take_whole ys i (omega arith))

pub sources_more : (ss : List ℕ) (i s : ℕ) (b c : List Found) → i < length ss → s ≡ get_or ss i s → Reaches [] (map as_source (take i ss)) b → Reaches b (as_source s ∷ []) c
    → Reaches [] (map as_source (take (i + 1) ss)) c
sources_more ss i s b c low is r t =
    subst (λ (l : List Found). Reaches [] l c) (sym (ap (map as_source) (take_more ss i s low is) ∙ map-append as_source (take i ss) (s ∷ [])))
    (reaches_more [] b c (map as_source (take i ss)) (as_source s ∷ []) r t)

pub sources_all : (ss : List ℕ) (i : ℕ) (b : List Found) → length ss ≤ i → Reaches [] (map as_source (take i ss)) b → Reaches [] (map as_source ss) b
sources_all ss i b low r = subst (λ (l : List ℕ). Reaches [] (map as_source l) b) (take_whole ss i low) r
