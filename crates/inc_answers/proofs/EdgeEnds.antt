-- Files of edges, and blocks of one directive more.
use Rattle.std.proofs.Common.{◌≡◌, ℕ, suc, ◌+◌, ◌-◌, ◌<◌, Bool, true, false, List, [], ◌∷◌, ◌++◌, Option, Some, None, cond, length, take, drop, get_or, refl, sym, ap, ◌∙◌, subst, arith}
use Rattle.std.specs.Prelude.{filter_map, find, flat_map, option_map, slice_get}
use Rattle.std.specs.Option.{option_map_or}
use Rattle.std.specs.List.{All, cons_option}
use Rattle.std.proofs.lemmas.List.{append_assoc, drop_more, take_more}
use Rattle.std.proofs.lemmas.List.Elements.{All-cons, filter_map-append}
use Rattle.std.proofs.lemmas.Option.{get_or_from_slice_get, slice_get_within}
use Rattle.inc_graph.specs.Cuts.{directives_of}
use Rattle.inc_graph.specs.declared.graphs.Edge as declared
use Rattle.inc_graph.specs.IncludeGraph.{Edge, Graph}
use Rattle.inc_graph.specs.Views.{numbered, seen_edge}
use Rattle.inc_graph.proofs.NumberedEdges.{numbered_from-at}
use Rattle.inc_answers.specs.WhyDocument.{edge_from, edge_to, is_same, last_of, other_last, other_lasts}

module _ (g : Graph) (i : ℕ) (e : declared.Edge) (low : i < length g.edges) (found : slice_get (numbered g.edges) i ≡ Some e) where
  edge_is : slice_get g.edges i ≡ Some (seen_edge e)
  edge_is = numbered_from-at 0 g.edges i e low (sym (get_or_from_slice_get (numbered g.edges) i e e found))

  pub directive_is : directives_of g (i ∷ []) ≡ record { file = e.from; line = e.line } ∷ []
  directive_is = ap (λ (o : Option Edge). cons_option (option_map (λ (x : Edge). record { file = x.from; line = x.line }) o) []) edge_is

  pub from_is : e.from ≡ edge_from g i
  from_is = sym (ap (λ (o : Option Edge). option_map_or (λ (x : Edge). x.from) o 0) edge_is)

  pub to_is : e.to ≡ edge_to g i
  to_is = sym (ap (λ (o : Option Edge). option_map_or (λ (x : Edge). x.to) o 0) edge_is)

-- the first that passes a test, of those that are left
pub found_first : {X : Type 0} (p : X → Bool) (xs : List X) (i : ℕ) (x : X) → i < length xs → x ≡ get_or xs i x → p x ≡ true → find p (drop i xs) ≡ Some x
found_first p xs i x low is does =
    ap (find p) (drop_more xs i x low) ∙ ap (λ y. find p (y ∷ drop (i + 1) xs)) (sym is) ∙ ap (λ b. cond b (Some x) (find p (drop (i + 1) xs))) does

pub found_later : {X : Type 0} (p : X → Bool) (xs : List X) (i : ℕ) (x : X) → i < length xs → x ≡ get_or xs i x → p x ≡ false → find p (drop i xs) ≡ find p (drop (i + 1) xs)
found_later p xs i x low is fails =
    ap (find p) (drop_more xs i x low) ∙ ap (λ y. find p (y ∷ drop (i + 1) xs)) (sym is) ∙ ap (λ b. cond b (Some x) (find p (drop (i + 1) xs))) fails

---- elements of lists that are added one by one

pub next_added : {X A : Type 0} (f : X → List A) (added last all : List A) (left : List X) (x : X) (xs : List X) → left ≡ x ∷ xs → last ≡ added ++ f x
    → added ++ flat_map f left ≡ all → last ++ flat_map f xs ≡ all
next_added f added last all left x xs is one so_far =
    ap (λ ys. ys ++ flat_map f xs) one ∙ append_assoc added (f x) (flat_map f xs) ∙ ap (λ ys. added ++ flat_map f ys) (sym is) ∙ so_far

pub next_kept : {X A : Type 0} (f : X → Option A) (added last all : List A) (left : List X) (x : X) (xs : List X) → left ≡ x ∷ xs → last ≡ added ++ filter_map f (x ∷ [])
    → added ++ filter_map f left ≡ all → last ++ filter_map f xs ≡ all
next_kept f added last all left x xs is one so_far =
    ap (λ ys. ys ++ filter_map f xs) one ∙ append_assoc added (filter_map f (x ∷ [])) (filter_map f xs)
    ∙ ap (λ ys. added ++ ys) (sym (filter_map-append f (x ∷ []) xs)) ∙ ap (λ ys. added ++ filter_map f ys) (sym is) ∙ so_far

pub one_kept : {X A : Type 0} (f : X → Option A) (added last : List A) (xs : List X) (i : ℕ) (x : X) → i < length xs → x ≡ get_or xs i x
    → added ≡ filter_map f (take i xs) → last ≡ added ++ filter_map f (x ∷ []) → last ≡ filter_map f (take (i + 1) xs)
one_kept f added last xs i x low is so_far one =
    one ∙ ap (λ ys. ys ++ filter_map f (x ∷ [])) so_far ∙ sym (filter_map-append f (take i xs) (x ∷ []))
    ∙ ap (λ y. filter_map f (take i xs ++ y ∷ [])) is ∙ ap (filter_map f) (sym (take_more xs i x low))

-- the last edges of chains are edges
pub lasts_within : (n : ℕ) (last : Option ℕ) (chains : List (List ℕ)) → All (λ chain. All (λ i. i < n) chain) chains → All (λ i. i < n) (other_lasts last chains)
lasts_within n last [] all = λ k d low. absurd (omega (arith, low))
lasts_within n last (c ∷ cs) all =
    by (other_last last c) (one_within (is_same (last_of c) last) (last_of c) (λ i is. own i is)) (lasts_within n last cs (λ k d low. all (suc k) d (omega (arith, low))))
  where
    own : (i : ℕ) → last_of c ≡ Some i → i < n
    own i is = let low = slice_get_within c (length c - 1) i is in
        subst (λ j. j < n) (get_or_from_slice_get c (length c - 1) i i is) (all 0 c (omega arith) (length c - 1) i low)

    one_within : (b : Bool) (o : Option ℕ) → ((i : ℕ) → o ≡ Some i → i < n) → (i : ℕ) → cond b None o ≡ Some i → i < n
    one_within true o within i is = cc
    one_within false o within i is = within i is

    by : (o : Option ℕ) → ((i : ℕ) → o ≡ Some i → i < n) → All (λ i. i < n) (other_lasts last cs) → All (λ i. i < n) (cons_option o (other_lasts last cs))
    by None within rest = rest
    by (Some i) within rest = All-cons (λ j. j < n) i (other_lasts last cs) (within i refl) rest
