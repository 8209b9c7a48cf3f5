-- Edges that are looked up many at a time, and the directives of a list that is sent in parts.
use Rattle.std.proofs.Common.{◌≡◌, ℕ, ◌+◌, ◌-◌, ◌<◌, ◌≤◌, true, List, ◌++◌, Option, Some, None, length, take, drop, get_or, sym, ap, subst, ◌∙◌, arith}
use Rattle.std.specs.Prelude.{option_map, slice_get}
use Rattle.std.specs.List.{list_all}
use Rattle.std.proofs.lemmas.Bool.{and_from}
use Rattle.std.proofs.lemmas.List.{take-append-drop, take-take, take_rest, drop-take, length-map, get_or-map}
use Rattle.std.proofs.lemmas.List.Elements.{filter_map-append}
use Rattle.std.proofs.lemmas.List.Folds.{list_all-append}
use Rattle.std.proofs.lemmas.Option.{get_or_from_slice_get}
use Rattle.inc_lookup.specs.declared.listings.TheConstants.{LONGEST_PATH}
use Rattle.inc_lookup.specs.Projects.{Layout, path_at, is_clean_path}
use Rattle.inc_graph.specs.declared.graphs.Edge as declared
use Rattle.inc_graph.specs.IncludeGraph.{Graph, IsSound}
use Rattle.inc_graph.specs.Views.{numbered}
use Rattle.inc_check.specs.Certificates.{edge_mark, marks_of}
use Rattle.inc_check.specs.Texts.{is_short_mark, marks_text}
use Rattle.inc_answers.specs.MarkTexts.{AreFound}
use Rattle.inc_answers.specs.Numbers.{directive_text}
use Rattle.inc_answers.specs.Sending.{Stream, Sends}
use Rattle.inc_answers.proofs.FitLemmas.{small_more}
use Rattle.inc_answers.proofs.SendingLemmas.{sends_then}
use Rattle.inc_answers.proofs.WhyLemmas.{marks_text-append, marks_of-more}

---- edges that are looked up

length-found : (g : Graph) (is : List ℕ) (found : List declared.Edge) → AreFound g is found → length is ≡ length found
length-found g is found are =
    sym (length-map is (λ i. slice_get (numbered g.edges) i)) ∙ ap (λ (os : List (Option declared.Edge)). length os) are ∙ length-map found (λ (e : declared.Edge). Some e)

-- what stands at a place is the edge with the number there
pub found-at : (g : Graph) (is : List ℕ) (found : List declared.Edge) (k : ℕ) (d : declared.Edge) → AreFound g is found → k < length is
    → get_or found k d ≡ get_or (numbered g.edges) (get_or is k 0) (get_or found k d)
found-at g is found k d are low =
    let long = length-found g is found are in
    let here : slice_get (numbered g.edges) (get_or is k 0) ≡ Some (get_or found k d) =
    sym (get_or-map (λ i. slice_get (numbered g.edges) i) is k 0 None low)
    ∙ ap (λ (os : List (Option declared.Edge)). get_or os k None) are
    ∙ get_or-map (λ (e : declared.Edge). Some e) found k d None (omega (arith, long)) in
    sym (get_or_from_slice_get (numbered g.edges) (get_or is k 0) (get_or found k d) (get_or found k d) here)

---- parts of lists

-- the next part of a list, and all that is left of it
pub take-part : {X : Type 0} (xs : List X) (at n : ℕ) → take at xs ++ take n (drop at xs) ≡ take (at + n) xs
take-part {X} xs at n =
    ap (λ (ys : List X). ys ++ take n (drop at xs)) (sym (take-take at (at + n) xs (omega arith)))
    ∙ ap (λ (ys : List X). take at (take (at + n) xs) ++ ys) (sym (drop-take at n xs))
    ∙ take-append-drop at (take (at + n) xs)

pub take-left : {X : Type 0} (xs : List X) (at : ℕ) → take at xs ++ take (length xs - at) (drop at xs) ≡ xs
take-left {X} xs at = ap (λ (ys : List X). take at xs ++ ys) (take_rest xs at) ∙ take-append-drop at xs

---- the directives of one edge more, and of two parts

-- this text is sent, and a text can hold the marks
abbrev pub AreSent : Layout → Graph → (old new : Stream) → List ℕ → Type 0
AreSent layout g old new is = Sends old new (marks_text (marks_of layout g is)) × (list_all is_short_mark (marks_of layout g is) ≡ true)

module _ (layout : Layout) (g : Graph) where
  pub sent_more : (a b c : Stream) (is : List ℕ) (k i : ℕ) (e : declared.Edge) → IsSound g → k < length is → i ≡ get_or is k i → i < length g.edges → e ≡ get_or (numbered g.edges) i e
      → is_clean_path (path_at layout e.from) ≡ true → length (path_at layout e.from) ≤ LONGEST_PATH
      → e.line ≤ 4_294_967_295 → AreSent layout g a b (take k is)
      → Sends b c (directive_text e.line (path_at layout e.from)) → AreSent layout g a c (take (k + 1) is)
  sent_more a b c is k i e sound low same within is_edge clean short few so_far sent = (
    subst (λ (t : List ℕ). Sends a c t) (sym (marks_of-more layout g is k i e low same within is_edge)) (sends_then a b c _ _ so_far.0 sent),
    small_more layout g is k i e sound low same within is_edge clean short few so_far.1,
  )

  marks_of-append : (xs ys : List ℕ) → marks_of layout g (xs ++ ys) ≡ marks_of layout g xs ++ marks_of layout g ys
  marks_of-append xs ys = filter_map-append (λ j. option_map (edge_mark layout) (slice_get g.edges j)) xs ys

  pub sent_both : (a b c : Stream) (xs ys whole : List ℕ) → xs ++ ys ≡ whole → AreSent layout g a b xs → AreSent layout g b c ys → AreSent layout g a c whole
  sent_both a b c xs ys whole is first second =
      let marks : marks_of layout g xs ++ marks_of layout g ys ≡ marks_of layout g whole =
      sym (marks_of-append xs ys) ∙ ap (λ (js : List ℕ). marks_of layout g js) is in
      let text : marks_text (marks_of layout g xs) ++ marks_text (marks_of layout g ys) ≡ marks_text (marks_of layout g whole) =
      sym (marks_text-append (marks_of layout g xs) (marks_of layout g ys)) ∙ ap marks_text marks in (
        subst (λ (t : List ℕ). Sends a c t) text (sends_then a b c _ _ first.0 second.0),
        ap (list_all is_short_mark) (sym marks)
            ∙ list_all-append is_short_mark (marks_of layout g xs) (marks_of layout g ys)
            ∙ and_from (list_all is_short_mark (marks_of layout g xs)) (list_all is_short_mark (marks_of layout g ys)) first.1 second.1,
      )
