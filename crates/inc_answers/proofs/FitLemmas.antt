-- The certificate of a cut is one that a text can hold.
use Rattle.std.proofs.Common.{◌≡◌, ℕ, ◌+◌, ◌<◌, ◌≤◌, ◌&&◌, Bool, true, List, [], ◌∷◌, ◌++◌, Some, All, length, map, take, get_or, refl, sym, ap, subst, ◌∙◌, arith}
use Rattle.std.specs.Prelude.{nat_lt, nat_le, option_map, slice_get}
use Rattle.std.specs.List.{list_all}
use Rattle.std.proofs.lemmas.Bool.{and_parts, and_from, lt-ltb, le-leb}
use Rattle.std.proofs.lemmas.List.{take_more, map-append, length-map}
use Rattle.std.proofs.lemmas.List.Elements.{filter_map-append}
use Rattle.std.proofs.lemmas.Option.{get_or_from_slice_get}
use Rattle.inc_lookup.specs.declared.listings.TheConstants.{LONGEST_PATH}
use Rattle.inc_lookup.specs.Projects.{Layout, path_at, is_clean_path}
use Rattle.inc_graph.specs.Chains.{is_chain}
use Rattle.inc_graph.specs.Members.{is_distinct}
use Rattle.inc_graph.specs.Cuts.{Counted, fixed_by, costs_by, IsCut}
use Rattle.inc_graph.specs.IncludeGraph.{Edge, Graph, IsSound}
use Rattle.inc_graph.specs.Marks.{Mark, is_mark}
use Rattle.inc_graph.specs.Views.{seen_edge, numbered}
use Rattle.inc_graph.specs.declared.graphs.Edge as declared
use Rattle.inc_graph.proofs.NumberedEdges.{numbered_from-at}
use Rattle.inc_graph.proofs.Walks.{chain-within}
use Rattle.inc_check.specs.Certificates.{edge_mark, marks_of, chain_marks, certificate_of}
use Rattle.inc_check.specs.declared.certificates.CountedMarks.{CountedMarks}
use Rattle.inc_check.specs.CertificateText.{IsCertificateText}
use Rattle.inc_check.specs.Texts.{greatest_number, is_small_mark, is_short_mark, is_small_list, is_small_chain, certificate_text}
use Rattle.inc_check.proofs.AcceptedCuts.{all_editable-within}
use Rattle.inc_check.proofs.CertificateTexts.{printed_is_text}
use Rattle.inc_check.proofs.SumLemmas.{chain_once}
use Rattle.inc_graph.proofs.Fewness.{few_within}
use Rattle.inc_answers.specs.Fitting.{is_fit_chain, IsFit}
use Rattle.inc_answers.proofs.WhyLemmas.{length-marks_of}

---- the marks, one more at a time

all_push : {X : Type 0} (p : X → Bool) (xs : List X) (x : X) → list_all p xs ≡ true → p x ≡ true → list_all p (xs ++ x ∷ []) ≡ true
all_push p [] x all is = and_from (p x) true is refl
all_push p (y ∷ ys) x all is = let q = and_parts (p y) (list_all p ys) all in and_from (p y) (list_all p (ys ++ x ∷ [])) q.0 (all_push p ys x q.1 is)

mark_short : (m : Mark) → is_clean_path m.path ≡ true → length m.path ≤ LONGEST_PATH → 1 ≤ m.line
    → m.line ≤ greatest_number → is_short_mark m ≡ true
mark_short m clean short some low =
    let line : nat_lt 0 m.line ≡ true = lt-ltb 0 m.line (omega arith) in
    let mark : is_mark m ≡ true = and_from (is_clean_path m.path) (nat_lt 0 m.line) clean line in
    let small : is_small_mark m ≡ true = and_from (is_mark m) (nat_le m.line greatest_number) mark (le-leb _ _ low) in
    and_from (is_small_mark m) (nat_le (length m.path) LONGEST_PATH) small (le-leb _ _ short)

pub small_more : (layout : Layout) (g : Graph) (is : List ℕ) (k i : ℕ) (e : declared.Edge) → IsSound g → k < length is → i ≡ get_or is k i → i < length g.edges → e ≡ get_or (numbered g.edges) i e
    → is_clean_path (path_at layout e.from) ≡ true → length (path_at layout e.from) ≤ LONGEST_PATH
    → e.line ≤ 4_294_967_295 → list_all is_short_mark (marks_of layout g (take k is)) ≡ true
    → list_all is_short_mark (marks_of layout g (take (k + 1) is)) ≡ true
small_more layout g is k i e sound low same within is_edge clean short few so_far =
    let edge : slice_get g.edges i ≡ Some (seen_edge e) = numbered_from-at 0 g.edges i e within is_edge in
    let at : get_or g.edges i (seen_edge e) ≡ seen_edge e = get_or_from_slice_get g.edges i (seen_edge e) (seen_edge e) edge in
    let some : 1 ≤ e.line = subst (λ (x : Edge). 1 ≤ x.line) at (sound.lines i (seen_edge e) within) in
    let m : Mark = edge_mark layout (seen_edge e) in
    let one : marks_of layout g (i ∷ []) ≡ m ∷ [] = rw edge refl in
    ap (λ (js : List ℕ). list_all is_short_mark (marks_of layout g js)) (take_more is k i low)
    ∙ ap (list_all is_short_mark) (filter_map-append (λ j. option_map (edge_mark layout) (slice_get g.edges j)) (take k is) (get_or is k i ∷ []))
    ∙ ap (λ (ms : List Mark). list_all is_short_mark (marks_of layout g (take k is) ++ ms)) (ap (λ j. marks_of layout g (j ∷ [])) (sym same) ∙ one)
    ∙ all_push is_short_mark (marks_of layout g (take k is)) m so_far (mark_short m clean short some few)

pub chain_fit : (k : CountedMarks) → list_all is_short_mark k.marks ≡ true → k.count ≤ 4_294_967_295 → is_fit_chain k ≡ true
chain_fit k small few = and_from (list_all is_short_mark k.marks) (nat_le k.count greatest_number) small (le-leb k.count greatest_number few)

-- one more of a list that is mapped
pub fit_more : {X Y : Type 0} (p : Y → Bool) (f : X → Y) (xs : List X) (i : ℕ) (x : X) → i < length xs → x ≡ get_or xs i x → list_all p (map f (take i xs)) ≡ true → p (f x) ≡ true
    → list_all p (map f (take (i + 1) xs)) ≡ true
fit_more p f xs i x low is so_far here =
    ap (λ ys. list_all p (map f ys)) (take_more xs i x low)
    ∙ ap (list_all p) (map-append f (take i xs) (get_or xs i x ∷ []))
    ∙ ap (λ y. list_all p (map f (take i xs) ++ f y ∷ [])) (sym is)
    ∙ all_push p (map f (take i xs)) (f x) so_far here

---- the certificate

module _ (layout : Layout) (g : Graph) (sound : IsSound g) where
  short_list : (is : List ℕ) → is_distinct is ≡ true → All (λ i. i < length g.edges) is → list_all is_short_mark (marks_of layout g is) ≡ true → is_small_list (marks_of layout g is) ≡ true
  short_list is once within small =
      let few = few_within (length g.edges) is once within in
      let long = length-marks_of layout g is within in
      let sized = sound.sized in
      let low : length (marks_of layout g is) ≤ greatest_number = omega arith in
      and_from (list_all is_short_mark (marks_of layout g is)) (nat_le (length (marks_of layout g is)) greatest_number) small (le-leb _ greatest_number low)

  small_chains : (chains : List Counted) → list_all (λ (c : Counted). is_chain g c.chain && nat_lt 0 c.count) chains ≡ true → list_all is_fit_chain (map (chain_marks layout g) chains) ≡ true
      → list_all is_small_chain (map (chain_marks layout g) chains) ≡ true
  small_chains [] real fit = refl
  small_chains (c ∷ cs) real fit =
      let k : CountedMarks = chain_marks layout g c in
      let r = and_parts (is_chain g c.chain && nat_lt 0 c.count) (list_all (λ (d : Counted). is_chain g d.chain && nat_lt 0 d.count) cs) real in
      let here = and_parts (is_chain g c.chain) (nat_lt 0 c.count) r.0 in
      let f = and_parts (is_fit_chain k) (list_all is_fit_chain (map (chain_marks layout g) cs)) fit in
      let fits = and_parts (list_all is_short_mark k.marks) (nat_le k.count greatest_number) f.0 in
      let list = short_list c.chain (chain_once g c.chain here.0) (chain-within g c.chain here.0) fits.0 in
      let number : (nat_lt 0 c.count && nat_le c.count greatest_number) ≡ true = and_from (nat_lt 0 c.count) (nat_le c.count greatest_number) here.1 fits.1 in
      and_from (is_small_chain k) (list_all is_small_chain (map (chain_marks layout g) cs))
      (and_from (is_small_list k.marks) (nat_lt 0 c.count && nat_le c.count greatest_number) list number) (small_chains cs r.1 f.1)

  pub fits_text : (amounts set : List ℕ) (chains : List Counted) → IsCut g (fixed_by amounts) (costs_by amounts) set chains → IsFit layout g set chains
      → IsCertificateText (certificate_text (certificate_of layout g set chains)) (certificate_of layout g set chains)
  fits_text amounts set chains cut fit =
      let shown = cut.shown in
      let separates = shown.separates in
      let within = all_editable-within g (fixed_by amounts) set separates.editable in
      let few = fit.few in
      let sized = sound.sized in
      let long = length-map chains (chain_marks layout g) in
      let low : length (map (chain_marks layout g) chains) ≤ greatest_number = omega arith in
      printed_is_text (certificate_of layout g set chains) (record {
        cut = short_list set separates.once within fit.marks;
        chains = small_chains chains shown.real fit.counted;
        few = le-leb _ greatest_number low;
      })
