-- The marks of edges, one at a time.
use Rattle.std.proofs.Common.{◌≡◌, ℕ, ◌+◌, ◌<◌, ◌≤◌, true, List, [], ◌∷◌, ◌++◌, Option, Some, length, get_or, take, sym, ap, subst, ◌∙◌, arith}
use Rattle.std.specs.Prelude.{filter_map, option_map, slice_get, nat_le, nat_lt}
use Rattle.std.specs.List.{cons_option}
use Rattle.std.proofs.lemmas.Bool.{and_from, lt-ltb, le-leb}
use Rattle.std.proofs.lemmas.List.{take_more}
use Rattle.std.proofs.lemmas.List.Elements.{filter_map-append}
use Rattle.std.proofs.lemmas.Option.{get_or_from_slice_get}
use Rattle.inc_lookup.specs.declared.listings.TheConstants.{LONGEST_PATH}
use Rattle.inc_lookup.specs.Projects.{Layout, path_at, is_clean_path}
use Rattle.inc_graph.specs.declared.graphs.Edge as declared
use Rattle.inc_graph.specs.IncludeGraph.{Edge, Graph, IsSound}
use Rattle.inc_graph.specs.Marks.{Mark, is_mark}
use Rattle.inc_graph.specs.Views.{seen_edge, numbered}
use Rattle.inc_graph.proofs.NumberedEdges.{numbered_from-at}
use Rattle.inc_check.specs.Certificates.{edge_mark, marks_of}
use Rattle.inc_check.specs.Texts.{greatest_number, is_short_mark}

-- the edge that the program reads at a number
pub edge_read : (g : Graph) (items : List declared.Edge) (i n : ℕ) (e : declared.Edge) → items ≡ numbered g.edges → n ≡ i → i < length g.edges → e ≡ get_or items n e → slice_get g.edges i ≡ Some (seen_edge e)
edge_read g items i n e are same low is =
    numbered_from-at 0 g.edges i e low (is ∙ ap (λ (l : List declared.Edge). get_or l n e) are ∙ ap (λ (k : ℕ). get_or (numbered g.edges) k e) same)

pub edge_mark-is : (layout : Layout) (g : Graph) (i : ℕ) (e : declared.Edge) (path : List ℕ) (m : Mark) → slice_get g.edges i ≡ Some (seen_edge e) → path ≡ path_at layout e.from
    → Some (record { path = path; line = e.line }) ≡ Some m → option_map (edge_mark layout) (slice_get g.edges i) ≡ Some m
edge_mark-is layout g i e path m at is made =
    ap (option_map (edge_mark layout)) at ∙ ap (λ (p : List ℕ). Some (record { path = p; line = e.line })) (sym is) ∙ made

-- its path is that of a file, and its line a number of 32 bits
pub edge_mark-short : (g : Graph) (i : ℕ) (e : declared.Edge) (path : List ℕ) (m : Mark) → IsSound g
    → i < length g.edges → slice_get g.edges i ≡ Some (seen_edge e) → is_clean_path path ≡ true → length path ≤ LONGEST_PATH
    → e.line ≤ greatest_number → m ≡ record { path = path; line = e.line } → is_short_mark m ≡ true
edge_mark-short g i e path m sound low at clean short few is =
    let here = get_or_from_slice_get g.edges i (seen_edge e) (seen_edge e) at in
    let some : 1 ≤ e.line = subst (λ (x : Edge). 1 ≤ x.line) here (sound.lines i (seen_edge e) low) in
    let line : nat_lt 0 e.line ≡ true = lt-ltb 0 e.line (omega arith) in
    let good : is_mark (record { path = path; line = e.line }) ≡ true =
    and_from (is_clean_path path) (nat_lt 0 e.line) clean line in
    let small = and_from _ (nat_le e.line greatest_number) good (le-leb e.line greatest_number few) in
    ap is_short_mark is ∙ and_from _ (nat_le (length path) LONGEST_PATH) small (le-leb (length path) LONGEST_PATH short)

-- one edge more
pub marks_of-more : (layout : Layout) (g : Graph) (is : List ℕ) (k i : ℕ) (m : Mark) → k < length is → i ≡ get_or is k i → option_map (edge_mark layout) (slice_get g.edges i) ≡ Some m
    → marks_of layout g (take (k + 1) is) ≡ marks_of layout g (take k is) ++ m ∷ []
marks_of-more layout g is k i m low same at =
    let h : ℕ → Option Mark = λ j. option_map (edge_mark layout) (slice_get g.edges j) in
    ap (marks_of layout g) (take_more is k i low) ∙ filter_map-append h (take k is) (get_or is k i ∷ [])
    ∙ ap (λ (ms : List Mark). marks_of layout g (take k is) ++ ms) (ap (λ (j : ℕ). filter_map h (j ∷ [])) (sym same) ∙ ap (λ (o : Option Mark). cons_option o []) at)
