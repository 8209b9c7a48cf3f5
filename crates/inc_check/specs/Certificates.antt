-- Certificates: a cut and chains by the marks of their edges, and what a checker answers.
use Rattle.std.specs.Prelude.{◌≡◌, ℕ, ◌<◌, ◌==◌, ◌&&◌, not, Bool, true, false, List, [], ◌∷◌, length, map, filter_map, slice_get, option_map, IsTrue}
use Rattle.std.specs.List.{list_any, list_all}
use Rattle.std.specs.Option.{option_map_or}
use Rattle.inc_lookup.specs.Projects.{Layout, path_at}
use Rattle.inc_graph.specs.IncludeGraph.{Edge, Graph}
use Rattle.inc_graph.specs.Chains.{is_chain}
use Rattle.inc_graph.specs.Cuts.{Fixed, Costs, Counted, is_editable, meets, total_cost, count_through, total_count}
use Rattle.inc_graph.specs.MarkedEdges.{same_mark, edge_number}
use Rattle.inc_graph.specs.Marks.{Mark}
use Rattle.inc_check.specs.declared.certificates.Certificate.{Certificate}
use Rattle.inc_check.specs.declared.certificates.CountedMarks.{CountedMarks}
use Rattle.inc_check.specs.declared.verdicts.Reason.{Reason}
use Rattle.inc_check.specs.declared.verdicts.Reason.TheVariants.{NotEditable, Repeated, StillReached, NotAChain, Shared, Counts}
use Rattle.inc_check.specs.declared.verdicts.Verdict.{Verdict}
use Rattle.inc_check.specs.declared.verdicts.Verdict.TheVariants.{Yes, No}

---- edges and their marks

-- the mark of an edge
abbrev pub edge_mark : Layout → Edge → Mark
edge_mark layout e = record { path = path_at layout e.from; line = e.line }

-- no two files have one path
abbrev pub IsEachPathOnce : Layout → Type 0
IsEachPathOnce layout =
    (i j : ℕ) → i < length layout.paths → j < length layout.paths → path_at layout i ≡ path_at layout j → i ≡ j

-- the marks of edges, by their numbers
abbrev pub marks_of : Layout → Graph → List ℕ → List Mark
marks_of layout g is = filter_map (λ i. option_map (edge_mark layout) (slice_get g.edges i)) is

-- the numbers of the edges that marks name, of those that name one
abbrev pub edge_numbers : Layout → Graph → List Mark → List ℕ
edge_numbers layout g marks = filter_map (edge_number layout g) marks

-- a chain by the marks of its edges
abbrev pub chain_marks : Layout → Graph → Counted → CountedMarks
chain_marks layout g c = record { count = c.count; marks = marks_of layout g c.chain }

-- a cut and chains by the marks of their edges
abbrev pub certificate_of : Layout → Graph → (cut : List ℕ) → (chains : List Counted) → Certificate
certificate_of layout g cut chains = record { cut = marks_of layout g cut; chains = map (chain_marks layout g) chains }

-- chains, their marks read as edges
abbrev pub chains_of : Layout → Graph → List CountedMarks → List Counted
chains_of layout g chains =
    map (λ (k : CountedMarks). record { chain = edge_numbers layout g k.marks; count = k.count }) chains

---- the checker's answer

-- the place of a reason in their order
abbrev pub reason_number : Reason → ℕ
reason_number NotEditable = 1
reason_number Repeated = 2
reason_number StillReached = 3
reason_number NotAChain = 4
reason_number Shared = 5
reason_number Counts = 6

-- the mark names an edge that is not fixed
abbrev pub is_marked_editable : Layout → Graph → Fixed → Mark → Bool
is_marked_editable layout g fixed m = option_map_or (λ i. not (fixed i)) (edge_number layout g m) false

-- no mark twice
abbrev pub are_different : List Mark → Bool
are_different [] = true
are_different (m ∷ ms) = not (list_any (same_mark m) ms) && are_different ms

-- each mark names an edge, and the edges are a chain
abbrev pub is_marked_chain : Layout → Graph → List Mark → Bool
is_marked_chain layout g marks =
    list_all (λ m. option_map_or (λ i. true) (edge_number layout g m) false) marks
    && is_chain g (edge_numbers layout g marks)

-- a chain of the graph that counts at least once
abbrev pub is_counted_chain : Layout → Graph → CountedMarks → Bool
is_counted_chain layout g k = is_marked_chain layout g k.marks && not (k.count == 0)

-- the certificate has this fault: a mark of the cut names no editable edge; a mark is in the cut twice; a chain misses the cut; a
-- chain of the certificate is none, or counts 0; the counts through an editable edge are more than its cost; all counts are not the
-- cost of the cut
abbrev pub Fails : Layout → Graph → Fixed → Costs → Certificate → Reason → Type 0
Fails layout g fixed cost c NotEditable = IsTrue (not (list_all (is_marked_editable layout g fixed) c.cut))
Fails layout g fixed cost c Repeated = IsTrue (not (are_different c.cut))
Fails layout g fixed cost c StillReached =
    (chain : List ℕ) × IsTrue (is_chain g chain) × IsTrue (not (meets chain (edge_numbers layout g c.cut)))
Fails layout g fixed cost c NotAChain = IsTrue (not (list_all (is_counted_chain layout g) c.chains))
Fails layout g fixed cost c Shared =
    (i : ℕ) × IsTrue (is_editable g fixed i) × (cost i < count_through i (chains_of layout g c.chains))
Fails layout g fixed cost c Counts =
    IsTrue (not (total_count (chains_of layout g c.chains) == total_cost cost (edge_numbers layout g c.cut)))

-- yes where it has no fault, else no with the first
abbrev pub IsVerdict : Layout → Graph → Fixed → Costs → Certificate → Verdict → Type 0
IsVerdict layout g fixed cost c Yes = (r : Reason) → ¬ Fails layout g fixed cost c r
IsVerdict layout g fixed cost c (No r) =
    Fails layout g fixed cost c r × ((s : Reason) → reason_number s < reason_number r → ¬ Fails layout g fixed cost c s)
