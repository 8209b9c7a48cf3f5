-- The text of a certificate, part by part.
use Rattle.std.proofs.Common.{◌≡◌, ℕ, ◌<◌, ◌&&◌, List, [], ◌∷◌, ◌++◌, Option, None, Some, length, map, zero, suc, refl, ap, ap₂, ◌∙◌, subst, arith}
use Rattle.std.specs.Prelude.{IsTrue, slice_get, flat_map, codes, decimal, nat_lt, option_and_then}
use Rattle.std.specs.List.{All, list_all}
use Rattle.std.proofs.lemmas.Bool.{and_parts}
use Rattle.std.proofs.lemmas.Grind.{flat_map-append}
use Rattle.std.proofs.lemmas.List.{length-map}
use Rattle.std.proofs.lemmas.List.Elements.{All-cons}
use Rattle.inc_text.specs.Ascii.{line_feed}
use Rattle.inc_lookup.specs.Projects.{Layout}
use Rattle.inc_graph.specs.Chains.{is_chain}
use Rattle.inc_graph.specs.Cuts.{Counted}
use Rattle.inc_graph.specs.IncludeGraph.{Graph}
use Rattle.inc_graph.specs.MarkedEdges.{amounts_by, marks_fault}
use Rattle.inc_graph.specs.declared.graphs.Blocker.{Blocker}
use Rattle.inc_check.specs.declared.certificates.CountedMarks.{CountedMarks}
use Rattle.inc_check.specs.Certificates.{marks_of, chain_marks, certificate_of}
use Rattle.inc_check.specs.Texts.{line_text, lines_text, marks_text, times_text, chain_lines, cut_lines, chains_lines, certificate_text}
use Rattle.inc_lookup.specs.declared.projects.DirectiveId.{DirectiveId}
use Rattle.inc_answers.specs.CutText.{WithAmounts, Unhindered, marks_refusal, reasoned}
use Rattle.inc_answers.specs.Fitting.{counted_as}
use Rattle.inc_answers.specs.MarkTexts.{list_text}
use Rattle.inc_answers.specs.Numbers.{count_text}
use Rattle.inc_answers.specs.Printed.{Printed}
use Rattle.inc_answers.specs.Refusals.{Refusal}
use Rattle.inc_answers.specs.Terms.{Limits}
use Rattle.inc_graph.proofs.Walks.{chain-within}
use Rattle.inc_answers.proofs.WhyLemmas.{length-marks_of, flat_map-map}

module _ (layout : Layout) (g : Graph) where
  -- a counted chain, as it is sent
  abbrev pub sent_chain : Counted → List ℕ
  sent_chain c = ((((codes "chain " ++ decimal (length c.chain)) ++ times_text c.count) ++ line_feed ∷ []) ++ marks_text (marks_of layout g c.chain))

  pub counted_text : (c : Counted) → All (λ i. i < length g.edges) c.chain → lines_text (chain_lines (chain_marks layout g c)) ≡ sent_chain c
  counted_text c within = rw (length-marks_of layout g c.chain within) refl

  lines_text-flat : (cs : List Counted) → lines_text (flat_map (λ c. chain_lines (chain_marks layout g c)) cs) ≡ flat_map (λ c. lines_text (chain_lines (chain_marks layout g c))) cs
  lines_text-flat [] = refl
  lines_text-flat (c ∷ cs) =
      flat_map-append line_text (chain_lines (chain_marks layout g c)) (flat_map (λ d. chain_lines (chain_marks layout g d)) cs)
      ∙ ap (λ t. lines_text (chain_lines (chain_marks layout g c)) ++ t) (lines_text-flat cs)

  -- a certificate, as it is sent
  pub certificate_sent : (cut : List ℕ) (cs : List Counted) →
      certificate_text (certificate_of layout g cut cs)
      ≡ list_text (codes "cut") (marks_of layout g cut) ++ (count_text (codes "chains") (length cs) ++ flat_map (λ c. lines_text (chain_lines (chain_marks layout g c))) cs)
  certificate_sent cut cs =
      let front : List ℕ = list_text (codes "cut") (marks_of layout g cut) in
      let marked : List CountedMarks = map (chain_marks layout g) cs in
      let parts : certificate_text (certificate_of layout g cut cs) ≡ front ++ (count_text (codes "chains") (length marked) ++ lines_text (flat_map chain_lines marked)) =
      flat_map-append line_text (cut_lines (marks_of layout g cut)) (chains_lines marked) in
      let count : front ++ (count_text (codes "chains") (length marked) ++ lines_text (flat_map chain_lines marked)) ≡ front ++ (count_text (codes "chains") (length cs) ++ lines_text (flat_map chain_lines marked)) =
      ap (λ n. front ++ (count_text (codes "chains") n ++ lines_text (flat_map chain_lines marked))) (length-map cs (chain_marks layout g)) in
      let lines : lines_text (flat_map chain_lines marked) ≡ flat_map (λ c. lines_text (chain_lines (chain_marks layout g c))) cs =
      ap lines_text (flat_map-map chain_lines (chain_marks layout g) cs) ∙ lines_text-flat cs in
      parts ∙ count ∙ ap (λ t. front ++ (count_text (codes "chains") (length cs) ++ t)) lines

---- the edges of cuts and of chains are edges of the graph

pub counted_within : (g : Graph) (cs : List Counted) → IsTrue (list_all (λ (c : Counted). is_chain g c.chain && nat_lt 0 c.count) cs)
    → All (λ (c : Counted). All (λ i. i < length g.edges) c.chain) cs
counted_within g [] real = λ k d low. absurd (omega (arith, low))
counted_within g (c ∷ cs) real =
    let parts = and_parts (is_chain g c.chain && nat_lt 0 c.count) (list_all (λ (d : Counted). is_chain g d.chain && nat_lt 0 d.count) cs) real in
    let one = and_parts (is_chain g c.chain) (nat_lt 0 c.count) parts.0 in
    All-cons (λ (d : Counted). All (λ i. i < length g.edges) d.chain) c cs (chain-within g c.chain one.0) (counted_within g cs parts.1)

---- the chain at a place

pub chain_at : (cs : List Counted) (i : ℕ) → i < length cs → (c : Counted) × (slice_get cs i ≡ Some c)
chain_at [] i low = absurd (omega arith)
chain_at (c ∷ cs) zero low = (c, refl)
chain_at (c ∷ cs) (suc i) low = chain_at cs i (omega arith)

-- the chain that was sent is this one
pub chain_is : (edges : List ℕ) (count : ℕ) (c : Counted) → edges ≡ c.chain → count ≡ c.count → counted_as edges count ≡ c
chain_is edges count c edges_are count_is = ap₂ counted_as edges_are count_is

-- where nothing hinders an answer, it is that of the amounts
pub unhindered : (Then : Layout → Graph → List ℕ → Printed → Type 0) (layout : Layout) (g : Graph) (l : Limits) (amounts : List ℕ) (p : Printed)
    → g.blockers ≡ [] → marks_fault layout g l.fixed l.costs ≡ None → amounts ≡ amounts_by layout g l.kept l.fixed l.costs → Then layout g amounts p
    → WithAmounts l Then layout g p
unhindered Then layout g l amounts p none named same told =
    by_parts layout g.definitions g.blockers (marks_refusal layout g l.fixed l.costs) (Then layout g (amounts_by layout g l.kept l.fixed l.costs)) p none
    (ap (option_and_then (reasoned layout g l.fixed l.costs)) named) (subst (λ (ns : List ℕ). Then layout g ns p) same told)
  where
    by_parts : (at : Layout) (ds : List DirectiveId) (bs : List Blocker) (fault : Option (List ℕ × Refusal)) (Told : Printed → Type 0) (q : Printed) → bs ≡ [] → fault ≡ None → Told q → Unhindered at ds bs fault Told q
    by_parts at ds bs fault Told q empty right is = rw (empty, right) is
