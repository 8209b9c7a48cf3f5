-- The document of a graph, piece by piece.
use Rattle.std.proofs.Common.{◌≡◌, ◌∙◌, ℕ, List, [], ◌∷◌, ◌++◌, ap, ap₂, length, map, true}
use Rattle.inc_lookup.specs.Projects.{Layout}
use Rattle.inc_graph.specs.IncludeGraph.{Graph}
use Rattle.inc_graph.specs.Views.{numbered, seen_edge}
use Rattle.inc_graph.specs.declared.graphs.Edge as declared
use Rattle.inc_answers.specs.Documents.{Block, Words}
use Rattle.inc_answers.specs.GraphDocument.{graph_document, leading_words, link_block}
use Rattle.inc_answers.specs.WhyDocument.{unresolved_blocks}
use Rattle.inc_answers.proofs.GraphLemmas.{length-numbered, map-numbered}

pub links_made : (layout : Layout) (g : Graph) (edges : List declared.Edge) (start first second last : List Block) → edges ≡ numbered g.edges → start ≡ []
    → first ≡ start ++ Words (leading_words (length edges)) ∷ [] → second ≡ first ++ map (λ (e : declared.Edge). link_block layout (seen_edge e)) edges
    → last ≡ second ++ unresolved_blocks true g → last ≡ graph_document layout g
links_made layout g edges start first second last are none one two three =
    let rest : List Block = unresolved_blocks true g in
    let links : List declared.Edge → List Block = map (λ (e : declared.Edge). link_block layout (seen_edge e)) in
    three ∙ ap (λ (bs : List Block). bs ++ rest) (two ∙ ap (λ (bs : List Block). bs ++ links edges) (one ∙ ap (λ (bs : List Block). bs ++ Words (leading_words (length edges)) ∷ []) none))
    ∙ ap (λ (es : List declared.Edge). Words (leading_words (length es)) ∷ (links es ++ rest)) are
    ∙ ap₂ (λ (n : ℕ) (bs : List Block). Words (leading_words n) ∷ (bs ++ rest)) (length-numbered g) (map-numbered (link_block layout) 0 g.edges)
