-- The document in which `who` tells which sources reach a header.
use Rattle.std.specs.Prelude.{ℕ, ◌==◌, Bool, true, false, List, [], ◌∷◌, ◌++◌, Option, Some, None, if◌then◌else◌, codes, decimal, flat_map, length, map, slice_get}
use Rattle.inc_lookup.specs.declared.projects.DirectiveId.{DirectiveId}
use Rattle.inc_lookup.specs.Projects.{Layout, path_at}
use Rattle.inc_graph.specs.Cuts.{directives_of}
use Rattle.inc_graph.specs.IncludeGraph.{Graph}
use Rattle.inc_graph.specs.Reaching.{Reaching}
use Rattle.inc_answers.specs.Bounds.{first_of, left_out}
use Rattle.inc_answers.specs.Documents.{Block, Led, Words, counted, listed, more_blocks}
use Rattle.inc_answers.specs.MissingNotes.{shown}
use Rattle.inc_answers.specs.WhyDocument.{headers_words, other_lasts, shortest_blocks, unreached_words, unresolved_blocks}

---- how many

-- that so many of all sources include what follows
abbrev pub some_of : (count total : ℕ) → List ℕ
some_of count total =
    decimal count ++ codes " of " ++ counted total (codes " source") (codes " sources") ++ (if count == 1 then codes " includes " else codes " include ")

abbrev pub reaching_words : Layout → Graph → (count : ℕ) → List ℕ
reaching_words layout g count = some_of count (length g.sources) ++ headers_words [] (codes "one of ") layout g.headers

-- that so many include a header, or that none does
abbrev pub count_words : Layout → Graph → (count : ℕ) → List ℕ
count_words layout g count = if count == 0 then unreached_words layout g else reaching_words layout g count

---- each source

-- that a source is a header
abbrev pub header_words : Layout → (source : ℕ) → List ℕ
header_words layout s = shown (path_at layout s) ++ codes " is itself the header"

-- what stands before the first directive of its chain, which has so many
abbrev pub lead_words : Layout → (source count : ℕ) → List ℕ
lead_words layout s count = shown (path_at layout s) ++ codes ": by " ++ decimal count ++ codes ": "

-- directives behind these words
abbrev pub led : (words : List ℕ) → List DirectiveId → List Block
led words ds = map (Led words) ds

-- a source by its chain and the first edge of that: the first directive, or each
abbrev pub reaching_by : (all : Bool) → Layout → Graph → (source : ℕ) → (first : Option ℕ) → (chain : List ℕ) → List Block
reaching_by all layout g s None chain = Words (header_words layout s) ∷ []
reaching_by false layout g s (Some first) chain = led (lead_words layout s (length chain)) (directives_of g (first ∷ []))
reaching_by true layout g s (Some first) chain = shortest_blocks layout g chain

abbrev pub reaching_blocks : (all : Bool) → Layout → Graph → Reaching → List Block
reaching_blocks all layout g r = reaching_by all layout g r.source (slice_get r.chain 0) r.chain

-- at most so many of them
abbrev pub source_blocks : (all : Bool) → (most : Option ℕ) → Layout → Graph → List Reaching → List Block
source_blocks all most layout g reaching = flat_map (reaching_blocks all layout g) (first_of most reaching) ++ more_blocks (left_out most (length reaching))

---- the document

-- the last directives of all chains
abbrev pub in_blocks : (most : Option ℕ) → Graph → (chains : List (List ℕ)) → List Block
in_blocks most g chains = listed most (codes " way in, by its last directive:") (codes " ways in, by their last directive:") (directives_of g (other_lasts None chains))

abbrev pub who_document : (all : Bool) → (most : Option ℕ) → Layout → Graph → List Reaching → (chains : List (List ℕ)) → List Block
who_document all most layout g reaching chains =
    Words (count_words layout g (length reaching)) ∷ source_blocks all most layout g reaching ++ in_blocks most g chains ++ unresolved_blocks all g
