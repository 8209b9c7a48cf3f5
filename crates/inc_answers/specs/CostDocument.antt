-- The document in which `cost` says what brings most into the sources.
use Rattle.std.specs.Prelude.{ℕ, List, [], ◌∷◌, ◌++◌, true, codes, flat_map, length, slice_get, slice_index}
use Rattle.std.specs.Option.{option_map_or}
use Rattle.inc_lookup.specs.Projects.{Layout, path_at}
use Rattle.inc_graph.specs.IncludeGraph.{Edge, Graph}
use Rattle.inc_answers.specs.CostGroups.{Costed}
use Rattle.inc_answers.specs.CostText.{Amounts, Ranked}
use Rattle.inc_answers.specs.Documents.{Block, Led, Words, counted}
use Rattle.inc_answers.specs.MissingNotes.{shown}
use Rattle.inc_answers.specs.WhyDocument.{unresolved_blocks}
use Rattle.inc_answers.specs.declared.cost_groups.CutCount.{CutCount}
use Rattle.inc_answers.specs.declared.cost_groups.CutCount.TheVariants.{Blocked, Fixed, Smallest}

---- amounts

-- so many bytes, of so many sources
abbrev pub bytes_words : (bytes count : ℕ) → List ℕ
bytes_words bytes count = counted bytes (codes " byte, ") (codes " bytes, ") ++ counted count (codes " source") (codes " sources")

abbrev pub amount_words : Amounts → (place : ℕ) → List ℕ
amount_words a place = bytes_words (slice_index a.bytes place) (slice_index a.counts place)

-- how many sources there are, and what they reach together
abbrev pub total_words : (total sources : ℕ) → List ℕ
total_words total sources = counted sources (codes " source reaches ") (codes " sources reach ") ++ counted total (codes " byte") (codes " bytes")

---- lists

-- blocks of these below a line that says what they are; nothing where there are none
abbrev pub below : (words : List ℕ) → (places : List ℕ) → List Block → List Block
below words [] blocks = []
below words (i ∷ is) blocks = Words words ∷ blocks

-- what a header brings
abbrev pub header_words : Layout → Amounts → (file : ℕ) → List ℕ
header_words layout brought f = shown (path_at layout f) ++ codes ": " ++ amount_words brought f

abbrev pub header_block : Layout → Amounts → (file : ℕ) → List Block
header_block layout brought f = Words (header_words layout brought f) ∷ []

abbrev pub header_blocks : Layout → Amounts → List ℕ → List Block
header_blocks layout brought headers =
    below (codes "headers, by what comes in through each alone:") headers (flat_map (header_block layout brought) headers)

-- by how many directives a group is kept out
abbrev pub by_words : CutCount → List ℕ
by_words Blocked = codes ", it is open by how many directives"
by_words Fixed = codes ", by no directives"
by_words (Smallest n) = codes ", by " ++ counted n (codes " directive") (codes " directives")

abbrev pub group_words : Costed → List ℕ
group_words c = shown c.name ++ codes ": " ++ bytes_words c.bytes c.count ++ by_words c.cut

-- of the group at a place
abbrev pub group_block : List Costed → (place : ℕ) → List Block
group_block cs place = option_map_or (λ (c : Costed). Words (group_words c) ∷ []) (slice_get cs place) []

abbrev pub group_blocks : List Costed → (places : List ℕ) → List Block
group_blocks cs places = below (codes "groups of headers, by what goes if none of them is read:") places (flat_map (group_block cs) places)

-- what goes with an edge, before its directive
abbrev pub led_edge : (words : List ℕ) → Edge → List Block
led_edge words e = Led words (record { file = e.from; line = e.line }) ∷ []

abbrev pub edge_block : Graph → Amounts → (edge : ℕ) → List Block
edge_block g saved i = option_map_or (led_edge (amount_words saved i ++ codes ": ")) (slice_get g.edges i) []

abbrev pub edge_blocks : Graph → Amounts → (edges : List ℕ) → List Block
edge_blocks g saved edges = below (codes "directives, by what goes if each alone is removed:") edges (flat_map (edge_block g saved) edges)

---- the document

abbrev pub cost_document : Layout → Graph → Ranked → List Block
cost_document layout g r =
    Words (total_words r.total (length g.sources)) ∷ header_blocks layout r.brought r.headers
    ++ group_blocks r.costed r.groups ++ edge_blocks g r.saved r.edges ++ unresolved_blocks true g
