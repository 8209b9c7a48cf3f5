-- The document in which `why` tells how a header reaches a source.
use Rattle.std.specs.Prelude.{ℕ, ◌-◌, ◌==◌, Bool, true, false, List, [], ◌∷◌, ◌++◌, Option, Some, None, if◌then◌else◌, codes, decimal, filter_map, find, flat_map, length, map, slice_get}
use Rattle.std.specs.Option.{option_map_or}
use Rattle.inc_lookup.specs.declared.projects.DirectiveId.{DirectiveId}
use Rattle.inc_lookup.specs.Projects.{Layout, path_at}
use Rattle.inc_graph.specs.Cuts.{directives_of}
use Rattle.inc_graph.specs.IncludeGraph.{Edge, Graph}
use Rattle.inc_graph.specs.Members.{is_member}
use Rattle.inc_graph.specs.MissingLists.{Missing}
use Rattle.inc_graph.specs.declared.graphs.Blocker.{Blocker}
use Rattle.inc_graph.specs.declared.graphs.BlockerKind.{BlockerKind}
use Rattle.inc_graph.specs.declared.graphs.BlockerKind.TheVariants.{Computed, Foreign, Several}
use Rattle.inc_answers.specs.Bounds.{first_of, left_out}
use Rattle.inc_answers.specs.Documents.{Block, Words, counted, edge_places, listed, more_blocks}
use Rattle.inc_answers.specs.MissingNotes.{shown}

---- sources and headers

-- the header, or how many there are
abbrev pub headers_words : (one several : List ℕ) → Layout → (headers : List ℕ) → List ℕ
headers_words one several layout (t ∷ []) = one ++ shown (path_at layout t)
headers_words one several layout ts = several ++ decimal (length ts) ++ codes " headers"

-- that none of so many sources includes what follows
abbrev pub none_of : ℕ → List ℕ
none_of count = codes "none of " ++ decimal count ++ codes " sources includes "

-- that a source includes no header
abbrev pub unreached_from : Layout → (source : ℕ) → (headers : List ℕ) → List ℕ
unreached_from layout s ts = shown (path_at layout s) ++ codes " does not include " ++ headers_words [] (codes "one of ") layout ts

-- that none of the sources does
abbrev pub unreached_of : Layout → (sources headers : List ℕ) → List ℕ
unreached_of layout (s ∷ []) ts = unreached_from layout s ts
unreached_of layout ss ts = none_of (length ss) ++ headers_words (codes "the header ") (codes "one of ") layout ts

abbrev pub unreached_words : Layout → Graph → List ℕ
unreached_words layout g = unreached_of layout g.sources g.headers

-- that the first source that is a header is one
abbrev pub itself_words : Layout → Graph → List ℕ
itself_words layout g =
    option_map_or (λ s. shown (path_at layout s)) (find (λ s. is_member s g.headers) g.sources) [] ++ codes " is itself the header"

---- the shortest chain

-- the file that an edge leaves, and that to which it leads
abbrev pub edge_from : Graph → ℕ → ℕ
edge_from g i = option_map_or (λ (e : Edge). e.from) (slice_get g.edges i) 0

abbrev pub edge_to : Graph → ℕ → ℕ
edge_to g i = option_map_or (λ (e : Edge). e.to) (slice_get g.edges i) 0

-- the last edge of a chain, if it has one
abbrev pub last_of : List ℕ → Option ℕ
last_of chain = slice_get chain (length chain - 1)

-- that a file includes another one
abbrev pub ends_words : Layout → (from to : ℕ) → List ℕ
ends_words layout from to = shown (path_at layout from) ++ codes " includes " ++ shown (path_at layout to)

-- how many directives follow
abbrev pub by_words : (count : ℕ) → List ℕ
by_words count = codes " by " ++ counted count (codes " directive:") (codes " directives:")

-- that the file which the first edge leaves includes that to which the last leads
abbrev pub reached_words : Layout → Graph → (first last : ℕ) → (count : ℕ) → List ℕ
reached_words layout g first last count = ends_words layout (edge_from g first) (edge_to g last) ++ by_words count

-- a chain from its first edge to its last
abbrev pub reached_by : Layout → Graph → List ℕ → (first : ℕ) → (last : Option ℕ) → List Block
reached_by layout g chain first None = []
reached_by layout g chain first (Some last) = Words (reached_words layout g first last (length chain)) ∷ edge_places g chain

abbrev pub shortest_blocks : Layout → Graph → List ℕ → List Block
shortest_blocks layout g [] = Words (itself_words layout g) ∷ []
shortest_blocks layout g (i ∷ is) = reached_by layout g (i ∷ is) i (last_of (i ∷ is))

---- the other chains

-- the two edges are one
abbrev pub is_same : Option ℕ → Option ℕ → Bool
is_same (Some a) (Some b) = a == b
is_same _ _ = false

-- the last edge of a chain, unless it is that of the shortest
abbrev pub other_last : (last : Option ℕ) → List ℕ → Option ℕ
other_last last chain = if is_same (last_of chain) last then None else last_of chain

abbrev pub other_lasts : (last : Option ℕ) → List (List ℕ) → List ℕ
other_lasts last chains = filter_map (other_last last) chains

-- a chain with how long it is
abbrev pub way_words : (count : ℕ) → List ℕ
way_words count = codes "another way in, by " ++ counted count (codes " directive:") (codes " directives:")

abbrev pub whole_way : Graph → List ℕ → List Block
whole_way g chain = Words (way_words (length chain)) ∷ edge_places g chain

-- the same, unless its last edge is that of the shortest
abbrev pub way_blocks : (last : Option ℕ) → Graph → List ℕ → List Block
way_blocks last g chain = if is_same (last_of chain) last then [] else whole_way g chain

-- of at most so many chains each of the others whole
abbrev pub whole_ways : (most last : Option ℕ) → Graph → List (List ℕ) → List Block
whole_ways most last g chains = flat_map (way_blocks last g) (first_of most chains) ++ more_blocks (left_out most (length chains))

-- the last directives of the other chains, or each whole
abbrev pub other_blocks : (all : Bool) → (most last : Option ℕ) → Graph → List (List ℕ) → List Block
other_blocks true most last g chains = whole_ways most last g chains
other_blocks false most last g chains =
    listed most (codes " other way in, by its last directive (--all shows the chain):") (codes " other ways in, by their last directive (--all shows each chain):")
    (directives_of g (other_lasts last chains))

---- what is not found, and what nothing can be said of

abbrev pub missing_id : Missing → DirectiveId
missing_id m = record { file = m.file; line = m.line }

abbrev pub missing_blocks : List Missing → List Block
missing_blocks ms =
    listed None (codes " include names a header that was not found:") (codes " includes name headers that were not found:") (map missing_id ms)

abbrev pub is_kind : BlockerKind → BlockerKind → Bool
is_kind Computed Computed = true
is_kind Foreign Foreign = true
is_kind Several Several = true
is_kind _ _ = false

abbrev pub blocker_if : BlockerKind → Blocker → Option DirectiveId
blocker_if kind b = if is_kind kind b.kind then Some (record { file = b.file; line = b.line }) else None

abbrev pub blocker_ids : BlockerKind → List Blocker → List DirectiveId
blocker_ids kind bs = filter_map (blocker_if kind) bs

abbrev pub blocker_blocks : List Blocker → List Block
blocker_blocks bs =
    listed None (codes " include may name any header, since macros make its name:") (codes " includes may name any header, since macros make their names:") (blocker_ids Computed bs)
    ++ listed None (codes " directive may include any header, since it is none of the language:") (codes " directives may include any header, since they are none of the language:") (blocker_ids Foreign bs)
    ++ listed None (codes " include leads to several files, by how its own file is found:") (codes " includes lead to several files, by how their own files are found:") (blocker_ids Several bs)

abbrev pub unresolved_blocks : (all : Bool) → Graph → List Block
unresolved_blocks true g = missing_blocks g.missing ++ blocker_blocks g.blockers
unresolved_blocks false g = blocker_blocks g.blockers

---- the document

abbrev pub reached_document : (all : Bool) → (most : Option ℕ) → Layout → Graph → (chain : List ℕ) → (chains : List (List ℕ)) → List Block
reached_document all most layout g chain chains =
    shortest_blocks layout g chain ++ other_blocks all most (last_of chain) g chains ++ unresolved_blocks all g

abbrev pub unreached_document : (all : Bool) → Layout → Graph → List Block
unreached_document all layout g = Words (unreached_words layout g) ∷ unresolved_blocks all g

abbrev pub why_document : (all : Bool) → (most : Option ℕ) → Layout → Graph → (shortest : Option (List ℕ)) → (chains : List (List ℕ)) → List Block
why_document all most layout g None chains = unreached_document all layout g
why_document all most layout g (Some chain) chains = reached_document all most layout g chain chains
