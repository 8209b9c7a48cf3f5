-- The document in which `cut` tells which directives to remove.
use Rattle.std.specs.Prelude.{ℕ, ◌+◌, ◌==◌, Bool, true, false, List, [], ◌∷◌, ◌++◌, Option, if◌then◌else◌, codes, decimal, length}
use Rattle.inc_lookup.specs.Projects.{Layout, path_at}
use Rattle.inc_graph.specs.Cuts.{Counted}
use Rattle.inc_graph.specs.IncludeGraph.{Graph}
use Rattle.inc_graph.specs.Marks.{Cost}
use Rattle.inc_answers.specs.Bounds.{first_of, left_out}
use Rattle.inc_answers.specs.Documents.{Block, Words, counted, edge_places, more_blocks}
use Rattle.inc_answers.specs.MissingNotes.{shown}
use Rattle.inc_answers.specs.WhyDocument.{headers_words, itself_words, none_of, unreached_words}

---- the cut

-- that a source includes no header any longer
abbrev pub parted_from : Layout → (source : ℕ) → (headers : List ℕ) → List ℕ
parted_from layout s ts = shown (path_at layout s) ++ codes " no longer includes " ++ headers_words [] (codes "any of ") layout ts

-- that none of so many does
abbrev pub parted_all : Layout → (count : ℕ) → (headers : List ℕ) → List ℕ
parted_all layout count ts = none_of count ++ headers_words (codes "the header ") (codes "any of ") layout ts ++ codes " any longer"

abbrev pub parted_of : Layout → (sources headers : List ℕ) → List ℕ
parted_of layout (s ∷ []) ts = parted_from layout s ts
parted_of layout ss ts = parted_all layout (length ss) ts

abbrev pub removal_words : Layout → Graph → (count : ℕ) → List ℕ
removal_words layout g count =
    codes "remove " ++ counted count (codes " directive, and ") (codes " directives, and ") ++ parted_of layout g.sources g.headers ++ codes ":"

---- the chains that show that none is cheaper

-- where no costs are given, and where some are
abbrev pub least_words : (costed : Bool) → List ℕ
least_words false = codes "no smaller set does: "
least_words true = codes "no cheaper set does: "

abbrev pub one_chain : (costed : Bool) → List ℕ
one_chain false = codes " chain that shares no removable directive"
one_chain true = codes " chain that passes no directive more often than it costs"

abbrev pub many_chains : (costed : Bool) → List ℕ
many_chains false = codes " chains that share no removable directive"
many_chains true = codes " chains that pass no directive more often than it costs"

-- where the chains are
abbrev pub where_words : (all : Bool) → (count : ℕ) → List ℕ
where_words true count = codes ":"
where_words false count = if count == 1 then codes " (--all shows it)" else codes " (--all shows them)"

abbrev pub proof_words : (all costed : Bool) → (count : ℕ) → List ℕ
proof_words all costed count =
    least_words costed ++ counted count (one_chain costed) (many_chains costed) ++ where_words all count

-- how often a chain counts, where that is not once
abbrev pub often_words : (count : ℕ) → List ℕ
often_words count = if count == 1 then codes ":" else codes ", counted " ++ decimal count ++ codes " times:"

abbrev pub chain_words : (number total : ℕ) → (len count : ℕ) → List ℕ
chain_words number total len count =
    codes "chain " ++ decimal number ++ codes " of " ++ decimal total ++ codes ", by "
    ++ counted len (codes " directive") (codes " directives") ++ often_words count

abbrev pub chain_blocks : Graph → (number total : ℕ) → Counted → List Block
chain_blocks g number total c = Words (chain_words number total (length c.chain) c.count) ∷ edge_places g c.chain

-- each of these, the first of which has this number
abbrev pub chains_from : Graph → (number total : ℕ) → List Counted → List Block
chains_from g number total [] = []
chains_from g number total (c ∷ cs) = chain_blocks g number total c ++ chains_from g (number + 1) total cs

-- at most so many of them, if they are to be shown
abbrev pub shown_chains : (all : Bool) → (most : Option ℕ) → Graph → List Counted → List Block
shown_chains true most g chains = chains_from g 1 (length chains) (first_of most chains) ++ more_blocks (left_out most (length chains))
shown_chains false most g chains = []

-- how many there are, and these
abbrev pub proof_blocks : (all costed : Bool) → (most : Option ℕ) → Graph → List Counted → List Block
proof_blocks all costed most g chains = Words (proof_words all costed (length chains)) ∷ shown_chains all most g chains

---- the document

abbrev pub cut_document : (all costed : Bool) → (most : Option ℕ) → Layout → Graph → (set : List ℕ) → List Counted → List Block
cut_document all costed most layout g [] chains = Words (codes "nothing to remove: " ++ unreached_words layout g) ∷ []
cut_document all costed most layout g (i ∷ is) chains =
    Words (removal_words layout g (length (i ∷ is))) ∷ edge_places g (i ∷ is) ++ proof_blocks all costed most g chains

-- of a chain of fixed edges
abbrev pub fixed_document : Layout → Graph → List ℕ → List Block
fixed_document layout g [] = Words (codes "no cut: " ++ itself_words layout g) ∷ []
fixed_document layout g (i ∷ is) = Words (codes "no cut: this chain may not be removed:") ∷ edge_places g (i ∷ is)

-- some costs are given
abbrev pub has_costs : List Cost → Bool
has_costs [] = false
has_costs (c ∷ cs) = true
