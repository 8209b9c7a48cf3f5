-- The text that `why` prints: how a header reaches a source.
use Rattle.std.specs.Prelude.{◌≡◌, ℕ, Bool, List, [], ◌++◌, Option, Some, None, length, map, option_map, codes}
use Rattle.inc_answers.specs.Terms.{Question, is_whole}
use Rattle.inc_lookup.specs.Given.{Given}
use Rattle.inc_lookup.specs.Projects.{Layout, Listing}
use Rattle.inc_graph.specs.Chains.{IsShortestOrNone, AreChainsByLast}
use Rattle.inc_graph.specs.IncludeGraph.{Graph}
use Rattle.inc_graph.specs.Marks.{Mark}
use Rattle.inc_check.specs.Certificates.{marks_of}
use Rattle.inc_check.specs.Texts.{line_text}
use Rattle.inc_answers.specs.MarkTexts.{missing_mark, list_text, chains_text, blockers_text}
use Rattle.inc_answers.specs.Numbers.{count_text}
use Rattle.inc_answers.specs.AnswerNotes.{definition_notes, unreached_notes}
use Rattle.inc_answers.specs.Printed.{Printed, end_of, reached_kind}
use Rattle.inc_answers.specs.Questions.{Answer, IsAnswer, IsAnswerBy}
use Rattle.inc_answers.specs.Strictness.{Strict, strays_of}
use Rattle.inc_answers.specs.declared.outcome.EndKind.{EndKind}
use Rattle.inc_answers.specs.declared.outcome.EndKind.TheVariants.{Answered}

abbrev pub shortest_text : Option (List Mark) → List ℕ
shortest_text None = line_text (codes "shortest none")
shortest_text (Some chain) = list_text (codes "shortest") chain

-- what was not found; what nothing can be said of
abbrev pub unresolved_text : Layout → Graph → List ℕ
unresolved_text layout g =
    list_text (codes "missing") (map (missing_mark layout) g.missing)
    ++ count_text (codes "blocked") (length g.blockers) ++ blockers_text layout g.blockers

-- for each edge into the header the shortest chain that it ends, at most so many, and this
abbrev pub ways_text : (most : Option ℕ) → Layout → Graph → List (List ℕ) → List ℕ
ways_text most layout g chains = chains_text most (map (marks_of layout g) chains) ++ unresolved_text layout g

-- a shortest chain, and these
abbrev pub why_text : (most : Option ℕ) → Layout → Graph → Option (List ℕ) → List (List ℕ) → List ℕ
why_text most layout g shortest chains = shortest_text (option_map (marks_of layout g) shortest) ++ ways_text most layout g chains

-- what is noted beside it: where files define names that no build defines, and where there is no chain of headers that are not found, or
-- that no configuration leads to the header
abbrev pub why_notes : (whole : Bool) → Layout → Graph → Option (List ℕ) → List ℕ
why_notes whole layout g None = unreached_notes whole layout g
why_notes whole layout g (Some chain) = definition_notes layout g

-- the call ends so
abbrev pub why_kind : (fails : Bool) → Option (List ℕ) → EndKind
why_kind fails None = Answered
why_kind fails (Some chain) = reached_kind fails

-- with this text, and so
abbrev pub why_printed : (whole fails : Bool) → (most : Option ℕ) → Layout → Graph → Option (List ℕ) → List (List ℕ) → Printed
why_printed whole fails most layout g shortest chains =
    record { text = why_text most layout g shortest chains; end = end_of (why_notes whole layout g shortest) (why_kind fails shortest) }

-- what `why` prints of a graph, of files that are read as they are or not
abbrev pub IsWhyOf : (whole fails : Bool) → (most : Option ℕ) → Answer
IsWhyOf whole fails most layout g p =
    (shortest : Option (List ℕ)) × (chains : List (List ℕ)) × IsShortestOrNone g shortest × AreChainsByLast g 0 chains
    × (p ≡ why_printed whole fails most layout g shortest chains)

-- what `why` prints
abbrev pub IsWhy : (fails : Bool) → (most : Option ℕ) → Question → Listing → Printed → Type 0
IsWhy fails most q listing p = IsAnswer (Strict (strays_of q) (IsWhyOf (is_whole q) fails most)) q listing p

-- and which files are read for that
abbrev pub IsWhyBy : (fails : Bool) → (most : Option ℕ) → Question → Printed → List Given → Listing → Type 0
IsWhyBy fails most q p given listing = IsAnswerBy (Strict (strays_of q) (IsWhyOf (is_whole q) fails most)) q p given listing
