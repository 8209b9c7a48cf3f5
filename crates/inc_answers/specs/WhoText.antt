-- The text that `who` prints: which sources reach a header.
use Rattle.std.specs.Prelude.{◌≡◌, ℕ, Bool, true, false, List, [], ◌∷◌, ◌++◌, Option, length, flat_map, codes}
use Rattle.inc_answers.specs.Terms.{Question, is_whole}
use Rattle.inc_lookup.specs.Given.{Given}
use Rattle.inc_lookup.specs.Projects.{Layout, Listing, path_at}
use Rattle.inc_graph.specs.Chains.{AreChainsByLast}
use Rattle.inc_graph.specs.IncludeGraph.{Graph}
use Rattle.inc_graph.specs.Reaching.{Reaching, AreReaching}
use Rattle.inc_check.specs.Certificates.{marks_of}
use Rattle.inc_answers.specs.Bounds.{first_of, left_out}
use Rattle.inc_answers.specs.MarkTexts.{list_text, more_text}
use Rattle.inc_answers.specs.Numbers.{count_text, directive_text}
use Rattle.inc_answers.specs.AnswerNotes.{definition_notes, unreached_notes}
use Rattle.inc_answers.specs.Printed.{Printed, end_of, reached_kind}
use Rattle.inc_answers.specs.Questions.{Answer, IsAnswer, IsAnswerBy}
use Rattle.inc_answers.specs.Strictness.{Strict, strays_of}
use Rattle.inc_answers.specs.WhyText.{ways_text}
use Rattle.inc_answers.specs.declared.outcome.EndKind.{EndKind}
use Rattle.inc_answers.specs.declared.outcome.EndKind.TheVariants.{Answered}

-- the chain, where chains are asked for
abbrev pub chain_if : (with_chains : Bool) → Layout → Graph → List ℕ → List ℕ
chain_if true layout g chain = list_text (codes "chain") (marks_of layout g chain)
chain_if false layout g chain = []

-- how many directives the shortest chain from a source has, and the path of the source
abbrev pub reaching_text : (with_chains : Bool) → Layout → Graph → Reaching → List ℕ
reaching_text with_chains layout g r = directive_text (length r.chain) (path_at layout r.source) ++ chain_if with_chains layout g r.chain

-- how many sources reach a header, and at most so many of them
abbrev pub sources_text : (with_chains : Bool) → (most : Option ℕ) → Layout → Graph → List Reaching → List ℕ
sources_text with_chains most layout g reaching =
    count_text (codes "who") (length reaching) ++ flat_map (reaching_text with_chains layout g) (first_of most reaching) ++ more_text (left_out most (length reaching))

-- these, and what `why` prints after its shortest chain
abbrev pub who_text : (with_chains : Bool) → (most : Option ℕ) → Layout → Graph → List Reaching → List (List ℕ) → List ℕ
who_text with_chains most layout g reaching chains = sources_text with_chains most layout g reaching ++ ways_text most layout g chains

-- what is noted beside it: where files define names that no build defines, and where no source reaches a header of headers that are not
-- found, or that no configuration leads to one
abbrev pub who_notes : (whole : Bool) → Layout → Graph → List Reaching → List ℕ
who_notes whole layout g [] = unreached_notes whole layout g
who_notes whole layout g (r ∷ rs) = definition_notes layout g

-- the call ends so
abbrev pub who_kind : (fails : Bool) → List Reaching → EndKind
who_kind fails [] = Answered
who_kind fails (r ∷ rs) = reached_kind fails

-- with this text, and so
abbrev pub who_printed : (whole with_chains fails : Bool) → (most : Option ℕ) → Layout → Graph → List Reaching → List (List ℕ) → Printed
who_printed whole with_chains fails most layout g reaching chains =
    record { text = who_text with_chains most layout g reaching chains; end = end_of (who_notes whole layout g reaching) (who_kind fails reaching) }

-- what `who` prints of a graph, of files that are read as they are or not
abbrev pub IsWhoOf : (whole with_chains fails : Bool) → (most : Option ℕ) → Answer
IsWhoOf whole with_chains fails most layout g p =
    (reaching : List Reaching) × (chains : List (List ℕ)) × AreReaching g g.sources reaching × AreChainsByLast g 0 chains
    × (p ≡ who_printed whole with_chains fails most layout g reaching chains)

-- what `who` prints
abbrev pub IsWho : (with_chains fails : Bool) → (most : Option ℕ) → Question → Listing → Printed → Type 0
IsWho with_chains fails most q listing p = IsAnswer (Strict (strays_of q) (IsWhoOf (is_whole q) with_chains fails most)) q listing p

-- and which files are read for that
abbrev pub IsWhoBy : (with_chains fails : Bool) → (most : Option ℕ) → Question → Printed → List Given → Listing → Type 0
IsWhoBy with_chains fails most q p given listing = IsAnswerBy (Strict (strays_of q) (IsWhoOf (is_whole q) with_chains fails most)) q p given listing
