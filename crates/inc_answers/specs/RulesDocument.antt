-- The document in which `rules` says which rules are broken.
use Rattle.std.specs.Prelude.{ℕ, ◌==◌, List, [], ◌∷◌, ◌++◌, true, if◌then◌else◌, codes, count_by, decimal, flat_map, length, map}
use Rattle.inc_lookup.specs.Projects.{Layout, path_at}
use Rattle.inc_graph.specs.IncludeGraph.{Graph}
use Rattle.inc_rules.specs.Judging.{Judged, is_broken}
use Rattle.inc_rules.specs.RuleTexts.{joined}
use Rattle.inc_rules.specs.Rules.{Rule}
use Rattle.inc_rules.specs.declared.rules.Verb.{Verb}
use Rattle.inc_rules.specs.declared.rules.Verb.TheVariants.{IncludeFirst}
use Rattle.inc_answers.specs.Documents.{Block, Words, counted, edge_places}
use Rattle.inc_answers.specs.MissingNotes.{shown}
use Rattle.inc_answers.specs.WhyDocument.{unresolved_blocks}

-- a rule after the name of its list and the number of its line
abbrev pub rule_words : (name : List ℕ) → Rule → List ℕ
rule_words name r = shown name ++ codes ":" ++ decimal r.line ++ codes ": " ++ shown (joined r.words)

-- how a file must include one of the right side
abbrev pub how_words : Verb → List ℕ
how_words IncludeFirst = codes " first"
how_words verb = []

-- that a file does not include what it must
abbrev pub lacking_words : Layout → Rule → ℕ → List ℕ
lacking_words layout r f = shown (path_at layout f) ++ codes ": does not include " ++ shown r.right ++ how_words r.verb

abbrev pub lacking_blocks : Layout → Rule → List ℕ → List Block
lacking_blocks layout r files = map (λ f. Words (lacking_words layout r f)) files

-- a rule that is broken, each of its chains, and the files that do not include what they must
abbrev pub broken_blocks : (name : List ℕ) → Layout → Graph → Judged → List Block
broken_blocks name layout g j =
    Words (rule_words name j.rule) ∷ flat_map (edge_places g) j.chains ++ lacking_blocks layout j.rule j.files

-- one that holds is not printed
abbrev pub judged_blocks : (name : List ℕ) → Layout → Graph → Judged → List Block
judged_blocks name layout g j = if is_broken j then broken_blocks name layout g j else []

---- how many

-- the chains and the files of all rules
abbrev pub all_chains : List Judged → List (List ℕ)
all_chains js = flat_map (λ (j : Judged). j.chains) js

abbrev pub all_files : List Judged → List ℕ
all_files js = flat_map (λ (j : Judged). j.files) js

abbrev pub chain_words : ℕ → List ℕ
chain_words chains = counted chains (codes " chain") (codes " chains")

abbrev pub file_words : ℕ → List ℕ
file_words files = counted files (codes " file") (codes " files")

-- by what rules are broken: by chains, by files, or by both
abbrev pub break_words : (chains files : ℕ) → List ℕ
break_words chains files =
    if files == 0 then chain_words chains else
    if chains == 0 then file_words files else chain_words chains ++ codes " and " ++ file_words files

-- that so many of the rules are broken
abbrev pub some_words : (broken total : ℕ) → List ℕ
some_words broken total =
    counted broken (codes " rule of ") (codes " rules of ") ++ decimal total ++ (if broken == 1 then codes " is broken" else codes " are broken")

-- and by what, or that all hold
abbrev pub summary_by : (broken total chains files : ℕ) → List ℕ
summary_by broken total chains files =
    if broken == 0 then counted total (codes " rule holds") (codes " rules hold")
    else some_words broken total ++ codes ", by " ++ break_words chains files

abbrev pub summary_words : List Judged → List ℕ
summary_words js = summary_by (count_by is_broken js) (length js) (length (all_chains js)) (length (all_files js))

---- the document

abbrev pub rules_document : (name : List ℕ) → Layout → Graph → List Judged → List Block
rules_document name layout g js =
    flat_map (judged_blocks name layout g) js ++ Words (summary_words js) ∷ unresolved_blocks true g
