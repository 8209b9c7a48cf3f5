-- The text that `rules` prints: which rules are broken, and by which chains or in which files.
use Rattle.std.specs.Prelude.{◌≡◌, ℕ, List, [], ◌++◌, None, if◌then◌else◌, codes, flat_map, length, map}
use Rattle.std.specs.List.{list_any}
use Rattle.inc_answers.specs.Terms.{Question}
use Rattle.inc_lookup.specs.Given.{Given}
use Rattle.inc_lookup.specs.Projects.{Layout, Listing, path_at}
use Rattle.inc_graph.specs.IncludeGraph.{Graph}
use Rattle.inc_rules.specs.Judging.{AreJudged, Judged, is_broken}
use Rattle.inc_rules.specs.Rules.{Rule}
use Rattle.inc_check.specs.Certificates.{marks_of}
use Rattle.inc_check.specs.Texts.{line_text}
use Rattle.inc_answers.specs.MarkTexts.{chains_text}
use Rattle.inc_answers.specs.Numbers.{count_text}
use Rattle.inc_answers.specs.Printed.{Printed, end_of}
use Rattle.inc_answers.specs.Questions.{Answer, IsAnswer, IsAnswerBy}
use Rattle.inc_answers.specs.Strictness.{Strict, strays_of}
use Rattle.inc_answers.specs.WhyText.{unresolved_text}
use Rattle.inc_answers.specs.declared.outcome.EndKind.{EndKind}
use Rattle.inc_answers.specs.declared.outcome.EndKind.TheVariants.{Answered, Negative}

-- the files that do not include what they must, each on a line
abbrev pub lacking_text : Layout → List ℕ → List ℕ
lacking_text layout files = count_text (codes "files") (length files) ++ flat_map (λ f. line_text (path_at layout f)) files

-- a rule that is broken, by the number of its line; then by which chains, and in which files
abbrev pub broken_text : Layout → Graph → Judged → List ℕ
broken_text layout g j =
    count_text (codes "broken") j.rule.line ++ chains_text None (map (marks_of layout g) j.chains) ++ lacking_text layout j.files

-- one that holds is not printed
abbrev pub judged_text : Layout → Graph → Judged → List ℕ
judged_text layout g j = if is_broken j then broken_text layout g j else []

-- how many rules there are, those that are broken, what was not found, and what nothing can be said of
abbrev pub rules_text : Layout → Graph → List Judged → List ℕ
rules_text layout g js = count_text (codes "rules") (length js) ++ flat_map (judged_text layout g) js ++ unresolved_text layout g

-- the call ends so: that a rule is broken is a negative answer
abbrev pub rules_kind : List Judged → EndKind
rules_kind js = if list_any is_broken js then Negative else Answered

abbrev pub rules_printed : Layout → Graph → List Judged → Printed
rules_printed layout g js = record { text = rules_text layout g js; end = end_of [] (rules_kind js) }

-- what `rules` prints of a graph
abbrev pub IsRulesOf : List Rule → Answer
IsRulesOf rules layout g p = (js : List Judged) × AreJudged layout g rules js × (p ≡ rules_printed layout g js)

-- what `rules` prints
abbrev pub IsRules : List Rule → Question → Listing → Printed → Type 0
IsRules rules q listing p = IsAnswer (Strict (strays_of q) (IsRulesOf rules)) q listing p

-- and which files are read for that
abbrev pub IsRulesBy : List Rule → Question → Printed → List Given → Listing → Type 0
IsRulesBy rules q p given listing = IsAnswerBy (Strict (strays_of q) (IsRulesOf rules)) q p given listing
