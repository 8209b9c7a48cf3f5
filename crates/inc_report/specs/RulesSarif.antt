-- What `rules` prints as SARIF 2.1.0 (OASIS), which code hosts read: one object on one line, with its keys in the order of their bytes.
use Rattle.std.specs.Prelude.{◌≡◌, ℕ, ◌+◌, ◌-◌, ◌/◌, ◌%◌, ◌==◌, ◌||◌, Bool, List, [], ◌∷◌, ◌++◌, Option, if◌then◌else◌, codes, decimal, flat_map, length, map, nat_lt, option_and_then, slice_get}
use Rattle.std.specs.Char.{is_ascii_alphanumeric}
use Rattle.std.specs.Option.{option_map_or}
use Rattle.inc_lookup.specs.Given.{Given}
use Rattle.inc_lookup.specs.Projects.{Layout, Listing, path_at}
use Rattle.inc_graph.specs.IncludeGraph.{Edge, Graph}
use Rattle.inc_rules.specs.Judging.{AreJudged, Judged}
use Rattle.inc_rules.specs.RuleTexts.{joined}
use Rattle.inc_rules.specs.Rules.{Rule}
use Rattle.inc_text.specs.Ascii.{percent, slash}
use Rattle.inc_answers.specs.JsonTexts.{list_of, quoted, string_text}
use Rattle.inc_answers.specs.MissingNotes.{shown}
use Rattle.inc_answers.specs.Printed.{Printed, end_of}
use Rattle.inc_answers.specs.Questions.{Answer, IsAnswer, IsAnswerBy}
use Rattle.inc_report.specs.RulesText.{rules_kind}
use Rattle.inc_answers.specs.Strictness.{Strict, strays_of}
use Rattle.inc_answers.specs.Terms.{Question, RuleList}

---- places

-- a digit in base 16, with capital letters
abbrev pub capital_digit : ℕ → ℕ
capital_digit n = if nat_lt n 10 then 48 + n else 55 + n

-- a byte that stands for itself in the path of a URI (RFC 3986, 2.3): a letter, a digit, or one of - . _ ~, or the / between its parts
abbrev pub is_plain : ℕ → Bool
is_plain b = is_ascii_alphanumeric b || b == 45 || b == 46 || b == 95 || b == 126 || b == slash

-- any other is % and its digits
abbrev pub uri_byte : ℕ → List ℕ
uri_byte b = if is_plain b then b ∷ [] else percent ∷ capital_digit (b / 16) ∷ capital_digit (b % 16) ∷ []

-- a path as a string
abbrev pub uri_text : (path : List ℕ) → List ℕ
uri_text path = quoted (flat_map uri_byte path)

-- what the place of a file begins with
abbrev pub place_start : (path : List ℕ) → List ℕ
place_start path = codes "{\"physicalLocation\":{\"artifactLocation\":{\"uri\":" ++ uri_text path ++ codes "}"

-- a file
abbrev pub file_place : (path : List ℕ) → List ℕ
file_place path = place_start path ++ codes "}}"

-- a line of it
abbrev pub line_place : (path : List ℕ) → (line : ℕ) → List ℕ
line_place path line = place_start path ++ codes ",\"region\":{\"startLine\":" ++ decimal line ++ codes "}}}"

-- the directive of an edge
abbrev pub edge_place : Layout → Edge → List ℕ
edge_place layout e = line_place (path_at layout e.from) e.line

---- chains

-- the edge at a place of a chain
abbrev pub edge_in : Graph → (chain : List ℕ) → (place : ℕ) → Option Edge
edge_in g chain place = option_and_then (slice_get g.edges) (slice_get chain place)

-- the file that a chain begins in, and the one that it leads to
abbrev pub first_path : Layout → Graph → (chain : List ℕ) → List ℕ
first_path layout g chain = option_map_or (λ (e : Edge). path_at layout e.from) (edge_in g chain 0) []

abbrev pub last_path : Layout → Graph → (chain : List ℕ) → List ℕ
last_path layout g chain = option_map_or (λ (e : Edge). path_at layout e.to) (edge_in g chain (length chain - 1)) []

-- its first directive
abbrev pub first_place : Layout → Graph → (chain : List ℕ) → List ℕ
first_place layout g chain = option_map_or (edge_place layout) (edge_in g chain 0) []

-- each of its directives
abbrev pub step_item : Layout → Graph → (edge : ℕ) → List ℕ
step_item layout g i = codes "{\"location\":" ++ option_map_or (edge_place layout) (slice_get g.edges i) [] ++ codes "}"

abbrev pub steps_text : Layout → Graph → (chain : List ℕ) → List ℕ
steps_text layout g chain = list_of (map (step_item layout g) chain)

---- rules

-- a rule of a list with this name, and its place among the rules, from 0
pub record Listed : Type 0 where
  pub name : List ℕ
  pub place : ℕ
  pub rule : Rule

-- what it is called
abbrev pub id_text : (name : List ℕ) → (line : ℕ) → List ℕ
id_text name line = string_text (shown name ++ codes ":" ++ decimal line)

abbrev pub rule_words : Rule → List ℕ
rule_words r = shown (joined r.words)

abbrev pub rule_item : (name : List ℕ) → Rule → List ℕ
rule_item name r =
    codes "{\"id\":" ++ id_text name r.line ++ codes ",\"shortDescription\":{\"text\":" ++ string_text (rule_words r) ++ codes "}}"

---- results

-- what is said of a chain, and of a file that does not include what it must
abbrev pub chain_words : Layout → Graph → Rule → (chain : List ℕ) → List ℕ
chain_words layout g r chain =
    shown (first_path layout g chain) ++ codes " leads to " ++ shown (last_path layout g chain) ++ codes ": " ++ rule_words r

abbrev pub file_words : Layout → Rule → (file : ℕ) → List ℕ
file_words layout r f = shown (path_at layout f) ++ codes ": " ++ rule_words r

-- that, and of which rule
abbrev pub message_text : Listed → (words : List ℕ) → List ℕ
message_text l words =
    codes ",\"message\":{\"text\":" ++ string_text words ++ codes "},\"ruleId\":" ++ id_text l.name l.rule.line
    ++ codes ",\"ruleIndex\":" ++ decimal l.place ++ codes "}"

abbrev pub chain_result : Layout → Graph → Listed → (chain : List ℕ) → List ℕ
chain_result layout g l chain =
    codes "{\"codeFlows\":[{\"threadFlows\":[{\"locations\":" ++ steps_text layout g chain ++ codes "}]}],\"level\":\"error\",\"locations\":["
    ++ first_place layout g chain ++ codes "]" ++ message_text l (chain_words layout g l.rule chain)

abbrev pub file_result : Layout → Listed → (file : ℕ) → List ℕ
file_result layout l f =
    codes "{\"level\":\"error\",\"locations\":[" ++ file_place (path_at layout f) ++ codes "]" ++ message_text l (file_words layout l.rule f)

-- those of a rule at a place: one for each chain, and then one for each file. Of a rule that holds there are none
abbrev pub rule_results : Layout → Graph → (name : List ℕ) → (place : ℕ) → Judged → List (List ℕ)
rule_results layout g name place j =
    let l : Listed = record { name = name; place = place; rule = j.rule } in
    map (chain_result layout g l) j.chains ++ map (file_result layout l) j.files

-- those of rules from this place on
abbrev pub results_from : Layout → Graph → (name : List ℕ) → (place : ℕ) → List Judged → List (List ℕ)
results_from layout g name place [] = []
results_from layout g name place (j ∷ js) = rule_results layout g name place j ++ results_from layout g name (place + 1) js

---- the object

abbrev pub sarif_text : (name : List ℕ) → Layout → Graph → List Judged → List ℕ
sarif_text name layout g js =
    codes "{\"$schema\":\"https://json.schemastore.org/sarif-2.1.0.json\",\"runs\":[{\"results\":" ++ list_of (results_from layout g name 0 js)
    ++ codes ",\"tool\":{\"driver\":{\"name\":\"incut\",\"rules\":" ++ list_of (map (λ (j : Judged). rule_item name j.rule) js)
    ++ codes "}}}],\"version\":\"2.1.0\"}\n"

abbrev pub sarif_printed : (name : List ℕ) → Layout → Graph → List Judged → Printed
sarif_printed name layout g js = record { text = sarif_text name layout g js; end = end_of [] (rules_kind js) }

-- what is printed of a graph
abbrev pub IsSarifOf : RuleList → Answer
IsSarifOf list layout g p = (js : List Judged) × AreJudged layout g list.rules js × (p ≡ sarif_printed list.name layout g js)

-- what is printed
abbrev pub IsSarif : RuleList → Question → Listing → Printed → Type 0
IsSarif list q listing p = IsAnswer (Strict (strays_of q) (IsSarifOf list)) q listing p

-- and which files are read for that
abbrev pub IsSarifBy : RuleList → Question → Printed → List Given → Listing → Type 0
IsSarifBy list q p given listing = IsAnswerBy (Strict (strays_of q) (IsSarifOf list)) q p given listing
