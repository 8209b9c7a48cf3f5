-- The object in which `rules` answers.
use Rattle.std.specs.Prelude.{ℕ, List, ◌++◌, codes, filter, length, map}
use Rattle.inc_rules.specs.Judging.{Judged, is_broken}
use Rattle.inc_rules.specs.RuleTexts.{joined}
use Rattle.inc_answers.specs.JsonAnswers.{About, blocked_text, chains_text, files_text, missing_text, status_text}
use Rattle.inc_answers.specs.JsonTexts.{bytes_member, list_of, number_member}
use Rattle.inc_answers.specs.declared.outcome.EndKind.{EndKind}

-- a rule that is broken, of a list with this name
abbrev pub broken_item : (name : List ℕ) → About → Judged → List ℕ
broken_item name a j =
    codes "{\"chains\":" ++ chains_text a j.chains ++ codes ",\"files\":" ++ files_text a j.files ++ codes ","
    ++ number_member (codes "line") j.rule.line ++ codes "," ++ bytes_member (codes "path") name ++ codes ","
    ++ bytes_member (codes "rule") (joined j.rule.words) ++ codes "}"

-- those that are broken, in order
abbrev pub broken_items : (name : List ℕ) → About → List Judged → List (List ℕ)
broken_items name a js = map (broken_item name a) (filter is_broken js)

-- of a call that ends so
abbrev pub rules_json : EndKind → (name : List ℕ) → About → List Judged → List ℕ
rules_json kind name a js =
    codes "{\"blocked\":" ++ blocked_text a ++ codes ",\"broken\":" ++ list_of (broken_items name a js)
    ++ codes ",\"command\":\"rules\",\"format\":1,\"missing\":" ++ missing_text a ++ codes "," ++ number_member (codes "rules") (length js)
    ++ status_text kind ++ codes "}\n"
