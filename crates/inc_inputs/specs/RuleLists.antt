-- The rules that words give, as a file of them or as the words themselves, what may still break them, and the files that they are about.
use Rattle.std.specs.Prelude.{◌≡◌, ℕ, ◌&&◌, Bool, true, false, List, [], ◌∷◌, ◌++◌, Option, Some, None, Result, Ok, Err, codes, filter, flat_map, is_some, unwrap_or}
use Rattle.std.specs.List.{list_any}
use Rattle.inc_lookup.specs.Projects.{Layout}
use Rattle.inc_rules.specs.Rules.{Fault, Rule, is_left, rules_of}
use Rattle.inc_args.specs.Meaning.{RuleWords}
use Rattle.inc_inputs.specs.Baselines.{Baseline, named_of}
use Rattle.inc_inputs.specs.Ends.{EndPaths}
use Rattle.inc_inputs.specs.Inputs.{Gives}
use Rattle.inc_inputs.specs.Reports.{Report, input_twice, malformed_rules, no_file, no_rules, no_subject, two_baselines}
use Rattle.inc_inputs.specs.Steps.{Step, comes_to, judged, reads, then}
use Rattle.inc_inputs.specs.Texts.{are_twice, names_input, unless_reported}

-- words as the lines of a text
abbrev pub lines_of_words : List (List ℕ) → List ℕ
lines_of_words words = flat_map (λ w. w ++ 10 ∷ []) words

abbrev pub rule_text_by : {S : Type 0} → Gives S → (file : Option (List ℕ)) → (rules : List (List ℕ)) → Step S (List ℕ)
rule_text_by gives (Some name) [] = reads gives name
rule_text_by gives None (r ∷ rs) = comes_to (Ok (lines_of_words (r ∷ rs)))
rule_text_by gives file rules = comes_to (Err no_rules)

-- the text of the rules
abbrev pub rule_text : {S : Type 0} → Gives S → RuleWords → Step S (List ℕ)
rule_text gives w = rule_text_by gives w.file w.rules

-- how their list is called: by its file, or by the option that gives them
abbrev pub rule_name : RuleWords → List ℕ
rule_name w = unwrap_or w.file (codes "-e")

-- the rules of a text of this name, or what is wrong with one of its lines
abbrev pub AreRules : (name text : List ℕ) → Result (List Rule) Report → Type 0
AreRules name text (Ok rules) = rules_of text ≡ Ok rules
AreRules name text (Err r) = (line : ℕ) × (f : Fault) × (rules_of text ≡ Err (line, f)) × (r ≡ malformed_rules name line f)

-- rules, and the directives that may still break them
pub record Ruled : Type 0 where
  pub rules : List Rule
  pub baseline : Baseline

-- once the rules are known
abbrev pub ruled : {S : Type 0} → Gives S → RuleWords → List Rule → Step S Ruled
ruled gives w rules =
    then (named_of gives w.baseline) (λ lines. comes_to (Ok (record { rules = rules; baseline = record { name = w.baseline; lines = lines } })))

-- once their text is
abbrev pub rules_by : {S : Type 0} → Gives S → RuleWords → (text : List ℕ) → Step S Ruled
rules_by gives w text = then (judged (AreRules (rule_name w) text)) (λ rules. ruled gives w rules)

-- a report where something is so, or that of what is looked at next
abbrev pub reported_if : Bool → Report → (next : Option Report) → Option Report
reported_if true r next = Some r
reported_if false r next = next

-- a baseline is read or written, it is written to a file, and standard input is read once at most
abbrev pub words_report : RuleWords → Option Report
words_report w =
    reported_if (is_some w.baseline && is_some w.written) two_baselines
    (reported_if (names_input w.written) no_file (reported_if (are_twice (w.file ∷ w.baseline ∷ [])) input_twice None))

-- what words give
abbrev pub rules_given : {S : Type 0} → Gives S → RuleWords → Step S Ruled
rules_given gives w = unless_reported (words_report w) (then (rule_text gives w) (λ text. rules_by gives w text))

-- a question about rules begins at the files that they are about, of which there must be one
abbrev pub some_subjects : List (List ℕ) → Result EndPaths Report
some_subjects [] = Err no_subject
some_subjects (p ∷ ps) = Ok (record { from = p ∷ ps; to = []; groups = [] })

abbrev pub rule_ends : Layout → List Rule → Result EndPaths Report
rule_ends layout rules = some_subjects (filter (λ p. list_any (λ r. is_left r p) rules) layout.paths)
