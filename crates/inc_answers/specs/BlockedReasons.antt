-- Why an answer about cuts is refused where blockers are: what each of them is, and how to go on.
use Rattle.std.specs.Prelude.{ℕ, ◌-◌, ◌==◌, ◌||◌, Bool, true, false, List, [], ◌∷◌, ◌++◌, if◌then◌else◌, codes, decimal, flat_map, length, take}
use Rattle.std.specs.List.{list_any}
use Rattle.inc_text.specs.Ascii.{apostrophe, asterisk, close_bracket, open_bracket, question_mark}
use Rattle.inc_lookup.specs.Projects.{Layout, path_at}
use Rattle.inc_graph.specs.declared.graphs.Blocker.{Blocker}
use Rattle.inc_graph.specs.declared.graphs.BlockerKind.{BlockerKind}
use Rattle.inc_graph.specs.declared.graphs.BlockerKind.TheVariants.{Computed, Foreign, Several}
use Rattle.inc_lookup.specs.declared.projects.DirectiveId.{DirectiveId}
use Rattle.inc_answers.specs.AnswerNotes.{definition_lines}
use Rattle.inc_answers.specs.FaultReasons.{reason_line}
use Rattle.inc_answers.specs.MissingNotes.{shown_byte}
use Rattle.inc_answers.specs.NearNames.{more_line, most_unnamed}

-- what a blocker is
abbrev pub blocker_reason_words : BlockerKind → List ℕ
blocker_reason_words Computed = codes "macros make the name of the header"
blocker_reason_words Foreign = codes "it may include a header, but is not followed"
blocker_reason_words Several = codes "it may include several headers"

-- the line on it
abbrev pub blocker_reason : Layout → Blocker → List ℕ
blocker_reason layout b = reason_line (path_at layout b.file) b.line (blocker_reason_words b.kind)

---- how to go on

-- the line with the words that leave macros undefined
abbrev pub undefine_line : (words : List ℕ) → List ℕ
undefine_line words = codes "incut: if no build defines the name, add" ++ words ++ 10 ∷ []

abbrev pub is_computed : BlockerKind → Bool
is_computed Computed = true
is_computed _ = false

-- the one where macros make the name of a header, and where it is not known which
abbrev pub any_name_line : List Blocker → List ℕ
any_name_line bs =
    if list_any (λ (b : Blocker). is_computed b.kind) bs
    then undefine_line (codes " --undefined NAME") else []

-- a byte of a path in a glob between apostrophes, where it stands for itself
abbrev pub glob_byte : ℕ → List ℕ
glob_byte b =
    if b == apostrophe then codes "'\\''" else
    if (b == asterisk) || (b == question_mark) || (b == open_bracket) then open_bracket ∷ b ∷ close_bracket ∷ [] else shown_byte b

-- the words for a shell that take a blocker as removed
abbrev pub drop_word : Layout → Blocker → List ℕ
drop_word layout b = codes " --drop '" ++ flat_map glob_byte (path_at layout b.file) ++ codes ":" ++ decimal b.line ++ codes "'"

-- the line with those for all of these
abbrev pub drop_line : Layout → List Blocker → List ℕ
drop_line layout bs = codes "incut: if no build includes the header there, add" ++ flat_map (drop_word layout) bs ++ 10 ∷ []

---- what is said beside the refusal

-- a line on each of the first blockers, how many more there are, and how to go on, with words for each of them, so that these can be copied
abbrev pub reasons_by : (line : Blocker → List ℕ) → (undefine : List Blocker → List ℕ) → Layout → List Blocker → List ℕ
reasons_by line undefine layout bs =
    flat_map line (take most_unnamed bs) ++ more_line (length bs - most_unnamed) ++ undefine (take most_unnamed bs) ++ drop_line layout bs

-- what each line begins with
abbrev pub reason_start : List ℕ
reason_start = codes "incut: "

-- before that where files define names that no build defines
abbrev pub blocked_reasons : Layout → (definitions : List DirectiveId) → List Blocker → List ℕ
blocked_reasons layout ds bs = reasons_by (blocker_reason layout) (λ first. definition_lines reason_start layout ds ++ any_name_line first) layout bs
