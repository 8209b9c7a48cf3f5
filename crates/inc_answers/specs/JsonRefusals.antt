-- Refusals as objects of JSON.
use Rattle.std.specs.Prelude.{ℕ, List, [], ◌∷◌, ◌++◌, Option, Some, None, codes, decimal, map}
use Rattle.std.specs.Option.{option_map_or}
use Rattle.inc_directive.specs.LineKinds.{LineKind, Text}
use Rattle.inc_lookup.specs.declared.projects.DirectiveId.{DirectiveId}
use Rattle.inc_lookup.specs.Projects.{Layout, path_at}
use Rattle.inc_graph.specs.Marks.{Mark}
use Rattle.inc_graph.specs.MissingLists.{Missing}
use Rattle.inc_graph.specs.declared.graphs.Blocker.{Blocker}
use Rattle.inc_answers.specs.JsonDirectives.{directive_text}
use Rattle.inc_answers.specs.JsonTexts.{list_of}
use Rattle.inc_answers.specs.Printed.{Printed, refused_for}
use Rattle.inc_answers.specs.Refusals.{Refusal, NoSuchSource, NoSuchHeader, BadFile, TooManyDirectives, Blocked, NotFound, NoSuchDirective, NoSuchCost, CostTwice, Malformed, BadDefinition, TooLong}

abbrev pub refusal_number : Refusal → ℕ
refusal_number NoSuchSource = 1
refusal_number NoSuchHeader = 2
refusal_number (BadFile at) = 3
refusal_number TooManyDirectives = 4
refusal_number (Blocked layout blockers) = 5
refusal_number (NotFound layout ms) = 12
refusal_number (NoSuchDirective mark) = 6
refusal_number (Malformed line) = 7
refusal_number (BadDefinition index fault) = 8
refusal_number TooLong = 9
refusal_number (NoSuchCost mark) = 10
refusal_number (CostTwice mark) = 11

abbrev pub refusal_words : Refusal → List ℕ
refusal_words NoSuchSource = codes "no such source"
refusal_words NoSuchHeader = codes "no such header"
refusal_words (BadFile at) = codes "bad file"
refusal_words TooManyDirectives = codes "too many directives"
refusal_words (Blocked layout blockers) = codes "blocked"
refusal_words (NotFound layout ms) = codes "missing"
refusal_words (NoSuchDirective mark) = codes "no such directive"
refusal_words (Malformed line) = codes "malformed"
refusal_words (BadDefinition index fault) = codes "bad definition"
refusal_words TooLong = codes "too long"
refusal_words (NoSuchCost mark) = codes "no such cost"
refusal_words (CostTwice mark) = codes "cost twice"

-- the path and the line that it names
abbrev pub refusal_mark : Refusal → Option Mark
refusal_mark (BadFile at) = Some at
refusal_mark (NoSuchDirective mark) = Some mark
refusal_mark (NoSuchCost mark) = Some mark
refusal_mark (CostTwice mark) = Some mark
refusal_mark _ = None

-- of which nothing is said but where it is
abbrev pub mark_item : Mark → List ℕ
mark_item m = directive_text Text m.line m.path None

abbrev pub blocked_item : (kind : DirectiveId → LineKind) → Layout → Blocker → List ℕ
blocked_item kind layout b = directive_text (kind (record { file = b.file; line = b.line })) b.line (path_at layout b.file) None

abbrev pub stray_item : (kind : DirectiveId → LineKind) → Layout → Missing → List ℕ
stray_item kind layout m = directive_text (kind (record { file = m.file; line = m.line })) m.line (path_at layout m.file) None

-- the directive that it names so, if it names one
abbrev pub mark_items : Refusal → List (List ℕ)
mark_items r = option_map_or (λ m. mark_item m ∷ []) (refusal_mark r) []

-- the directives that it names
abbrev pub refused_items : (kind : DirectiveId → LineKind) → Refusal → List (List ℕ)
refused_items kind (Blocked layout blockers) = map (blocked_item kind layout) blockers
refused_items kind (NotFound layout ms) = map (stray_item kind layout) ms
refused_items kind r = mark_items r

-- with these directives
abbrev pub refusal_object : (command : List ℕ) → Refusal → (items : List (List ℕ)) → List ℕ
refusal_object command r items =
    codes "{\"command\":\"" ++ command ++ codes "\",\"format\":1,\"refused\":{\"directives\":" ++ list_of items ++ codes ",\"number\":"
    ++ decimal (refusal_number r) ++ codes ",\"text\":\"" ++ refusal_words r ++ codes "\"},\"status\":4}\n"

abbrev pub refusal_json : (command : List ℕ) → (kind : DirectiveId → LineKind) → Refusal → List ℕ
refusal_json command kind r = refusal_object command r (refused_items kind r)
