-- Directives as objects of JSON: how they name a header, their line, what they name, their file, and where they lead.
use Rattle.std.specs.Prelude.{ℕ, List, [], ◌++◌, Option, Some, None, codes}
use Rattle.inc_token.specs.declared.kinds.IncludeName.{IncludeName}
use Rattle.inc_token.specs.declared.kinds.IncludeName.TheVariants as by
use Rattle.inc_directive.specs.LineKinds.{Target, Quoted, Angled, ByName, Computed, Nothing, LineKind, Include, Other}
use Rattle.inc_directive.specs.declared.kinds.DirectiveKind.TheVariants.{Foreign}
use Rattle.inc_answers.specs.JsonTexts.{bytes_member, number_member}

-- by what name it includes, where that is not `include`
abbrev pub by_text : IncludeName → List ℕ
by_text by.Include = []
by_text by.IncludeNext = codes "\"by\":\"include_next\","
by_text by.Import = codes "\"by\":\"import\","

-- in which form it names a header
abbrev pub form_text : Target → List ℕ
form_text (Quoted name) = codes "\"form\":\"quoted\","
form_text (Angled name) = codes "\"form\":\"angled\","
form_text (ByName name) = codes "\"form\":\"computed\","
form_text Computed = codes "\"form\":\"computed\","
form_text Nothing = codes "\"form\":\"nothing\","

-- both, of a directive of any kind; nothing of a line that is none
abbrev pub how_text : LineKind → List ℕ
how_text (Include by target) = by_text by ++ form_text target
how_text (Other Foreign) = codes "\"form\":\"foreign\","
how_text _ = []

-- the header that it names, or the macro that makes the name
abbrev pub target_text : Target → List ℕ
target_text (Quoted name) = codes "," ++ bytes_member (codes "name") name
target_text (Angled name) = codes "," ++ bytes_member (codes "name") name
target_text (ByName name) = codes "," ++ bytes_member (codes "macro") name
target_text _ = []

abbrev pub what_text : LineKind → List ℕ
what_text (Include by target) = target_text target
what_text _ = []

-- the path of the file that it leads to, if it leads to one
abbrev pub to_text : Option (List ℕ) → List ℕ
to_text None = []
to_text (Some to) = codes "," ++ bytes_member (codes "to") to

abbrev pub directive_text : LineKind → (line : ℕ) → (path : List ℕ) → (to : Option (List ℕ)) → List ℕ
directive_text kind line path to =
    codes "{" ++ how_text kind ++ number_member (codes "line") line ++ what_text kind ++ codes "," ++ bytes_member (codes "path") path ++ to_text to
    ++ codes "}"
