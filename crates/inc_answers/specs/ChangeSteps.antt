-- A change, as it is found.
use Rattle.std.specs.Prelude.{ℕ, List}
use Rattle.inc_text.specs.declared.languages.Language.{Language}
use Rattle.inc_directive.specs.BlankedSources.{blanked_source}
use Rattle.inc_directive.specs.Removal.{is_among}
use Rattle.inc_lookup.specs.Projects.{Layout, path_at}
use Rattle.inc_answers.specs.Changes.{Change}

-- the change of a file with these bytes whose directives on these lines are blanked
abbrev pub change_at : Layout → Language → (file : ℕ) → (lines before : List ℕ) → Change
change_at layout language file lines before =
    record { path = path_at layout file; before = before; after = blanked_source language (is_among lines) before }
