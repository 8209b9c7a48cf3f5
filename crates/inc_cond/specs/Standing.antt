-- Tokens of a controlling expression that nothing replaces.
use Rattle.std.specs.Prelude.{Bool, true, ◌&&◌, ◌||◌, not, List, [], ◌∷◌, is_some}
use Rattle.inc_token.specs.TokenLines.{Tok}
use Rattle.inc_macro.specs.Macros.{Table, definition_of, is_among, predefined_names}

-- no macro and no predefined name is spelled so
abbrev pub stands : Table → Tok → Bool
stands table t = not (is_among t.spelling (predefined_names table.language) || is_some (definition_of t.spelling table))

-- that is so of each of these
abbrev pub all_stand : Table → List Tok → Bool
all_stand table [] = true
all_stand table (t ∷ ts) = stands table t && all_stand table ts
