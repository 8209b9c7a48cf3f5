-- Tokens, macros and places whose bytes lie in the classes that they are said to lie in.
use Rattle.std.specs.Prelude.{◌≡◌, ℕ, Bool, List, Some, IsTrue}
use Rattle.std.specs.List.{list_all}
use Rattle.inc_token.specs.Spellings.{is_spelling, is_str}
use Rattle.inc_macro.specs.Macros.{BodyToken, Definition, Table, definition_of}
use Rattle.inc_expand.specs.Expansion.{Item, Place, escaped, in_quotes}
use Rattle.inc_text.specs.declared.languages.Language.{Language}

-- the bytes of an item lie in its class
abbrev pub is_spelled_item : Language → Item → Bool
is_spelled_item language t = is_spelling language t.kind t.spelling

-- those of a token of a body
abbrev pub is_spelled_word : Language → BodyToken → Bool
is_spelled_word language b = is_spelling language b.kind b.spelling

-- those of all tokens of the macros' bodies
abbrev pub HasSpelledBodies : Language → Table → Type 0
HasSpelledBodies language table =
    (name : List ℕ) (d : Definition) → definition_of name table ≡ Some d → IsTrue (list_all (is_spelled_word language) d.body)

-- what `__FILE__`, `__BASE_FILE__`, `__DATE__`, `__TIME__` and `__TIMESTAMP__` give are string literals
pub record HasLiterals (place : Place) : Type 0 where
  pub name : IsTrue (is_str place.name)
  pub base : IsTrue (is_str (in_quotes (escaped place.base)))
  pub date : IsTrue (is_str (in_quotes place.date))
  pub time : IsTrue (is_str (in_quotes place.time))
  pub timestamp : IsTrue (is_str (in_quotes place.timestamp))
