-- How the macros that are defined are kept.
use Rattle.std.specs.Prelude.{◌≡◌, ℕ, List, [], Option, IfSome, bytes_eq, length, map, reverse}
use Rattle.std.specs.List.{AllByRecursion, IsDistinct}
use Rattle.std.specs.Map.{lookup}
use Rattle.std.specs.Option.{option_map_or}
use Rattle.std.specs.Ordering.{on}
use Rattle.inc_text.specs.declared.languages.Language.{Language}
use Rattle.inc_macro.specs.Macros.{Definition, Table}

-- names with their definitions. Their order says nothing
abbrev pub Entries : Type 0
Entries = List (List ℕ × Definition)

-- definitions by their own names
abbrev pub entries_of : List Definition → Entries
entries_of ds = map (λ (d : Definition). (d.name, d)) ds

-- no two definitions have one name
abbrev pub AreApart : List Definition → Type 0
AreApart ds = IsDistinct (on (λ (d : Definition). d.name) bytes_eq) ds

-- the definition of a name
abbrev pub found : Entries → List ℕ → Option Definition
found entries name = lookup (bytes_eq name) entries

-- names with what was put aside of them, the last of it last. Their order says nothing
abbrev pub Stacks : Type 0
Stacks = List (List ℕ × List (Option Definition))

-- what was put aside of a name, the last of it last
abbrev pub stack_of : Stacks → List ℕ → List (Option Definition)
stack_of stacks name = option_map_or (λ os. os) (lookup (bytes_eq name) stacks) []

-- a definition, if there is one, is of this name
abbrev pub IsNamed : List ℕ → Option Definition → Type 0
IsNamed name o = IfSome o (λ (d : Definition). d.name ≡ name)

-- the definitions put aside of a name are of this name
abbrev pub AreNamed : Stacks → Type 0
AreNamed stacks = (name : List ℕ) → AllByRecursion (IsNamed name) (stack_of stacks name)

-- a language, entries, and what was put aside
pub record Kept : Type 0 where
  pub language : Language
  pub entries : Entries
  pub stacks : Stacks

-- the finite map that the entries are, of the language
abbrev pub table_of : Kept → Table
table_of kept =
    record { language = kept.language; find = found kept.entries; size = length kept.entries; aside = λ n. reverse (stack_of kept.stacks n) }
