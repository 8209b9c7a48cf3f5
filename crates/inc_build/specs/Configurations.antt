-- The include path of an entry.
use Rattle.std.specs.Prelude.{ℕ, Bool, true, false, List, [], ◌∷◌, ◌++◌, if◌then◌else◌}
use Rattle.inc_build.specs.CompilerWords.{Item, Given, Standard, NoSystem, Listed, Told, Operand}
use Rattle.inc_build.specs.Paths.{path_from}
use Rattle.inc_build.specs.declared.compiler_words.Kind.{Kind}
use Rattle.inc_build.specs.declared.compiler_words.Kind.TheVariants.{Quoted, Searched, System, Last, Macros, Included, Defined, Undefined}

-- a directory that is searched, or a file that is read before the source
pub record Row : Type 0 where
  pub kind : Kind
  pub path : List ℕ
  -- of a file the word that names it, by which it is searched where the path is that of none
  pub name : List ℕ

abbrev pub is_kind : Kind → Kind → Bool
is_kind Quoted Quoted = true
is_kind Searched Searched = true
is_kind System System = true
is_kind Last Last = true
is_kind Macros Macros = true
is_kind Included Included = true
is_kind Defined Defined = true
is_kind Undefined Undefined = true
is_kind _ _ = false

-- of a file the word, of a directory nothing
abbrev pub name_of : Kind → (value : List ℕ) → List ℕ
name_of Macros value = value
name_of Included value = value
name_of _ value = []

abbrev pub row_or : (directory : List ℕ) → Kind → Item → List Row → List Row
row_or directory kind (Given k value) more = if is_kind k kind then record { kind = kind; path = path_from directory value; name = name_of kind value } ∷ more else more
row_or directory kind (Standard name) more = more
row_or directory kind NoSystem more = more
row_or directory kind (Listed path) more = more
row_or directory kind (Told name) more = more
row_or directory kind (Operand word) more = more

-- those of one kind, in the order of the words
abbrev pub rows_of : (directory : List ℕ) → Kind → List Item → List Row
rows_of directory kind [] = []
rows_of directory kind (i ∷ is) = row_or directory kind i (rows_of directory kind is)

-- in the order in which they are searched; then the files that are read before the source, first those whose macros alone are kept
abbrev pub configuration : (directory : List ℕ) → List Item → List Row
configuration directory items =
    rows_of directory Quoted items ++ (rows_of directory Searched items ++ (rows_of directory System items ++ (rows_of directory Last items
    ++ (rows_of directory Macros items ++ rows_of directory Included items))))
