-- The sources of a build, and which include paths they are compiled with.
use Rattle.std.specs.Prelude.{ℕ, zero, suc, Bool, List, [], ◌∷◌, ◌++◌, if◌then◌else◌, bytes_eq, nat_le}
use Rattle.std.specs.List.{list_any, position_or_len}
use Rattle.inc_build.specs.CompilerWords.{items}
use Rattle.inc_build.specs.Configurations.{Row, configuration}
use Rattle.inc_build.specs.Entries.{Entry}
use Rattle.inc_build.specs.Paths.{path_from}
use Rattle.inc_build.specs.declared.builds.Use.{Use}
use Rattle.inc_build.specs.declared.compiler_words.Kind.{Kind}
use Rattle.inc_build.specs.declared.compiler_words.Kind.TheVariants.{Quoted, Searched, System, Last, Macros, Included, Defined, Undefined}

---- include paths as texts that identify them

abbrev pub letter : Kind → ℕ
letter Quoted = 113
letter Searched = 73
letter System = 115
letter Last = 97
letter Macros = 109
letter Included = 105
letter Defined = 68
letter Undefined = 85

-- a path and the NUL that ends it, before a text; a byte 0 or 1 within it is written as two, so that no two paths have one text
abbrev pub path_text : (path rest : List ℕ) → List ℕ
path_text [] rest = 0 ∷ rest
path_text (b ∷ bs) rest = if nat_le b 1 then 1 ∷ suc b ∷ path_text bs rest else b ∷ path_text bs rest

abbrev pub text_of : List Row → List ℕ
text_of [] = []
text_of (r ∷ rs) = letter r.kind ∷ path_text r.path (path_text r.name (text_of rs))

---- lists in which each text is once, at its number

abbrev pub is_named : (text : List ℕ) → List (List ℕ) → Bool
is_named text names = list_any (λ x. bytes_eq text x) names

abbrev pub number : (text : List ℕ) → List (List ℕ) → ℕ
number text names = position_or_len (λ x. bytes_eq text x) names

abbrev pub with_name : (text : List ℕ) → List (List ℕ) → List (List ℕ)
with_name text names = if is_named text names then names else names ++ text ∷ []

---- builds

pub record Build : Type 0 where
  -- the texts of the include paths, and these themselves, without repeats
  pub texts : List (List ℕ)
  pub configurations : List (List Row)
  -- the paths of the sources, without repeats
  pub sources : List (List ℕ)
  -- for each source the entries that compile it, each with the number of its include path
  pub uses : List (List Use)

abbrev pub none : Build
none = record { texts = []; configurations = []; sources = []; uses = [] }

-- one more of the source with this number, or the first of the next source
abbrev pub put_use : ℕ → Use → List (List Use) → List (List Use)
put_use n u [] = (u ∷ []) ∷ []
put_use zero u (us ∷ more) = (us ++ u ∷ []) ∷ more
put_use (suc n) u (us ∷ more) = us ∷ put_use n u more

-- the include paths with one more, unless its text is there
abbrev pub with_rows : List Row → (texts : List (List ℕ)) → List (List Row) → List (List Row)
with_rows rows texts configurations = if is_named (text_of rows) texts then configurations else configurations ++ rows ∷ []

abbrev pub added : (entry : ℕ) → (source : List ℕ) → List Row → Build → Build
added entry source rows b = record {
  texts = with_name (text_of rows) b.texts;
  configurations = with_rows rows b.texts b.configurations;
  sources = with_name source b.sources;
  uses = put_use (number source b.sources) (record { entry = entry; configuration = number (text_of rows) b.texts }) b.uses;
}

-- an entry whose directory, if it is relative, is looked up from this one
abbrev pub with_entry : (base : List ℕ) → (number : ℕ) → Entry → Build → Build
with_entry base number e b = added number (path_from (path_from base e.directory) e.file) (configuration (path_from base e.directory) (items e.words)) b

-- entries with these numbers
abbrev pub with_entries : (base : List ℕ) → (number : ℕ) → List Entry → Build → Build
with_entries base number [] b = b
with_entries base number (e ∷ es) b = with_entries base (suc number) es (with_entry base number e b)

abbrev pub build : (base : List ℕ) → List Entry → Build
build base entries = with_entries base 0 entries none
