-- The build of a compiler's command as it stands: its sources are the words that end as those that a compiler preprocesses.
use Rattle.std.specs.Prelude.{ℕ, ◌-◌, Bool, List, [], ◌∷◌, if◌then◌else◌, codes, drop, length, map}
use Rattle.std.specs.List.{list_any}
use Rattle.std.specs.Str.{bytes_eq}
use Rattle.inc_build.specs.Builds.{Build, text_of, with_name}
use Rattle.inc_build.specs.CompilerWords.{Item, Operand}
use Rattle.inc_build.specs.Configurations.{Row, configuration}
use Rattle.inc_build.specs.Entries.{Entry}
use Rattle.inc_build.specs.Paths.{path_from}
use Rattle.inc_build.specs.declared.builds.Use.{Use}

-- the entry that its words are, for all of its sources. It is run in the directory that its build begins at
abbrev pub command_entry : (words : List (List ℕ)) → Entry
command_entry words = record { directory = []; file = []; words = words }

---- its sources

-- of C, C++ and assembler, as GCC has them
abbrev pub source_ends : List (List ℕ)
source_ends =
    codes ".c" ∷ codes ".h" ∷ codes ".S" ∷ codes ".sx" ∷ codes ".cc" ∷ codes ".cp" ∷ codes ".cxx" ∷ codes ".cpp" ∷ codes ".CPP" ∷ codes ".c++" ∷ codes ".C"
    ∷ codes ".hh" ∷ codes ".H" ∷ codes ".hp" ∷ codes ".hxx" ∷ codes ".hpp" ∷ codes ".HPP" ∷ codes ".h++" ∷ codes ".tcc" ∷ []

abbrev pub ends : (word end : List ℕ) → Bool
ends word end = bytes_eq (drop (length word - length end) word) end

abbrev pub is_source : (word : List ℕ) → Bool
is_source word = list_any (λ end. ends word end) source_ends

-- their paths, each once
abbrev pub source_with : (directory : List ℕ) → Item → List (List ℕ) → List (List ℕ)
source_with directory (Operand word) sources = if is_source word then with_name (path_from directory word) sources else sources
source_with directory _ sources = sources

abbrev pub sources_with : (directory : List ℕ) → List Item → List (List ℕ) → List (List ℕ)
sources_with directory [] sources = sources
sources_with directory (i ∷ is) sources = sources_with directory is (source_with directory i sources)

---- its build

-- the only entry and its include path
abbrev pub only_use : Use
only_use = record { entry = 0; configuration = 0 }

abbrev pub only_uses : (source : List ℕ) → List Use
only_uses source = only_use ∷ []

abbrev pub built : List Row → (sources : List (List ℕ)) → Build
built rows sources = record { texts = text_of rows ∷ []; configurations = rows ∷ []; sources = sources; uses = map only_uses sources }

-- of what the words ask for, in the directory in which the compiler is run
abbrev pub command_build : (directory : List ℕ) → List Item → Build
command_build directory items = built (configuration directory items) (sources_with directory items [])
