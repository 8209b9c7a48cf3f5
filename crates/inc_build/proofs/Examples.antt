-- Commands, words, paths, databases and builds, worked out by computing.
use Rattle.std.proofs.Common.{◌≡◌, [], ◌∷◌, Some, None, Ok, Err, option_map, refl, codes}
use Rattle.inc_build.specs.Builds.{build, text_of}
use Rattle.inc_build.specs.Commands.{shell_words}
use Rattle.inc_build.specs.CompilerWords.{Given, Listed, NoSystem, Operand, Standard, Told, items}
use Rattle.inc_build.specs.Databases.{entries}
use Rattle.inc_build.specs.Paths.{path_from}
use Rattle.inc_build.specs.declared.compiler_words.Kind.TheVariants.{Searched, System, Defined, Included}
use Rattle.inc_build.specs.declared.databases.DatabaseFault.TheVariants.{NoArray, BadEntry}
use Rattle.inc_build.specs.declared.entries.EntryFault.TheVariants.{NoFile}
use Rattle.serde_json.proofs.OnLiterals.{serde_json_on_literals}
use Rattle.serde_json.specs.Read.{read}

blanks : shell_words (codes "  a  b ") ≡ Some (codes "a" ∷ codes "b" ∷ [])
blanks = refl

quotes : shell_words (codes "'a b'\"c d\"\\ e ''") ≡ Some (codes "a bc d e" ∷ [] ∷ [])
quotes = refl

escapes : shell_words (codes "\"\\$\\a\" '\\'") ≡ Some (codes "$\\a" ∷ codes "\\" ∷ [])
escapes = refl

joined_lines : shell_words (codes "a\\\nb \\\n c") ≡ Some (codes "ab" ∷ codes "c" ∷ [])
joined_lines = refl

open_quote : shell_words (codes "a 'b") ≡ None
open_quote = refl

-- joined and apart, skipped, reported
asked : items (codes "cc" ∷ codes "-Ia" ∷ codes "-I" ∷ codes "b" ∷ codes "-o" ∷ codes "-Ic" ∷ codes "-Wall" ∷ codes "-isystem" ∷ codes "s" ∷ codes "-DX=1" ∷ codes "-includef.h" ∷ codes "--weird" ∷ codes "-nostdinc" ∷ codes "-std=c99" ∷ codes "@f" ∷ codes "a.c" ∷ [])
    ≡ Given Searched (codes "a") ∷ Given Searched (codes "b") ∷ Given System (codes "s") ∷ Given Defined (codes "X=1") ∷ Given Included (codes "f.h") ∷ Told (codes "--weird") ∷ NoSystem ∷ Standard (codes "c99") ∷ Listed (codes "f") ∷ Operand (codes "a.c") ∷ []
asked = refl

no_value : items (codes "cc" ∷ codes "-I" ∷ []) ≡ Told (codes "-I") ∷ []
no_value = refl

relative : path_from (codes "/w/build") (codes "../lib/./x.c") ≡ codes "/w/lib/x.c"
relative = refl

absolute : path_from (codes "/w") (codes "//a/") ≡ codes "/a"
absolute = refl

above_root : path_from (codes "/w") (codes "../../a/../..") ≡ codes "/"
above_root = refl

one_entry : option_map entries (read (codes "[{\"directory\": \"/w\", \"file\": \"a.c\", \"command\": \"cc -Ia\"}]"))
    ≡ Some (Ok (record { directory = codes "/w"; file = codes "a.c"; words = codes "cc" ∷ codes "-Ia" ∷ [] } ∷ []))
unfolding serde_json_on_literals
one_entry = refl

no_array : option_map entries (read (codes "{}")) ≡ Some (Err NoArray)
unfolding serde_json_on_literals
no_array = refl

no_file : option_map entries (read (codes "[{\"directory\": \"/w\"}]")) ≡ Some (Err (BadEntry 1 NoFile))
unfolding serde_json_on_literals
no_file = refl

-- two ways to one include path
shared : build (codes "/w") (record { directory = codes "b"; file = codes "../x.c"; words = codes "cc" ∷ codes "-I../i" ∷ [] } ∷ record { directory = codes "/w"; file = codes "y.c"; words = codes "cc" ∷ codes "-I" ∷ codes "i" ∷ [] } ∷ [])
    ≡ record {
      texts = text_of (record { kind = Searched; path = codes "/w/i"; name = [] } ∷ []) ∷ [];
      configurations = (record { kind = Searched; path = codes "/w/i"; name = [] } ∷ []) ∷ [];
      sources = codes "/w/x.c" ∷ codes "/w/y.c" ∷ [];
      uses = (record { entry = 0; configuration = 0 } ∷ []) ∷ (record { entry = 1; configuration = 0 } ∷ []) ∷ [];
    }
shared = refl
