-- The include path of a project: by the words, and by what describes a compiler.
use Rattle.std.specs.Prelude.{ℕ, List, ◌++◌, map}
use Rattle.inc_lookup.specs.IncludePath.{NamedDir, NamedPath, named_path}
use Rattle.inc_args.specs.Meaning.{FileWords}

-- the compiler's directories are searched after those of the words, but for the last ones
abbrev pub include_path : FileWords → (compiler : List (List ℕ)) → NamedPath
include_path files compiler = named_path files.quoted files.dirs (files.system ++ compiler ++ files.last)

-- as they are written
abbrev pub dir_names : List NamedDir → List (List ℕ)
dir_names dirs = map (λ (d : NamedDir). d.name) dirs
