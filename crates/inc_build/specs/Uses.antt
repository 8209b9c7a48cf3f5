-- What a build says of its entries.
use Rattle.std.specs.Prelude.{◌≡◌, ℕ, List, [], Some, get_or, slice_get}
use Rattle.std.specs.List.{IsAmong}
use Rattle.inc_build.specs.Builds.{Build}
use Rattle.inc_build.specs.CompilerWords.{items}
use Rattle.inc_build.specs.Configurations.{Row, configuration}
use Rattle.inc_build.specs.Entries.{Entry}
use Rattle.inc_build.specs.Paths.{path_from}

-- the source of an entry
abbrev pub source_of : (base : List ℕ) → Entry → List ℕ
source_of base e = path_from (path_from base e.directory) e.file

-- its include path
abbrev pub rows_of : (base : List ℕ) → Entry → List Row
rows_of base e = configuration (path_from base e.directory) (items e.words)

-- by the build an entry compiles this source with this include path
pub record Compiles (b : Build) (entry : ℕ) (path : List ℕ) (rows : List Row) : Type 0 where
  pub source : ℕ
  pub configuration : ℕ
  pub is_source : slice_get b.sources source ≡ Some path
  pub is_configuration : slice_get b.configurations configuration ≡ Some rows
  pub is_use : IsAmong (get_or b.uses source []) (record { entry = entry; configuration = configuration })
