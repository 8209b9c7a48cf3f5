-- How files are called (ISO/IEC 9899:2018, 6.10.8.1, `__FILE__`). A choice of this profile: by the path in the list of files. In GNU C by
-- the path as it is spelled: of the source by the word that names it, of a header by the directory in which it was found and the name in
-- the directive. One that is longer than paths of files are counts as not known.
use Rattle.std.specs.Prelude.{ℕ, zero, suc, ◌+◌, ◌-◌, ◌==◌, ◌||◌, not, Bool, false, List, [], ◌∷◌, ◌++◌, Option, Some, None, if◌then◌else◌, length, slice_get, option_map, option_and_then, nat_lt}
use Rattle.std.specs.List.{list_any}
use Rattle.std.specs.Option.{option_map_or}
use Rattle.inc_lookup.specs.IncludePath.{NamedDir}
use Rattle.inc_text.specs.Ascii.{slash}
use Rattle.inc_text.specs.declared.languages.Language.{Language}
use Rattle.inc_text.specs.declared.languages.Language.TheVariants.{Gnu}
use Rattle.inc_pp.specs.declared.file_names.TheConstants.{LONGEST_SPELLING}
use Rattle.inc_pp.specs.Settings.{Settings}

-- how a file comes to be read
pub record Standing : Type 0 where
  -- its path as it is spelled; none: that in the list
  pub spelled : Option (List ℕ)
  -- how many includes it is below the source
  pub level : ℕ
  -- whether it is a system header, or has become one
  pub is_system : Bool

-- a path as it is spelled, unless it is too long
abbrev pub unless_long : List ℕ → Option (List ℕ)
unless_long path = if nat_lt LONGEST_SPELLING (length path) then None else Some path

-- the same in the language in which files are called so
abbrev pub where_spelled : Language → Option (List ℕ) → Option (List ℕ)
where_spelled Gnu path = option_and_then unless_long path
where_spelled _ path = None

-- a path up to its last /, with it
abbrev pub up_to_slash : List ℕ → List ℕ
up_to_slash [] = []
up_to_slash (b ∷ bs) = if list_any (λ c. c == slash) (b ∷ bs) then b ∷ up_to_slash bs else []

-- another byte than / ends it
abbrev pub needs_slash : List ℕ → Bool
needs_slash dir = option_map_or (λ b. not (b == slash)) (slice_get dir (length dir - 1)) false

-- a name in a directory
abbrev pub in_directory : (dir : List ℕ) → (name : List ℕ) → List ℕ
in_directory dir name = (if needs_slash dir then dir ++ slash ∷ [] else dir) ++ name

-- the path of a file as it is spelled, which is found by a name in a file with the path `includer`, by where an `#include_next` in it
-- goes on: it is found by an absolute name, beside the includer, or in the directory of the include path before that one
abbrev pub spelling_at : List NamedDir → (includer : List ℕ) → (name : List ℕ) → (next : Option ℕ) → Option (List ℕ)
spelling_at dirs includer name None = Some name
spelling_at dirs includer name (Some zero) = Some (up_to_slash includer ++ name)
spelling_at dirs includer name (Some (suc i)) = option_map (λ (d : NamedDir). in_directory d.name name) (slice_get dirs i)

-- it is found in a directory with system headers
abbrev pub is_in_system : List NamedDir → (next : Option ℕ) → Bool
is_in_system dirs (Some (suc i)) = option_map_or (λ (d : NamedDir). d.is_system) (slice_get dirs i) false
is_in_system dirs _ = false

-- the source
abbrev pub source_standing : Settings → Standing
source_standing settings = record { spelled = where_spelled settings.language settings.source; level = 0; is_system = false }

-- a file that a name has found in a file that stands so and has the path `includer`: what a system header includes is one too
abbrev pub included_standing : Settings → (includer : List ℕ) → Standing → (name : List ℕ) → (next : Option ℕ) → Standing
included_standing settings includer s name next = record {
  spelled = where_spelled settings.language (spelling_at settings.dirs includer name next);
  level = s.level + 1;
  is_system = s.is_system || is_in_system settings.dirs next;
}
