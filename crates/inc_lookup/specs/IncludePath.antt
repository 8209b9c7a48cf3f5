-- The include path as words name it (what ISO/IEC 9899:2018, 6.10.2, leaves to the implementation): the directories for names between "
-- alone, after them those of the project's own headers, and after them those of the system's. As in gcc, one that is named as the system's and
-- otherwise, too, is one of the system's; and the last for names between " is left out where the next one is the same, so that an
-- #include_next in a file of it goes on behind both.
use Rattle.std.specs.Prelude.{ℕ, not, Bool, true, false, List, [], ◌∷◌, ◌++◌, Option, Some, None, if◌then◌else◌, length, bytes_eq}
use Rattle.std.specs.List.{list_any}
use Rattle.inc_lookup.specs.Paths.{normal_form}
use Rattle.inc_lookup.specs.Projects.{with_path}

-- a directory as it is written, and whether its headers are the system's
pub record NamedDir : Type 0 where
  pub name : List ℕ
  pub is_system : Bool

-- a directory of this normal form is not known; a path without one never is, so that it stays and is refused
abbrev pub is_unknown : (known : List (List ℕ)) → Option (List ℕ) → Bool
is_unknown known None = true
is_unknown known (Some form) = not (list_any (bytes_eq form) known)

-- what is known once a directory of this normal form is
abbrev pub and_form : (known : List (List ℕ)) → Option (List ℕ) → List (List ℕ)
and_form known None = known
and_form known (Some form) = with_path known form

-- what is known once the directories of these words are
abbrev pub known_after : (known : List (List ℕ)) → (words : List (List ℕ)) → List (List ℕ)
known_after known [] = known
known_after known (word ∷ words) = known_after (and_form known (normal_form word)) words

-- the directories of these words, in order, of which none is known or comes before
abbrev pub dirs_after : (is_system : Bool) → (known : List (List ℕ)) → (words : List (List ℕ)) → List NamedDir
dirs_after is_system known [] = []
dirs_after is_system known (word ∷ words) =
    (if is_unknown known (normal_form word) then record { name = word; is_system = is_system } ∷ [] else [])
    ++ dirs_after is_system (and_form known (normal_form word)) words

-- the directories of an include path as they are written, in the order in which they are searched, of which the first so many are for names
-- between " alone
pub record NamedPath : Type 0 where
  pub dirs : List NamedDir
  pub quoted : ℕ

-- the normal form of the directory with which a list begins
abbrev pub first_form : List NamedDir → Option (List ℕ)
first_form [] = None
first_form (dir ∷ dirs) = normal_form dir.name

-- both are there, and they are equal
abbrev pub is_same_form : Option (List ℕ) → Option (List ℕ) → Bool
is_same_form (Some a) (Some b) = bytes_eq a b
is_same_form _ _ = false

-- words without the last one, where the search goes on with its directory at once
abbrev pub before_same : (next : Option (List ℕ)) → (words : List (List ℕ)) → List (List ℕ)
before_same next [] = []
before_same next (word ∷ []) = if is_same_form next (normal_form word) then [] else word ∷ []
before_same next (word ∷ more ∷ words) = word ∷ before_same next (more ∷ words)

-- the directories for names in either form, by the words for directories of one's own and for those of the system
abbrev pub include_dirs : (own system : List (List ℕ)) → List NamedDir
include_dirs own system = dirs_after false (known_after [] system) own ++ dirs_after true [] system

-- those for names between " alone: one that is named for the system's headers, too, is left to them
abbrev pub quoted_dirs : (quoted own system : List (List ℕ)) → List NamedDir
quoted_dirs quoted own system =
    dirs_after false (known_after [] system) (before_same (first_form (include_dirs own system)) quoted)

-- the include path by the words for names between " alone, for directories of one's own, and for those of the system
abbrev pub named_path : (quoted own system : List (List ℕ)) → NamedPath
named_path quoted own system = record {
  dirs = quoted_dirs quoted own system ++ include_dirs own system;
  quoted = length (quoted_dirs quoted own system);
}
