-- What a word that names no file of the project may have meant: the paths whose last component is that of the word, or else those whose
-- last component is nearest to it. And the lines that say so, beside the refusal.
use Rattle.std.specs.Prelude.{ℕ, ◌++◌, ◌==◌, ◌||◌, ◌/◌, List, [], ◌∷◌, ◌-◌, if◌then◌else◌, bytes_eq, codes, decimal, filter, flat_map, length, min, nat_eq, nat_lt, slice_get, take}
use Rattle.std.specs.Option.{is_none, option_map_or}
use Rattle.strsim.specs.Edits.{levenshtein_row}
use Rattle.inc_text.specs.Ascii.{slash}
use Rattle.inc_lookup.specs.Projects.{Layout}
use Rattle.inc_answers.specs.MissingNotes.{shown}
use Rattle.inc_answers.specs.NamedFiles.{file_at}

---- how far names are apart

-- what is behind the last /
abbrev pub name_from : (name rest : List ℕ) → List ℕ
name_from name [] = name
name_from name (b ∷ bs) = if b == slash then name_from bs bs else name_from name bs

abbrev pub last_name : (path : List ℕ) → List ℕ
last_name path = name_from path path

-- how many bytes have to be put in, left out or changed to make one name of the other
abbrev pub distance : (name other : List ℕ) → ℕ
distance name other = levenshtein_row nat_eq name other (length other)

-- the longest name that is compared, so that a guess takes time that is linear in the list; and what is further than any name is that is near
abbrev pub longest_compared : ℕ
longest_compared = 64

abbrev pub far : ℕ
far = 65

-- how far another name is from a name: one that is more than a third of its length away is far, as one that is too long to be compared
abbrev pub apart : (name other : List ℕ) → ℕ
apart name other =
    if bytes_eq name other then 0
    else if nat_lt longest_compared (length name) || nat_lt longest_compared (length other) then far
    else if nat_lt (length name / 3) (distance name other) then far
    else distance name other

-- the same of the last component of a path
abbrev pub path_apart : (name path : List ℕ) → ℕ
path_apart name path = apart name (last_name path)

-- that of the nearest of these paths
abbrev pub least : (name : List ℕ) → (paths : List (List ℕ)) → ℕ
least name [] = far
least name (p ∷ ps) = min (path_apart name p) (least name ps)

---- what a word may have meant

-- the most paths that are named
abbrev pub most_near : ℕ
most_near = 3

-- the first paths that are so far from a name; none where that is far
abbrev pub nearest : (name : List ℕ) → (least : ℕ) → (paths : List (List ℕ)) → List (List ℕ)
nearest name least paths = if least == far then [] else take most_near (filter (λ p. path_apart name p == least) paths)

abbrev pub guesses : (word : List ℕ) → (paths : List (List ℕ)) → List (List ℕ)
guesses word paths = nearest (last_name word) (least (last_name word) paths) paths

---- lines

-- one path more
abbrev pub or_path : List ℕ → List ℕ
or_path p = codes " or " ++ shown p

abbrev pub guess_text : List (List ℕ) → List ℕ
guess_text [] = []
guess_text (p ∷ ps) = codes "; did you mean " ++ shown p ++ flat_map or_path ps ++ codes "?"

-- the line on a word that names no file, which is a source or a header
abbrev pub unnamed_line : (what : List ℕ) → (paths : List (List ℕ)) → (word : List ℕ) → List ℕ
unnamed_line what paths word = codes "incut: no such " ++ what ++ codes ": " ++ shown word ++ guess_text (guesses word paths) ++ 10 ∷ []

-- the line on the word at a place; none where there is no such word
abbrev pub unnamed_at : (what : List ℕ) → (paths words : List (List ℕ)) → (place : ℕ) → List ℕ
unnamed_at what paths words place = option_map_or (unnamed_line what paths) (slice_get words place) []

-- the most words that have a line
abbrev pub most_unnamed : ℕ
most_unnamed = 10

-- how many words more there are than have one
abbrev pub more_line : ℕ → List ℕ
more_line n = if n == 0 then [] else codes "incut: .. and " ++ decimal n ++ codes " more" ++ 10 ∷ []

-- the lines on these words
abbrev pub unnamed_lines : (what : List ℕ) → (paths words : List (List ℕ)) → List ℕ
unnamed_lines what paths words = flat_map (unnamed_line what paths) (take most_unnamed words) ++ more_line (length words - most_unnamed)

-- the words that name no file of the project
abbrev pub unnamed : Layout → (words : List (List ℕ)) → List (List ℕ)
unnamed layout words = filter (λ w. is_none (file_at layout w)) words

-- the lines on sources that name no file
abbrev pub source_notes : Layout → (sources : List (List ℕ)) → List ℕ
source_notes layout sources = unnamed_lines (codes "source") layout.paths (unnamed layout sources)
