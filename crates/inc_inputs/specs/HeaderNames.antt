-- Words that name a header: by its path, by the name that an include has for it, or by the end of its path.
use Rattle.std.specs.Prelude.{ℕ, List, [], ◌∷◌, ◌++◌, Option, Some, None, Result, Ok, Err, if◌then◌else◌, bytes_eq, codes, filter, flat_map, is_some}
use Rattle.inc_lookup.specs.Projects.{Layout, found_as, found_file, path_at}
use Rattle.inc_lookup.specs.declared.projects.Form.TheVariants.{Angled}
use Rattle.inc_globs.specs.Globs.{Piece, fits, is_glob, pieces}
use Rattle.inc_args.specs.Meaning.{Question}
use Rattle.inc_inputs.specs.Reports.{Report, note_line, several_headers}

-- the file that an include of this name in angle brackets finds
abbrev pub included : Layout → (name : List ℕ) → Option ℕ
included layout name = found_file layout [] Angled name

-- the paths that a pattern fits; none where it does not end
abbrev pub fitting : Layout → Option (List Piece) → List (List ℕ)
fitting layout None = []
fitting layout (Some glob) = filter (fits glob) layout.paths

-- the paths that end in these components
abbrev pub ending_in : Layout → (name : List ℕ) → List (List ℕ)
ending_in layout name = fitting layout (pieces (codes "**/" ++ name))

-- the only one of these paths; the word itself where there is none
abbrev pub only_path : (word : List ℕ) → List (List ℕ) → Result (List ℕ) Report
only_path word [] = Ok word
only_path word (p ∷ []) = Ok p
only_path word (p ∷ q ∷ ps) = Err (several_headers word p q)

-- the path of the file that an include of a word finds, or else the one that ends in it
abbrev pub named_path : Layout → (word : List ℕ) → (included : Option ℕ) → Result (List ℕ) Report
named_path layout word (Some file) = Ok (path_at layout file)
named_path layout word None = only_path word (ending_in layout word)

-- the path for which a word stands: a path of the project stands for itself
abbrev pub header_path : Layout → (word : List ℕ) → Result (List ℕ) Report
header_path layout word =
    if is_some (found_as layout.paths word) then Ok word else named_path layout word (included layout word)

---- what is noted of that

-- a line for a word that stands for another path
abbrev pub note_of : (word : List ℕ) → Result (List ℕ) Report → List ℕ
note_of word (Ok path) = if bytes_eq word path then [] else note_line (word ++ codes " is " ++ path)
note_of word (Err r) = []

-- a glob stands for what it fits
abbrev pub word_notes : Layout → (word : List ℕ) → List ℕ
word_notes layout word = if is_glob word then [] else note_of word (header_path layout word)

abbrev pub notes_by : Layout → (header : Option (List ℕ)) → (to : List (List ℕ)) → List ℕ
notes_by layout (Some header) to = note_of header (header_path layout header)
notes_by layout None to = flat_map (word_notes layout) to

-- of HEADER, or of the words of --to
abbrev pub header_notes : Layout → Question → List ℕ
header_notes layout q = notes_by layout q.header q.to
