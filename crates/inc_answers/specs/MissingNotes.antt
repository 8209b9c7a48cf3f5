-- The notes on headers that are not found: how many directives name one, the names most often named, where each is named first, and with
-- which directory in the include path a file of the project would be found by it; and with which directories most of them would be found.
-- And the note that no configuration leads to a header.
use Rattle.std.specs.Prelude.{ℕ, Bool, ◌+◌, ◌-◌, ◌/◌, ◌%◌, ◌++◌, ◌==◌, ◌&&◌, List, [], ◌∷◌, Option, Some, None, if◌then◌else◌, bytes_eq, codes, decimal, drop, flat_map, length, nat_lt, take}
use Rattle.std.specs.Option.{option_map_or}
use Rattle.inc_text.specs.Ascii.{slash}
use Rattle.inc_lookup.specs.Projects.{Layout, path_at}
use Rattle.inc_graph.specs.declared.graphs.Blocker.{Blocker}
use Rattle.inc_graph.specs.MissingLists.{Missing}
use Rattle.inc_answers.specs.MissingNames.{MissingName, missing_names, ranked, spelled}
use Rattle.inc_answers.specs.UsefulDirs.{Best, best_dirs}
use Rattle.inc_answers.specs.declared.missing_names.TheConstants.{MOST_NAMES}
use Rattle.inc_answers.specs.declared.useful_dirs.TheConstants.{LEAST_FOUND}

---- texts on one line

-- a digit in base 16
abbrev pub hex_digit : ℕ → ℕ
hex_digit n = if nat_lt n 10 then 48 + n else 87 + n

-- a byte that is printable ASCII as it is, and another one as \xNN
abbrev pub shown_byte : ℕ → List ℕ
shown_byte b = if nat_lt 31 b && nat_lt b 127 then b ∷ [] else (codes "\\x" ++ hex_digit (b / 16) ∷ []) ++ hex_digit (b % 16) ∷ []

abbrev pub shown : List ℕ → List ℕ
shown bytes = flat_map shown_byte bytes

-- spaces before a number, so that its digits take four columns; a longer number has none
abbrev pub padding : ℕ → List ℕ
padding n = if nat_lt n 10 then codes "   " else if nat_lt n 100 then codes "  " else if nat_lt n 1000 then codes " " else []

-- what each line begins with
abbrev pub note_start : List ℕ
note_start = codes "incut: note: "

---- what finds a name

-- the directory in which a file with this path is found by a name: what is before the name and the / in front of it, or the folder of the
-- run
abbrev pub directory_before : (name path : List ℕ) → Option (List ℕ)
directory_before name path =
    if bytes_eq path name then Some (codes ".")
    else if nat_lt (length name + 1) (length path) && bytes_eq (drop (length path - (length name + 1)) path) (slash ∷ name)
    then Some (take (length path - (length name + 1)) path) else None

-- a file that is found so, and the option with which it is
abbrev pub found_line : (path dir : List ℕ) → List ℕ
found_line path dir = note_start ++ codes "      found as " ++ shown path ++ codes ": -I " ++ shown dir ++ 10 ∷ []

-- the first file of the project that is found so, if one is
abbrev pub found_note : (paths : List (List ℕ)) → (name : List ℕ) → List ℕ
found_note [] name = []
found_note (path ∷ paths) name = option_map_or (found_line path) (directory_before name path) (found_note paths name)

---- the lines

-- a name, with how many directives name it and where the first is
abbrev pub name_line : Layout → MissingName → List ℕ
name_line layout n =
    note_start ++ padding n.count ++ decimal n.count ++ codes "  " ++ shown (spelled n.header) ++ codes "  first at " ++ shown (path_at layout n.file)
    ++ codes ":" ++ decimal n.line ++ 10 ∷ []

abbrev pub name_note : Layout → MissingName → List ℕ
name_note layout n = name_line layout n ++ found_note layout.paths n.header.name

-- how many names more there are than are listed
abbrev pub more_note : ℕ → List ℕ
more_note n = if n == 0 then [] else note_start ++ codes ".. and " ++ decimal n ++ codes " more" ++ 10 ∷ []

-- the first names of these, and how many more there are
abbrev pub names_note : Layout → List MissingName → List ℕ
names_note layout names = flat_map (name_note layout) (take MOST_NAMES (ranked names)) ++ more_note (length names - MOST_NAMES)

-- how many names would be found with a directory
abbrev pub dir_line : (dir : List ℕ) → (count : ℕ) → List ℕ
dir_line dir count = note_start ++ codes "-I " ++ shown dir ++ codes " would find " ++ decimal count ++ codes " of the missing headers" ++ 10 ∷ []

-- if that is enough
abbrev pub useful_line : List ℕ × ℕ → List ℕ
useful_line d = if nat_lt d.1 LEAST_FOUND then [] else dir_line d.0 d.1

abbrev pub best_lines : Best → List ℕ
best_lines b = useful_line b.first ++ useful_line b.second ++ useful_line b.third

-- the directories with which most names would be found
abbrev pub useful_note : (paths : List (List ℕ)) → List Missing → List ℕ
useful_note paths ms = best_lines (best_dirs paths ms)

-- what is noted of directives whose header is not found
abbrev pub missing_note : Layout → List Missing → List ℕ
missing_note layout ms = names_note layout (missing_names ms) ++ useful_note layout.paths ms

-- what follows the number of directives, where the answer takes them as empty
abbrev pub empty_words : ℕ → List ℕ
empty_words n =
    if n == 1 then codes " include names a header that was not found; the answer takes it as empty:"
    else codes " includes name headers that were not found; the answer takes them as empty:"

-- the same where no header is reached, with what comes before the number
abbrev pub unreached_words : ℕ → List ℕ
unreached_words n =
    if n == 1 then codes " include names a header that was not found:" else codes " includes name headers that were not found:"

-- the first line
abbrev pub empty_line : ℕ → List ℕ
empty_line n = note_start ++ decimal n ++ empty_words n ++ 10 ∷ []

abbrev pub unreached_line : ℕ → List ℕ
unreached_line n = note_start ++ codes "not reached, but " ++ decimal n ++ unreached_words n ++ 10 ∷ []

-- what is noted where an answer takes headers that are not found as empty; nothing where each is found
abbrev pub empty_lines : Layout → List Missing → List ℕ
empty_lines layout [] = []
empty_lines layout (m ∷ ms) = empty_line (length (m ∷ ms)) ++ missing_note layout (m ∷ ms)

-- the line that no configuration leads to a header
abbrev pub never_line : List ℕ
never_line = note_start ++ codes "not reached under any configuration" ++ 10 ∷ []

-- it stands where nothing can be said of no directive, and the files are read as they are: with no directive taken as removed, and no name
-- as undefined
abbrev pub never_note : (whole : Bool) → List Blocker → List ℕ
never_note whole [] = if whole then never_line else []
never_note whole (b ∷ bs) = []

-- what is noted where no header is reached: of headers that are not found, or this line where each is found
abbrev pub unreached_lines : (whole : Bool) → Layout → List Blocker → List Missing → List ℕ
unreached_lines whole layout bs [] = never_note whole bs
unreached_lines whole layout bs (m ∷ ms) = unreached_line (length (m ∷ ms)) ++ missing_note layout (m ∷ ms)
