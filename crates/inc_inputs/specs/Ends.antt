-- Between which files of a project a question is asked: a source and a header by a word for each, those that the words of --from and --to
-- stand for, or those of --from and a header by a word; or from which files, and to which groups of others.
use Rattle.std.specs.Prelude.{ℕ, ◌==◌, ◌&&◌, not, Bool, false, List, [], ◌∷◌, ◌++◌, Option, Some, None, Result, Ok, Err, if◌then◌else◌, codes, filter, filter_map, length}
use Rattle.std.specs.List.{fold}
use Rattle.std.specs.Option.{option_map_or}
use Rattle.inc_lookup.specs.Projects.{Layout, found_as, path_at}
use Rattle.inc_globs.specs.Globs.{Piece, fits, is_glob, pieces}
use Rattle.inc_cost.specs.Costs.{Group}
use Rattle.inc_graph.specs.Members.{is_member}
use Rattle.inc_args.specs.Meaning.{Question}
use Rattle.inc_inputs.specs.HeaderNames.{header_path}
use Rattle.inc_inputs.specs.Reports.{Report, bad_glob, fits_none, no_source_left}
use Rattle.inc_inputs.specs.declared.sides.Side.{Side}
use Rattle.inc_inputs.specs.declared.sides.Side.TheVariants.{Source, Header, Drop, Keep, Only}

-- paths, or the report of a failure
abbrev pub Paths : Type 0
Paths = Result (List (List ℕ)) Report

-- the paths that a glob fits, of which there must be one
abbrev pub some_paths : (option word : List ℕ) → List (List ℕ) → Paths
some_paths option word [] = Err (fits_none option word)
some_paths option word (p ∷ ps) = Ok (p ∷ ps)

-- the paths of the project that a glob fits, in their order
abbrev pub glob_paths : Layout → (option word : List ℕ) → Option (List Piece) → Paths
glob_paths layout option word None = Err (bad_glob option word)
glob_paths layout option word (Some glob) = some_paths option word (filter (fits glob) layout.paths)

-- the option whose words stand for these files
abbrev pub option_of : Side → List ℕ
option_of Source = codes "--from"
option_of Header = codes "--to"
option_of Drop = codes "--drop"
option_of Keep = codes "--keep"
option_of Only = codes "--only"

-- the path of the file that a word names
abbrev pub file_path : Layout → (option word : List ℕ) → Option ℕ → Result (List ℕ) Report
file_path layout option word None = Err (fits_none option word)
file_path layout option word (Some file) = Ok (path_at layout file)

-- the path for which a word stands that is no glob
abbrev pub stands_for : Layout → Side → (word : List ℕ) → Result (List ℕ) Report
stands_for layout Source word = Ok word
stands_for layout Header word = header_path layout word
stands_for layout side word = file_path layout (option_of side) word (found_as layout.paths word)

-- one path
abbrev pub alone : Result (List ℕ) Report → Paths
alone (Ok p) = Ok (p ∷ [])
alone (Err r) = Err r

abbrev pub word_paths : Layout → Side → (word : List ℕ) → Paths
word_paths layout side word =
    if is_glob word then glob_paths layout (option_of side) word (pieces word) else alone (stands_for layout side word)

-- paths before others
abbrev pub before : List (List ℕ) → Paths → Paths
before ps (Ok qs) = Ok (ps ++ qs)
before ps (Err r) = Err r

-- and what comes after some, unless these failed
abbrev pub after : Paths → Paths → Paths
after (Ok ps) rest = before ps rest
after (Err r) rest = Err r

-- those of several words, or the report of the first that stands for none
abbrev pub joined_paths : Layout → Side → (words : List (List ℕ)) → Paths
joined_paths layout side [] = Ok []
joined_paths layout side (w ∷ ws) = after (word_paths layout side w) (joined_paths layout side ws)

---- the files of paths

-- the files that paths name; one that names none is passed over
abbrev pub named_files : Layout → List (List ℕ) → List ℕ
named_files layout paths = filter_map (found_as layout.paths) paths

-- the path names one of these files
abbrev pub is_path_of : Layout → List ℕ → List ℕ → Bool
is_path_of layout files path = option_map_or (λ f. is_member f files) (found_as layout.paths path) false

-- paths and one behind them, unless it names a file that one of them names
abbrev pub with_new : Layout → (paths : List (List ℕ)) → (path : List ℕ) → List (List ℕ)
with_new layout paths path = if is_path_of layout (named_files layout paths) path then paths else paths ++ path ∷ []

-- for each file the first path that names it, and all paths that name none
abbrev pub once : Layout → (paths : List (List ℕ)) → List (List ℕ)
once layout paths = fold (with_new layout) [] paths

abbrev pub once_of : Layout → Paths → Paths
once_of layout (Ok ps) = Ok (once layout ps)
once_of layout (Err r) = Err r

-- the paths for which words stand, with each file once, however many words fit it
abbrev pub words_paths : Layout → Side → (words : List (List ℕ)) → Paths
words_paths layout side words = once_of layout (joined_paths layout side words)

---- sources that are headers

-- the paths of sources without those of files that are headers, too
abbrev pub apart : Layout → (sources headers : List (List ℕ)) → List (List ℕ)
apart layout sources headers = filter (λ p. not (is_path_of layout (named_files layout headers) p)) sources

---- both

-- the paths of sources and of headers, and groups of headers
pub record EndPaths : Type 0 where
  pub from : List (List ℕ)
  pub to : List (List ℕ)
  pub groups : List Group

-- there must be a source
abbrev pub some_ends : (from to : List (List ℕ)) → Result EndPaths Report
some_ends [] to = Err no_source_left
some_ends (p ∷ ps) to = Ok (record { from = p ∷ ps; to = to; groups = [] })

-- a file that both stand for is a header alone
abbrev pub ends_by : Layout → (from to : Paths) → Result EndPaths Report
ends_by layout (Err r) to = Err r
ends_by layout (Ok ss) (Err r) = Err r
ends_by layout (Ok ss) (Ok ts) = some_ends (apart layout ss ts) ts

-- sources and one header, which may be among them
abbrev pub ends_at : (from header : Paths) → Result EndPaths Report
ends_at (Err r) header = Err r
ends_at (Ok ss) (Err r) = Err r
ends_at (Ok ss) (Ok ts) = Ok (record { from = ss; to = ts; groups = [] })

-- what the words of --from and --to stand for
abbrev pub end_paths : Layout → (from to : List (List ℕ)) → Result EndPaths Report
end_paths layout from to = ends_by layout (words_paths layout Source from) (words_paths layout Header to)

---- groups of headers

-- paths as a group that is called by a word, which must name some file
abbrev pub some_group : (word : List ℕ) → (paths : List (List ℕ)) → (files : List ℕ) → Result Group Report
some_group word paths [] = Err (fits_none (option_of Header) word)
some_group word paths (f ∷ fs) = Ok (record { name = word; paths = paths })

abbrev pub group_by : Layout → (word : List ℕ) → Paths → Result Group Report
group_by layout word (Err r) = Err r
group_by layout word (Ok ps) = some_group word ps (named_files layout ps)

-- the group for which a word of --to stands
abbrev pub group_of : Layout → (word : List ℕ) → Result Group Report
group_of layout word = group_by layout word (word_paths layout Header word)

-- a group before others, or the report of the first that there is
abbrev pub group_before : Result Group Report → Result (List Group) Report → Result (List Group) Report
group_before (Err r) rest = Err r
group_before (Ok x) (Ok xs) = Ok (x ∷ xs)
group_before (Ok x) (Err r) = Err r

abbrev pub groups_of : Layout → (words : List (List ℕ)) → Result (List Group) Report
groups_of layout [] = Ok []
groups_of layout (w ∷ ws) = group_before (group_of layout w) (groups_of layout ws)

-- sources and groups
abbrev pub grouped : (from : Paths) → Result (List Group) Report → Result EndPaths Report
grouped (Err r) groups = Err r
grouped (Ok ss) (Err r) = Err r
grouped (Ok ss) (Ok gs) = Ok (record { from = ss; to = []; groups = gs })

-- those that the words of --from and --to stand for; a source stays one, whatever group has it
abbrev pub grouped_ends : Layout → Question → Result EndPaths Report
grouped_ends layout q = grouped (words_paths layout Source q.from) (groups_of layout q.to)

-- the source of a word, or those of the words of --from, and groups
abbrev pub source_ends : Layout → Question → (source : Option (List ℕ)) → Result EndPaths Report
source_ends layout q (Some s) = Ok (record { from = s ∷ []; to = []; groups = [] })
source_ends layout q None = grouped_ends layout q

abbrev pub tree_ends : Layout → Question → Result EndPaths Report
tree_ends layout q = source_ends layout q q.source

---- a question

abbrev pub is_empty : List (List ℕ) → Bool
is_empty words = length words == 0

abbrev pub are_ends_by : (source header : Option (List ℕ)) → (from to : List (List ℕ)) → Bool
are_ends_by (Some s) (Some h) from to = is_empty from && is_empty to
are_ends_by None (Some h) from to = not (is_empty from) && is_empty to
are_ends_by None None from to = not (is_empty from) && not (is_empty to)
are_ends_by _ _ from to = false

-- there is a word for a source and one for a header, or some of --from and either a word for a header or some of --to, and nothing else
abbrev pub are_ends : Question → Bool
are_ends q = are_ends_by q.source q.header q.from q.to

abbrev pub ends_of_words : Layout → (source header : Option (List ℕ)) → (from to : List (List ℕ)) → Result EndPaths Report
ends_of_words layout (Some s) (Some h) from to = ends_at (Ok (s ∷ [])) (alone (header_path layout h))
ends_of_words layout None (Some h) from to = ends_at (words_paths layout Source from) (alone (header_path layout h))
ends_of_words layout _ _ from to = end_paths layout from to

-- the paths between which a question is asked
abbrev pub asked_ends : Layout → Question → Result EndPaths Report
asked_ends layout q = ends_of_words layout q.source q.header q.from q.to
