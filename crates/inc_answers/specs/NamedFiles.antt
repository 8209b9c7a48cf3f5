-- Which files of a project are named by paths, which need not be in normal form.
use Rattle.std.specs.Prelude.{◌≡◌, ℕ, suc, List, [], ◌∷◌, Option, Some, None, Result, Ok, Err, filter, filter_map, flat_map, length, map, nat_lt, option_and_then, slice_index_or}
use Rattle.std.specs.List.{position, range_with_len}
use Rattle.std.specs.Option.{is_none}
use Rattle.inc_graph.specs.declared.building.Source.{Source}
use Rattle.inc_lookup.specs.Paths.{normal_form}
use Rattle.inc_lookup.specs.Projects.{Layout, place_of}
use Rattle.inc_graph.specs.Members.{is_member}
use Rattle.inc_answers.specs.Terms.{Question}
use Rattle.inc_answers.specs.declared.named_files.NameFault.{NameFault}
use Rattle.inc_answers.specs.declared.named_files.NameFault.TheVariants.{Unnamed, NoMemory}

-- the file that a path names
abbrev pub file_at : Layout → List ℕ → Option ℕ
file_at layout path = option_and_then (λ p. place_of p layout.paths) (normal_form path)

-- the place of the first path that names none
abbrev pub first_unnamed : Layout → (paths : List (List ℕ)) → Option ℕ
first_unnamed layout paths = position (λ p. is_none (file_at layout p)) paths

-- the files of the project that the list has, in their order, each once
abbrev pub files_among : Layout → List ℕ → List ℕ
files_among layout files = filter (λ f. is_member f files) (range_with_len 0 (length layout.paths))

-- the files that paths name, in the order of the project, each once; or the place of the first path that names none
abbrev pub files_at : Layout → (paths : List (List ℕ)) → Result (List ℕ) ℕ
files_at layout paths =
    elim (first_unnamed layout paths) [ None ↦ Ok (files_among layout (filter_map (file_at layout) paths)) | Some i ↦ Err i ]

-- the same where there must be one: where there is no path, the first is missing
abbrev pub some_files_at : Layout → (paths : List (List ℕ)) → Result (List ℕ) ℕ
some_files_at layout [] = Err 0
some_files_at layout (p ∷ ps) = files_at layout (p ∷ ps)

-- the headers of a question: none where it is about sources alone
abbrev pub headers_at : Layout → (to : Option (List (List ℕ))) → Result (List ℕ) ℕ
headers_at layout None = Ok []
headers_at layout (Some paths) = some_files_at layout paths

-- the files of its sources, of which there must be one where it is about them alone
abbrev pub source_files_at : Layout → (from : List (List ℕ)) → (to : Option (List (List ℕ))) → Result (List ℕ) ℕ
source_files_at layout from None = some_files_at layout from
source_files_at layout from (Some to) = files_at layout from

-- the numbers that there are among those of include paths
abbrev pub given_paths : (count : ℕ) → (paths : List ℕ) → List ℕ
given_paths count paths = filter (λ k. nat_lt k count) paths

abbrev pub or_each : (count : ℕ) → (paths : List ℕ) → List ℕ
or_each count [] = range_with_len 0 count
or_each count (k ∷ ks) = k ∷ ks

-- those with which a file is read as a source
abbrev pub source_paths : Question → (file : ℕ) → List ℕ
source_paths q file = or_each (suc (length q.others)) (given_paths (suc (length q.others)) (slice_index_or q.read_with file []))

abbrev pub source_of : (file path : ℕ) → Source
source_of file path = record { file = file; path = path }

-- files as sources, each with its include paths
abbrev pub sources_of : Question → (files : List ℕ) → List Source
sources_of q files = flat_map (λ f. map (source_of f) (source_paths q f)) files

abbrev pub as_sources : Question → Result (List ℕ) ℕ → Result (List Source) ℕ
as_sources q (Ok files) = Ok (sources_of q files)
as_sources q (Err i) = Err i

-- the sources of a question
abbrev pub sources_at : Layout → Question → Result (List Source) ℕ
sources_at layout q = as_sources q (source_files_at layout q.from q.to)

-- the path at this place is the first that names no file, or memory ran out
abbrev pub IsNameFault : {A : Type 0} → Result A ℕ → NameFault → Type 0
IsNameFault files (Unnamed i) = files ≡ Err i
IsNameFault files NoMemory = Unit {0}
