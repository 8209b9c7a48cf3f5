-- What is noted of the words that name sources and headers: of files that words of --from and of --to both stand for, too.
use Rattle.std.specs.Prelude.{ℕ, ◌&&◌, List, [], ◌++◌, Option, Some, None, Ok, Err, codes, filter, length, map}
use Rattle.std.specs.List.{range_with_len}
use Rattle.inc_lookup.specs.Projects.{Layout, path_at}
use Rattle.inc_graph.specs.Members.{is_member}
use Rattle.inc_args.specs.Meaning.{Question}
use Rattle.inc_inputs.specs.BuildReports.{some_lines}
use Rattle.inc_inputs.specs.Ends.{Paths, named_files, words_paths}
use Rattle.inc_inputs.specs.HeaderNames.{header_notes}
use Rattle.inc_inputs.specs.Reports.{shown}
use Rattle.inc_inputs.specs.declared.sides.Side.TheVariants.{Source, Header}

-- the files that paths of sources and paths of headers both name, in the order of the project, each once
abbrev pub both_files : Layout → (sources headers : List (List ℕ)) → List ℕ
both_files layout sources headers =
    filter (λ f. is_member f (named_files layout sources) && is_member f (named_files layout headers)) (range_with_len 0 (length layout.paths))

abbrev pub both_line : Layout → (file : ℕ) → List ℕ
both_line layout file = shown (path_at layout file) ++ codes " is in --from and --to; taken as a header alone"

-- a line for each of them
abbrev pub both_lines : Layout → (sources headers : List (List ℕ)) → List (List ℕ)
both_lines layout sources headers = map (both_line layout) (both_files layout sources headers)

abbrev pub both_by : Layout → (from to : Paths) → List ℕ
both_by layout (Err r) to = []
both_by layout (Ok ss) (Err r) = []
both_by layout (Ok ss) (Ok ts) = some_lines (both_lines layout ss ts)

-- of the words of --from and --to; a word for a header may name a source, which stays one
abbrev pub both_notes : Layout → (header : Option (List ℕ)) → (from to : List (List ℕ)) → List ℕ
both_notes layout (Some header) from to = []
both_notes layout None from to = both_by layout (words_paths layout Source from) (words_paths layout Header to)

-- of all words of a question
abbrev pub end_notes : Layout → Question → List ℕ
end_notes layout q = header_notes layout q ++ both_notes layout q.header q.from q.to
