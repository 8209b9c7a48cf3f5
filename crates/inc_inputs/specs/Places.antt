-- Places of a project on the command line: `GLOB`, the files that it fits, or `GLOB:LINE`, the directive at a line of each of these. What
-- `GLOB:NAME` stands for, the files say.
use Rattle.std.specs.Prelude.{ℕ, ◌+◌, ◌&&◌, ◌||◌, not, Bool, List, [], ◌∷◌, ◌++◌, Option, Some, None, Result, Ok, Err, if◌then◌else◌, drop, filter, filter_map, is_some, length, map, take}
use Rattle.std.specs.List.{range_with_len}
use Rattle.inc_lookup.specs.Projects.{Layout}
use Rattle.inc_graph.specs.Marks.{Mark}
use Rattle.inc_graph.specs.Members.{is_member}
use Rattle.inc_check.specs.Reading.{mark_with, number_in}
use Rattle.inc_args.specs.Meaning.{Limits, Question}
use Rattle.inc_inputs.specs.Ends.{Paths, is_empty, named_files, option_of, word_paths, words_paths}
use Rattle.inc_inputs.specs.PlaceWords.{line_colon, name_colon}
use Rattle.inc_inputs.specs.Reports.{Report, no_line}
use Rattle.inc_inputs.specs.declared.sides.Side.{Side}
use Rattle.inc_inputs.specs.declared.sides.Side.TheVariants.{Drop, Keep, Only}

---- the directive at a line

-- marks, or the report of a failure
abbrev pub Marks : Type 0
Marks = Result (List Mark) Report

-- those of this line in files, of which there must be one
abbrev pub some_marks : (option word : List ℕ) → List Mark → Marks
some_marks option word [] = Err (no_line option word)
some_marks option word (m ∷ ms) = Ok (m ∷ ms)

abbrev pub line_marks : (option word : List ℕ) → (line : Option ℕ) → Paths → Marks
line_marks option word line (Err r) = Err r
line_marks option word line (Ok paths) = some_marks option word (filter_map (mark_with line) paths)

abbrev pub marks_by : Layout → Side → (word : List ℕ) → (colon : Option ℕ) → Marks
marks_by layout side word (Some n) = line_marks (option_of side) word (number_in (drop (n + 1) word)) (word_paths layout side (take n word))
marks_by layout side word None = Ok []

-- the marks for which a word with a line stands
abbrev pub word_marks : Layout → Side → (word : List ℕ) → Marks
word_marks layout side word = marks_by layout side word (line_colon word)

-- behind others
abbrev pub marks_behind : List Mark → Marks → Marks
marks_behind ms (Ok more) = Ok (ms ++ more)
marks_behind ms (Err r) = Err r

-- and what comes after some, unless these failed
abbrev pub marks_after : Marks → Marks → Marks
marks_after (Ok ms) rest = marks_behind ms rest
marks_after (Err r) rest = Err r

-- those of several words, or the report of the first that stands for none
abbrev pub words_marks : Layout → Side → (words : List (List ℕ)) → Marks
words_marks layout side [] = Ok []
words_marks layout side (w ∷ ws) = marks_after (word_marks layout side w) (words_marks layout side ws)

---- files

-- the words that are about whole files
abbrev pub whole_words : (words : List (List ℕ)) → List (List ℕ)
whole_words words = filter (λ w. not (is_some (line_colon w) || is_some (name_colon w))) words

-- for each file whether it is kept: it is one of these, or there are some in which alone directives may be removed, and it is none of those.
-- No flag is there where neither are
abbrev pub kept_flags : Layout → (keep only : List (List ℕ)) → List Bool
kept_flags layout keep only =
    if is_empty keep && is_empty only then []
    else map (λ f. is_member f (named_files layout keep) || (not (is_empty only) && not (is_member f (named_files layout only)))) (range_with_len 0 (length layout.paths))

abbrev pub kept_by : Layout → (keep only : Paths) → Result (List Bool) Report
kept_by layout (Err r) only = Err r
kept_by layout (Ok ks) (Err r) = Err r
kept_by layout (Ok ks) (Ok os) = Ok (kept_flags layout ks os)

-- by the words of --keep and of --only
abbrev pub kept_files : Layout → (keep only : List (List ℕ)) → Result (List Bool) Report
kept_files layout keep only = kept_by layout (words_paths layout Keep (whole_words keep)) (words_paths layout Only only)

---- a question

pub record Places : Type 0 where
  -- the marks of directives that are taken as removed, those of a list first
  pub without : List Mark
  -- those of directives that may not be removed
  pub fixed : List Mark
  -- for each file whether none of its directives may be; none at all where no file is kept so
  pub kept : List Bool

abbrev pub places_by : (without fixed : Marks) → Result (List Bool) Report → Result Places Report
places_by (Err r) fixed kept = Err r
places_by (Ok ds) (Err r) kept = Err r
places_by (Ok ds) (Ok ms) (Err r) = Err r
places_by (Ok ds) (Ok ms) (Ok flags) = Ok (record { without = ds; fixed = ms; kept = flags })

-- what the words of --drop, --keep and --only come to, behind the marks of lists
abbrev pub places_of : Layout → Question → Limits → (without fixed : List Mark) → Result Places Report
places_of layout q l without fixed =
    places_by (marks_behind without (words_marks layout Drop q.drop)) (marks_behind fixed (words_marks layout Keep l.keep)) (kept_files layout l.keep l.only)
