-- Places of a project that its files say: `GLOB:NAME`, the directives with NAME behind their `#include` in each of the files that GLOB fits, and, of
-- --drop, `GLOB`, all of these files that include.
use Rattle.std.specs.Prelude.{ℕ, ◌+◌, ◌==◌, ◌&&◌, Bool, true, false, List, [], ◌∷◌, ◌++◌, Option, Some, None, Ok, Err, bytes_eq, drop, filter_map, length, option_and_then, slice_get, take}
use Rattle.inc_text.specs.PhaseText.{Cell, phase_text}
use Rattle.inc_text.specs.declared.languages.Language.{Language}
use Rattle.inc_token.specs.LineWalk.{lines_or_none}
use Rattle.inc_token.specs.TokenLines.{Tok, token_lines}
use Rattle.inc_directive.specs.FileDirectives.{file_directives}
use Rattle.inc_directive.specs.Groups.{FileLine, directive_line, file_lines}
use Rattle.inc_directive.specs.Removal.{is_removable}
use Rattle.inc_lookup.specs.Projects.{Layout, found_as}
use Rattle.inc_graph.specs.Marks.{Mark}
use Rattle.inc_check.specs.Reading.{mark_with}
use Rattle.inc_args.specs.Meaning.{Limits, Question}
use Rattle.inc_inputs.specs.Ends.{option_of, word_paths}
use Rattle.inc_inputs.specs.Inputs.{Gives, ListedAt}
use Rattle.inc_inputs.specs.PlaceWords.{line_colon, name_colon, unspaced}
use Rattle.inc_inputs.specs.Places.{Marks}
use Rattle.inc_inputs.specs.Reports.{no_directive}
use Rattle.inc_inputs.specs.Steps.{Step, comes_to, each, reads_as, then}
use Rattle.inc_inputs.specs.declared.sides.Side.{Side}
use Rattle.inc_inputs.specs.declared.sides.Side.TheVariants.{Drop, Keep}

---- the directives of a file

-- tokens are written so, the white space between them aside
abbrev pub are_written : List Tok → (name : List ℕ) → Bool
are_written [] name = length (unspaced name) == 0
are_written (t ∷ ts) name =
    bytes_eq (take (length t.spelling) (unspaced name)) t.spelling && are_written ts (drop (length t.spelling) (unspaced name))

-- what is behind # and the name of a directive is written so; none: whatever it is
abbrev pub is_named : Option (List ℕ) → List Tok → Bool
is_named None ts = true
is_named (Some name) ts = are_written (drop 2 ts) name

-- the line of a directive that includes and is named so
abbrev pub named_line : Option (List ℕ) → FileLine → Option ℕ
named_line name l = elim (is_removable l.kind && is_named name l.tokens) [ true ↦ Some (directive_line l) | false ↦ None ]

abbrev pub named_lines : Option (List ℕ) → List FileLine → List ℕ
named_lines name ls = filter_map (named_line name) ls

-- those of a text; one with a fault has none
abbrev pub text_lines : Language → Option (List ℕ) → List Cell → List ℕ
text_lines language name text =
    elim (file_directives language text) [ Ok ds ↦ named_lines name (file_lines language (lines_or_none (token_lines language text))) | Err fault ↦ [] ]

-- their marks, in the file with this path and these bytes
abbrev pub bytes_marks : Language → Option (List ℕ) → (path bytes : List ℕ) → List Mark
bytes_marks language name path bytes = filter_map (λ line. mark_with (Some line) path) (text_lines language name (phase_text language bytes))

---- those of a project

-- a project whose files are in a language and are read under these paths of the list
pub record Listed : Type 0 where
  pub layout : Layout
  pub written : List (List ℕ)
  pub language : Language

-- marks, and those of the file with a path, which is read under this one
abbrev pub with_file : {S : Type 0} → Gives S → Language → Option (List ℕ) → (path : List ℕ) → (written : Option (List ℕ)) → List Mark → Step S (List Mark)
with_file gives language name path None ms = comes_to (Ok ms)
with_file gives language name path (Some written) ms =
    then (reads_as gives written (ListedAt written)) (λ bytes. comes_to (Ok (ms ++ bytes_marks language name path bytes)))

-- under which path a file of the project is read
abbrev pub written_at : Listed → (path : List ℕ) → Option (List ℕ)
written_at p path = option_and_then (slice_get p.written) (found_as p.layout.paths path)

abbrev pub with_path : {S : Type 0} → Gives S → Listed → Option (List ℕ) → (path : List ℕ) → List Mark → Step S (List Mark)
with_path gives p name path ms = with_file gives p.language name path (written_at p path) ms

-- marks, and those of all files for which a glob stands
abbrev pub with_glob : {S : Type 0} → Gives S → Listed → Side → Option (List ℕ) → (glob : List ℕ) → List Mark → Step S (List Mark)
with_glob gives p side name glob ms = then (comes_to (word_paths p.layout side glob)) (λ paths. each (with_path gives p name) paths ms)

---- words

-- there must be more of them than there were
abbrev pub more_marks : (option word : List ℕ) → (before : List Mark) → List Mark → Marks
more_marks option word before ms = elim (length ms == length before) [ true ↦ Err (no_directive option word) | false ↦ Ok ms ]

-- marks, and those for which a word without a line stands
abbrev pub with_name : {S : Type 0} → Gives S → Listed → Side → (word : List ℕ) → (colon : Option ℕ) → List Mark → Step S (List Mark)
with_name gives p side word (Some n) ms =
    then (with_glob gives p side (Some (drop (n + 1) word)) (take n word) ms) (λ all. comes_to (more_marks (option_of side) word ms all))
with_name gives p Drop word None ms = with_glob gives p Drop None word ms
with_name gives p side word None ms = comes_to (Ok ms)

-- the same of any word: a line says which directive it is
abbrev pub with_word : {S : Type 0} → Gives S → Listed → Side → (word : List ℕ) → List Mark → Step S (List Mark)
with_word gives p side word ms = elim (line_colon word) [ Some n ↦ comes_to (Ok ms) | None ↦ with_name gives p side word (name_colon word) ms ]

---- a question

-- marks of directives that are taken as removed, and of those that may not be
pub record Marked : Type 0 where
  pub without : List Mark
  pub fixed : List Mark

-- those of lists, and behind them those that the words of --drop and --keep name
abbrev pub named_places : {S : Type 0} → Gives S → Listed → Question → Limits → (without fixed : List Mark) → Step S Marked
named_places gives p q l without fixed =
    then (each (with_word gives p Drop) q.drop without) (λ ds.
    then (each (with_word gives p Keep) l.keep fixed) (λ ks. comes_to (Ok (record { without = ds; fixed = ks }))))
