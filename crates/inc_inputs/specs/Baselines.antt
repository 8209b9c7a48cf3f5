-- Baselines: directives that may still break rules, by their files and names, so that other lines of the files may change. A line is `PATH:NAME`,
-- with NAME as it stands behind #include; one that is empty or begins with # has none.
use Rattle.std.specs.Prelude.{◌≡◌, ℕ, ◌+◌, ◌-◌, ◌==◌, Bool, true, false, List, [], ◌∷◌, ◌++◌, Option, Some, None, Result, Ok, Err, codes, decimal, drop, length, nat_lt, take, unwrap_or}
use Rattle.inc_text.specs.Ascii.{hash}
use Rattle.inc_check.specs.Texts.{whole_lines}
use Rattle.inc_graph.specs.Marks.{Mark}
use Rattle.inc_lookup.specs.Projects.{found_as, path_at}
use Rattle.inc_inputs.specs.BuildNotes.{Kept, none, whole, with_line}
use Rattle.inc_inputs.specs.BuildReports.{counted}
use Rattle.inc_inputs.specs.Inputs.{Gives}
use Rattle.inc_inputs.specs.MarkLists.{lines_of}
use Rattle.inc_inputs.specs.NamedPlaces.{Listed, with_path}
use Rattle.inc_inputs.specs.PlaceWords.{name_colon}
use Rattle.inc_inputs.specs.Reports.{IsReportBy, Report, baseline_report, note_line, shown}
use Rattle.inc_inputs.specs.Steps.{Step, comes_to, each, judged, reads, then}

---- a list

-- a directive by its file and its name, and the number of the line that has it
pub record NamedLine : Type 0 where
  pub line : ℕ
  pub path : List ℕ
  pub name : List ℕ

-- those of lines, or the number of the first that is malformed
abbrev pub NamedLines : Type 0
NamedLines = Result (List NamedLine) ℕ

-- some before those of what follows
abbrev pub with_more : List NamedLine → NamedLines → NamedLines
with_more ls (Ok more) = Ok (ls ++ more)
with_more ls (Err line) = Err line

-- the line has no directive
abbrev pub is_passed : (text : List ℕ) → Bool
is_passed [] = true
is_passed (b ∷ bs) = b == hash

abbrev pub named_line : (line : ℕ) → (text : List ℕ) → (colon : ℕ) → NamedLine
named_line line text n = record { line = line; path = take n text; name = drop (n + 1) text }

-- that of a line whose name is behind this colon, and those of what follows
abbrev pub with_named : (line : ℕ) → (text : List ℕ) → (colon : Option ℕ) → NamedLines → NamedLines
with_named line text None more = Err line
with_named line text (Some n) more = with_more (named_line line text n ∷ []) more

-- the same of any line
abbrev pub with_text : (line : ℕ) → (text : List ℕ) → NamedLines → NamedLines
with_text line text more = elim (is_passed text) [ true ↦ more | false ↦ with_named line text (name_colon text) more ]

-- those of lines from this number on
abbrev pub named_from : (line : ℕ) → List (List ℕ) → NamedLines
named_from line [] = Ok []
named_from line (l ∷ ls) = with_text line l (named_from (line + 1) ls)

-- those of a text
abbrev pub named_in : (text : List ℕ) → NamedLines
named_in text = named_from 1 (lines_of (whole_lines text))

-- those of the text of a baseline of this name, or where it is malformed
abbrev pub AreNamed : (name text : List ℕ) → Result (List NamedLine) Report → Type 0
AreNamed name text (Ok lines) = named_in text ≡ Ok lines
AreNamed name text (Err r) = IsReportBy baseline_report (λ line. named_in text ≡ Err line) name r

-- none where no baseline is named
abbrev pub named_of : {S : Type 0} → Gives S → Option (List ℕ) → Step S (List NamedLine)
named_of gives None = comes_to (Ok [])
named_of gives (Some name) = then (reads gives name) (λ text. judged (AreNamed name text))

-- the lines of a baseline of this name
pub record Baseline : Type 0 where
  pub name : Option (List ℕ)
  pub lines : List NamedLine

abbrev pub no_baseline : Baseline
no_baseline = record { name = None; lines = [] }

---- a project

-- directives that are taken as removed, and what is noted of lines that name none
pub record Accepting : Type 0 where
  pub marks : List Mark
  pub notes : Kept

-- that a line of the baseline of this name names no directive
abbrev pub unused_line : (name : List ℕ) → NamedLine → List ℕ
unused_line name l =
    shown name ++ codes ":" ++ decimal l.line ++ codes ": " ++ shown l.path ++ codes ":" ++ shown l.name ++ codes " names no include directive"

-- directives with those of a line; where they are no more than before, it is noted
abbrev pub accepting_by : (name : List ℕ) → NamedLine → (before : ℕ) → Kept → (all : List Mark) → Accepting
accepting_by name l before notes all =
    record { marks = all; notes = elim (length all == before) [ true ↦ with_line notes (unused_line name l) | false ↦ notes ] }

-- those of a line, which names them in the file that its path finds
abbrev pub with_found : {S : Type 0} → Gives S → Listed → (name : List ℕ) → (file : Option ℕ) → List Mark → Step S (List Mark)
with_found gives p name None ms = comes_to (Ok ms)
with_found gives p name (Some file) ms = with_path gives p (Some name) (path_at p.layout file) ms

abbrev pub with_accepted : {S : Type 0} → Gives S → Listed → (name : List ℕ) → NamedLine → Accepting → Step S Accepting
with_accepted gives p name l a =
    then (with_found gives p l.name (found_as p.layout.paths l.path) a.marks) (λ all. comes_to (Ok (accepting_by name l (length a.marks) a.notes all)))

-- directives that are taken as removed, and what is noted
pub record Accepted : Type 0 where
  pub without : List Mark
  pub notes : List ℕ

-- how many directives a baseline of this name has
abbrev pub removed_line : (name : List ℕ) → (count : ℕ) → List ℕ
removed_line name n = shown name ++ codes ": " ++ counted n (codes " directive is taken as removed") (codes " directives are taken as removed")

abbrev pub removed_notes : (name : List ℕ) → (count : ℕ) → List ℕ
removed_notes name n = elim (nat_lt 0 n) [ true ↦ note_line (removed_line name n) | false ↦ [] ]

-- directives with those of a baseline of this name, where there were so many before, and its notes behind others
abbrev pub accepted_by : (name : List ℕ) → (before : ℕ) → (notes : List ℕ) → Accepting → Accepted
accepted_by name before notes a =
    record { without = a.marks; notes = (notes ++ removed_notes name (length a.marks - before)) ++ whole a.notes }

-- how a baseline is called
abbrev pub baseline_title : Baseline → List ℕ
baseline_title b = unwrap_or b.name []

abbrev pub accepted : {S : Type 0} → Gives S → Listed → Baseline → (without : List Mark) → (notes : List ℕ) → Step S Accepted
accepted gives p b without notes =
    then (each (with_accepted gives p (baseline_title b)) b.lines (record { marks = without; notes = none }))
    (λ a. comes_to (Ok (accepted_by (baseline_title b) (length without) notes a)))
