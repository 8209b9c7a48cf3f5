-- Lists of directives. A line is `LINE PATH`, as the answers print a directive, or `PATH:LINE:` with anything behind it, as `grep -n` and
-- compilers print a line. A text that begins as a certificate does lists the directives of its cut.
use Rattle.std.specs.Prelude.{ℕ, zero, suc, ◌+◌, ◌==◌, List, [], ◌∷◌, ◌++◌, Option, Some, None, Result, Ok, Err, codes}
use Rattle.std.specs.List.{slice_split}
use Rattle.inc_text.specs.Ascii.{line_feed}
use Rattle.inc_graph.specs.Marks.{Mark}
use Rattle.inc_check.specs.Reading.{listed_mark, number_behind}
use Rattle.inc_check.specs.Texts.{whole_lines}

---- lines

-- marks before those of what follows
abbrev pub with_marks : List Mark → Result (List Mark) ℕ → Result (List Mark) ℕ
with_marks ms (Ok more) = Ok (ms ++ more)
with_marks ms (Err line) = Err line

-- the mark of a line and those of what follows; a line that holds none is named by its number
abbrev pub line_marks : (line : ℕ) → Option Mark → Result (List Mark) ℕ → Result (List Mark) ℕ
line_marks line None more = Err line
line_marks line (Some m) more = with_marks (m ∷ []) more

-- the marks of lines from this number on
abbrev pub marks_from : (line : ℕ) → List (List ℕ) → Result (List Mark) ℕ
marks_from line [] = Ok []
marks_from line (l ∷ ls) = line_marks line (listed_mark l) (marks_from (line + 1) ls)

-- those of so many of the lines; where there are fewer, the line after the last is named
abbrev pub first_marks : (count line : ℕ) → List (List ℕ) → Result (List Mark) ℕ
first_marks zero line ls = Ok []
first_marks (suc n) line [] = Err line
first_marks (suc n) line (l ∷ ls) = line_marks line (listed_mark l) (first_marks n (line + 1) ls)

-- those of a cut of so many after the first line, or else those of all lines
abbrev pub cut_or_all : Option ℕ → (first : List ℕ) → (rest : List (List ℕ)) → Result (List Mark) ℕ
cut_or_all (Some n) l ls = first_marks n 2 ls
cut_or_all None l ls = marks_from 1 (l ∷ ls)

abbrev pub marks_in : List (List ℕ) → Result (List Mark) ℕ
marks_in [] = Ok []
marks_in (l ∷ ls) = cut_or_all (number_behind (codes "cut ") l) l ls

-- the number of the line of the first of them
abbrev pub first_of : Option ℕ → ℕ
first_of (Some n) = 2
first_of None = 1

abbrev pub first_line : List (List ℕ) → ℕ
first_line [] = 1
first_line (l ∷ ls) = first_of (number_behind (codes "cut ") l)

---- a text

-- the lines that are ended
abbrev pub but_last : List (List ℕ) → List (List ℕ)
but_last [] = []
but_last (l ∷ []) = []
but_last (l ∷ next ∷ ls) = l ∷ but_last (next ∷ ls)

-- the lines of a text, each of which is ended
abbrev pub lines_of : List ℕ → List (List ℕ)
lines_of text = but_last (slice_split (λ b. b == line_feed) text)

-- marks that were read of a list, and the line of the first
pub record MarkList : Type 0 where
  pub marks : List Mark
  pub first : ℕ

-- a list that is not there
abbrev pub no_marks : MarkList
no_marks = record { marks = []; first = 1 }

-- the marks of a list, in order, or the number of its first line that holds none
abbrev pub listed_marks : List ℕ → Result (List Mark) ℕ
listed_marks text = marks_in (lines_of (whole_lines text))

abbrev pub first_listed : List ℕ → ℕ
first_listed text = first_line (lines_of (whole_lines text))
