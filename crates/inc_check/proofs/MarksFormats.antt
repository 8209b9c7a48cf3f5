-- The texts of marks.
use Rattle.std.proofs.Common.{◌≡◌, ℕ, ◌+◌, ◌<◌, length, take, drop, subst, Bool, true, List, [], ◌∷◌, ◌++◌, Some, None, refl, sym, ap, ◌∙◌}
use Rattle.std.specs.Prelude.{◌==◌, position}
use Rattle.std.specs.List.{list_all}
use Rattle.std.proofs.lemmas.Bool.{and_parts, and_from}
use Rattle.std.proofs.lemmas.List.{append-nil, map-append, length-map}
use Rattle.inc_graph.specs.Marks.{Mark}
use Rattle.inc_check.specs.Texts.{mark_line, mark_lines, is_small_mark, lines_text, MarksFormat, IsMarksText, IsMalformed, AreClean}
use Rattle.inc_check.specs.Reading.{mark_in}
use Rattle.inc_check.proofs.Formats.{IsShape, Goes, malformed_line, malformed_end}
use Rattle.inc_check.proofs.WordLemmas.{mark_in-line, mark_in-Some, clean_mark}
use Rattle.inc_check.proofs.LineLemmas.{first_line, no_line, read_more}

abbrev pub AreSmall : List Mark → Type 0
AreSmall ms = list_all is_small_mark ms ≡ true

pub clean_marks : (ms : List Mark) → AreSmall ms → AreClean (mark_lines ms)
clean_marks [] v = tt
clean_marks (m ∷ ms) v =
    let parts = and_parts (is_small_mark m) (list_all is_small_mark ms) v in (clean_mark m parts.0, clean_marks ms parts.1)

pub all_push : {X : Type 0} (p : X → Bool) (xs : List X) (x : X) → list_all p xs ≡ true → p x ≡ true
    → list_all p (xs ++ x ∷ []) ≡ true
all_push p [] x v h = rw h refl
all_push p (y ∷ ys) x v h =
    let parts = and_parts (p y) (list_all p ys) v in
    and_from (p y) (list_all p (ys ++ x ∷ [])) parts.0 (all_push p ys x parts.1 h)

pub marks_shape : IsShape mark_lines AreSmall MarksFormat
marks_shape = record {
  to = λ text f. (f.0, f.1.same, f.1.small);
  from = λ ms v. let is : IsMarksText _ ms = record { same = refl; small = v } in (ms, is);
  clean = clean_marks;
}

pub marks_go : (ms : List Mark) → AreSmall ms → Goes mark_lines AreSmall (mark_lines ms)
marks_go ms v = (ms, [], v, sym (append-nil (mark_lines ms)))

-- a line of such a text holds a mark
pub line_holds : (as' : List Mark) (before after : List (List ℕ)) (l : List ℕ) → AreSmall as' → mark_lines as' ≡ before ++ l ∷ after → mark_in l ≡ None → ⊥
line_holds [] [] after l v e none = cc
line_holds [] (k ∷ before) after l v e none = cc
line_holds (a ∷ as') [] after l v e none =
    let parts = and_parts (is_small_mark a) (list_all is_small_mark as') v in
    let same : mark_line a ≡ l = cc in
    let some = mark_in-line a parts.0 in
    let none' : mark_in (mark_line a) ≡ None = ap mark_in same ∙ none in cc
line_holds (a ∷ as') (k ∷ before) after l v e none =
    let parts = and_parts (is_small_mark a) (list_all is_small_mark as') v in
    let rest : mark_lines as' ≡ before ++ l ∷ after = cc in line_holds as' before after l parts.1 rest none

---- where an input breaks off

-- at a line that holds no mark
pub bad_mark : (text : List ℕ) (ms : List Mark) (rest : List ℕ) (n line : ℕ) → AreSmall ms → text ≡ lines_text (mark_lines ms) ++ rest → position (λ b. b == 10) rest ≡ Some n → mark_in (take n rest) ≡ None → line ≡ 1 + length ms → IsMalformed MarksFormat text line
bad_mark text ms rest n line v read at none is =
    let cut = first_line rest n at in
    let size = length-map ms mark_line in
    subst (IsMalformed MarksFormat text) (ap (λ k. 1 + k) size ∙ sym is)
    (malformed_line mark_lines AreSmall MarksFormat marks_shape (mark_lines ms) (take n rest) (drop (n + 1) rest) text (clean_marks ms v) cut.1
    (read ∙ ap (λ t. lines_text (mark_lines ms) ++ t) cut.0) (marks_go ms v) (λ a after w e. line_holds a (mark_lines ms) after (take n rest) w e none))

-- at a last line that is not ended
pub open_mark : (text : List ℕ) (ms : List Mark) (rest : List ℕ) (line : ℕ) → AreSmall ms → text ≡ lines_text (mark_lines ms) ++ rest → position (λ b. b == 10) rest ≡ None → (rest ≡ [] → ⊥) → line ≡ 1 + length ms → IsMalformed MarksFormat text line
open_mark text ms rest line v read none some is =
    let size = length-map ms mark_line in
    subst (IsMalformed MarksFormat text) (ap (λ k. 1 + k) size ∙ sym is)
    (malformed_end mark_lines AreSmall MarksFormat marks_shape (mark_lines ms) rest text (clean_marks ms v) (no_line rest none) read (marks_go ms v) (λ empty a w e. some empty))

-- one mark more
pub read_mark : (text : List ℕ) (ms : List Mark) (rest : List ℕ) (n : ℕ) (m : Mark) → AreSmall ms → text ≡ lines_text (mark_lines ms) ++ rest → position (λ b. b == 10) rest ≡ Some n → mark_in (take n rest) ≡ Some m → (text ≡ lines_text (mark_lines (ms ++ m ∷ [])) ++ drop (n + 1) rest) × AreSmall (ms ++ m ∷ []) × (n < length rest)
read_mark text ms rest n m v read at some =
    let cut = first_line rest n at in
    let is = mark_in-Some (take n rest) m some in (
      read_more text (mark_lines ms) rest n read cut.0 ∙ ap (λ ls. lines_text ls ++ drop (n + 1) rest) (ap (λ l. mark_lines ms ++ l ∷ []) (sym is.0) ∙ sym (map-append mark_line ms (m ∷ []))),
      all_push is_small_mark ms m v is.1,
      cut.2,
    )
