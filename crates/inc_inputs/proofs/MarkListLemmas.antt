-- The marks of a list of directives, a line at a time.
use Rattle.std.proofs.Common.{◌≡◌, ℕ, zero, suc, ◌+◌, ◌-◌, ◌<◌, ◌≤◌, Bool, List, [], ◌∷◌, ◌++◌, Option, Some, None, Result, Ok, Err, length, take, drop, refl, sym, ap, ◌∙◌, arith}
use Rattle.std.specs.Prelude.{◌==◌, codes, position}
use Rattle.std.specs.List.{slice_split}
use Rattle.std.proofs.lemmas.List.{append_assoc, append-nil, take_rest, drop-drop, length-drop}
use Rattle.inc_graph.specs.Marks.{Mark}
use Rattle.inc_check.specs.Reading.{listed_mark, number_behind}
use Rattle.inc_inputs.specs.MarkLists.{but_last, cut_or_all, first_line, first_marks, first_of, line_marks, lines_of, marks_from, marks_in, with_marks}
use Rattle.inc_inputs.proofs.ListLemmas.{split_at, split_none, pieces_left}

abbrev pub ends : ℕ → Bool
ends b = b == 10

---- lines

pub lines_more : (l : List ℕ) (ls : List (List ℕ)) → 0 < length ls → but_last (l ∷ ls) ≡ l ∷ but_last ls
lines_more l [] some = absurd (omega (arith, some))
lines_more l (next ∷ ls) some = refl

-- the line up to the first LF
pub line_at : (text : List ℕ) (n : ℕ) → position ends text ≡ Some n → (lines_of text ≡ take n text ∷ lines_of (drop (n + 1) text)) × (n < length text)
line_at text n found =
    let split = split_at ends text n found in (
      ap but_last split.0 ∙ lines_more (take n text) (slice_split ends (drop (n + 1) text)) (pieces_left ends (drop (n + 1) text)),
      split.1,
    )

-- no line is left
pub line_none : (text : List ℕ) → position ends text ≡ None → lines_of text ≡ []
line_none text missing = ap but_last (split_none ends text missing)

---- one line more

with_both : (a b : List Mark) (r : Result (List Mark) ℕ) → with_marks a (with_marks b r) ≡ with_marks (a ++ b) r
with_both a b (Ok more) = ap (λ (ms : List Mark). Ok ms) (sym (append_assoc a b more))
with_both a b (Err line) = refl

-- where the marks of the lines from here on are those of the first and what `next` says of the others
module _ (line : ℕ) (here next : List (List ℕ) → Result (List Mark) ℕ) (step : (l : List ℕ) (ls : List (List ℕ)) → here (l ∷ ls) ≡ line_marks line (listed_mark l) (next ls))
    (all : Result (List Mark) ℕ) (done : List Mark) (at : ℕ) (text : List ℕ) (so_far : all ≡ with_marks done (here (lines_of (drop at text))))
    (n : ℕ) (found : Some n ≡ position ends (take (length text - at) (drop at text))) (o : Option Mark) (is : o ≡ listed_mark (take n (take (length text - at) (drop at text)))) where
  found_at : position ends (drop at text) ≡ Some n
  found_at = sym (rw take_rest at found)

  line_is : listed_mark (take n (drop at text)) ≡ o
  line_is = sym (rw take_rest at is)

  pub place_low : at + (n + 1) ≤ length text
  place_low =
      let left : n < length (drop at text) = (line_at (drop at text) n found_at).1 in
      let low : n < length text - at = rw length-drop at left in
      omega (arith, low)

  place_is : all ≡ with_marks done (line_marks line o (next (lines_of (drop (at + (n + 1)) text))))
  place_is =
      so_far ∙ ap (with_marks done)
      (ap here (line_at (drop at text) n found_at).0
      ∙ step (take n (drop at text)) (lines_of (drop (n + 1) (drop at text)))
      ∙ ap (λ (x : Option Mark). line_marks line x (next (lines_of (drop (n + 1) (drop at text))))) line_is
      ∙ ap (λ (t : List ℕ). line_marks line o (next (lines_of t))) (drop-drop (n + 1) at text))

  pub place_bad : o ≡ None → all ≡ Err line
  place_bad none = place_is ∙ ap (λ (x : Option Mark). with_marks done (line_marks line x (next (lines_of (drop (at + (n + 1)) text))))) none

  pub place_done : (m : Mark) (new : List Mark) → o ≡ Some m → new ≡ done ++ m ∷ [] → all ≡ with_marks new (next (lines_of (drop (at + (n + 1)) text)))
  place_done m new some now =
      place_is ∙ ap (λ (x : Option Mark). with_marks done (line_marks line x (next (lines_of (drop (at + (n + 1)) text))))) some
      ∙ with_both done (m ∷ []) (next (lines_of (drop (at + (n + 1)) text)))
      ∙ ap (λ (ms : List Mark). with_marks ms (next (lines_of (drop (at + (n + 1)) text)))) (sym now)

---- the end

module _ (all : Result (List Mark) ℕ) (done : List Mark) (line at : ℕ) (text : List ℕ) where
  no_line : None ≡ position ends (take (length text - at) (drop at text)) → lines_of (drop at text) ≡ []
  no_line missing = line_none (drop at text) (sym (rw take_rest at missing))

  -- of all lines
  pub all_done : all ≡ with_marks done (marks_from line (lines_of (drop at text))) → None ≡ position ends (take (length text - at) (drop at text)) → all ≡ Ok done
  all_done so_far missing =
      so_far ∙ ap (λ (ls : List (List ℕ)). with_marks done (marks_from line ls)) (no_line missing) ∙ ap (λ (ms : List Mark). Ok ms) (append-nil done)

  module _ (left : ℕ) (so_far : all ≡ with_marks done (first_marks left line (lines_of (drop at text)))) where
    none_left : (k : ℕ) → 0 < k → first_marks k line [] ≡ Err line
    none_left zero some = absurd (omega (arith, some))
    none_left (suc k) some = refl

    -- of so many lines there are fewer
    pub first_missing : 0 < left → None ≡ position ends (take (length text - at) (drop at text)) → all ≡ Err line
    first_missing some missing =
        so_far ∙ ap (λ (ls : List (List ℕ)). with_marks done (first_marks left line ls)) (no_line missing) ∙ ap (with_marks done) (none_left left some)

    -- and all are read
    pub first_done : left ≤ 0 → all ≡ Ok done
    first_done none =
        let zero_left : left ≡ 0 = omega (arith, none) in
        so_far ∙ ap (λ (k : ℕ). with_marks done (first_marks k line (lines_of (drop at text)))) zero_left ∙ ap (λ (ms : List Mark). Ok ms) (append-nil done)

-- one of so many lines
pub first_step : (left line : ℕ) → 0 < left → (l : List ℕ) (ls : List (List ℕ)) → first_marks left line (l ∷ ls) ≡ line_marks line (listed_mark l) (first_marks (left - 1) (line + 1) ls)
first_step zero line some l ls = absurd (omega (arith, some))
first_step (suc k) line some l ls =
    let one : suc k - 1 ≡ k = omega arith in ap (λ (j : ℕ). line_marks line (listed_mark l) (first_marks j (line + 1) ls)) (sym one)

---- a whole text

-- without a line
pub no_lines : (text : List ℕ) → None ≡ position ends text → marks_in (lines_of text) ≡ Ok []
no_lines text missing = ap marks_in (line_none text (sym missing))

module _ (text : List ℕ) (n : ℕ) (found : Some n ≡ position ends text) where
  by_first : (o : Option ℕ) → o ≡ number_behind (codes "cut ") (take n text) → marks_in (lines_of text) ≡ cut_or_all o (take n text) (lines_of (drop (n + 1) text))
  by_first o is =
      ap marks_in (line_at text n (sym found)).0 ∙ ap (λ (x : Option ℕ). cut_or_all x (take n text) (lines_of (drop (n + 1) text))) (sym is)

-- its first line says how many follow
pub counted_lines : (text : List ℕ) (n count : ℕ) → Some n ≡ position ends text → Some count ≡ number_behind (codes "cut ") (take n text)
    → marks_in (lines_of text) ≡ first_marks count 2 (lines_of (take (length text - (n + 1)) (drop (n + 1) text)))
counted_lines text n count found is = rw take_rest (by_first text n found (Some count) is)

-- or it does not
pub other_lines : (text : List ℕ) (n : ℕ) → Some n ≡ position ends text → None ≡ number_behind (codes "cut ") (take n text)
    → marks_in (lines_of text) ≡ marks_from 1 (lines_of text)
other_lines text n found is = by_first text n found None is ∙ ap (marks_from 1) (sym (line_at text n (sym found)).0)

-- where the first one is
pub no_first : (text : List ℕ) → None ≡ position ends text → 1 ≡ first_line (lines_of text)
no_first text missing = ap first_line (sym (line_none text (sym missing)))

pub counted_first : (text : List ℕ) (n : ℕ) → Some n ≡ position ends text → (o : Option ℕ) → o ≡ number_behind (codes "cut ") (take n text)
    → first_of o ≡ first_line (lines_of text)
counted_first text n found o is = ap first_of is ∙ sym (ap first_line (line_at text n (sym found)).0)
