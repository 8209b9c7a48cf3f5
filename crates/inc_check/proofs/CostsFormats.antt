-- The texts of costs.
use Rattle.std.proofs.Common.{◌≡◌, ℕ, ◌+◌, ◌<◌, length, take, drop, subst, true, List, [], ◌∷◌, ◌++◌, Some, None, refl, sym, ap, ◌∙◌}
use Rattle.std.specs.Prelude.{◌==◌, position}
use Rattle.std.specs.List.{list_all}
use Rattle.std.proofs.lemmas.Bool.{and_parts, and_from}
use Rattle.std.proofs.lemmas.List.{append-nil, map-append, length-map}
use Rattle.inc_graph.specs.Marks.{Cost}
use Rattle.inc_check.specs.Texts.{cost_line, cost_lines, is_small_cost, lines_text, CostsFormat, IsCostsText, IsMalformed, AreClean}
use Rattle.inc_check.specs.Reading.{cost_in}
use Rattle.inc_check.proofs.Formats.{IsShape, Goes, malformed_line, malformed_end}
use Rattle.inc_check.proofs.WordLemmas.{cost_in-line, cost_in-Some, clean_cost}
use Rattle.inc_check.proofs.LineLemmas.{first_line, no_line, read_more}

abbrev pub AreSmall : List Cost → Type 0
AreSmall ms = list_all is_small_cost ms ≡ true

pub clean_costs : (ms : List Cost) → AreSmall ms → AreClean (cost_lines ms)
clean_costs [] v = tt
clean_costs (m ∷ ms) v =
    let parts = and_parts (is_small_cost m) (list_all is_small_cost ms) v in (clean_cost m parts.0, clean_costs ms parts.1)

pub small_push : (ms : List Cost) (m : Cost) → AreSmall ms → is_small_cost m ≡ true → AreSmall (ms ++ m ∷ [])
small_push [] m v h = rw h refl
small_push (k ∷ ms) m v h =
    let parts = and_parts (is_small_cost k) (list_all is_small_cost ms) v in
    and_from (is_small_cost k) (list_all is_small_cost (ms ++ m ∷ [])) parts.0 (small_push ms m parts.1 h)

pub costs_shape : IsShape cost_lines AreSmall CostsFormat
costs_shape = record {
  to = λ text f. (f.0, f.1.same, f.1.small);
  from = λ ms v. let is : IsCostsText _ ms = record { same = refl; small = v } in (ms, is);
  clean = clean_costs;
}

pub costs_go : (ms : List Cost) → AreSmall ms → Goes cost_lines AreSmall (cost_lines ms)
costs_go ms v = (ms, [], v, sym (append-nil (cost_lines ms)))

-- a line of such a text holds a cost
pub line_holds : (as' : List Cost) (before after : List (List ℕ)) (l : List ℕ) → AreSmall as' → cost_lines as' ≡ before ++ l ∷ after → cost_in l ≡ None → ⊥
line_holds [] [] after l v e none = cc
line_holds [] (k ∷ before) after l v e none = cc
line_holds (a ∷ as') [] after l v e none =
    let parts = and_parts (is_small_cost a) (list_all is_small_cost as') v in
    let same : cost_line a ≡ l = cc in
    let some = cost_in-line a parts.0 in
    let none' : cost_in (cost_line a) ≡ None = ap cost_in same ∙ none in cc
line_holds (a ∷ as') (k ∷ before) after l v e none =
    let parts = and_parts (is_small_cost a) (list_all is_small_cost as') v in
    let rest : cost_lines as' ≡ before ++ l ∷ after = cc in line_holds as' before after l parts.1 rest none

---- where an input breaks off

-- at a line that holds no cost
pub bad_cost : (text : List ℕ) (ms : List Cost) (rest : List ℕ) (n line : ℕ) → AreSmall ms → text ≡ lines_text (cost_lines ms) ++ rest → position (λ b. b == 10) rest ≡ Some n → cost_in (take n rest) ≡ None → line ≡ 1 + length ms → IsMalformed CostsFormat text line
bad_cost text ms rest n line v read at none is =
    let cut = first_line rest n at in
    let size = length-map ms cost_line in
    subst (IsMalformed CostsFormat text) (ap (λ k. 1 + k) size ∙ sym is)
    (malformed_line cost_lines AreSmall CostsFormat costs_shape (cost_lines ms) (take n rest) (drop (n + 1) rest) text (clean_costs ms v) cut.1
    (read ∙ ap (λ t. lines_text (cost_lines ms) ++ t) cut.0) (costs_go ms v) (λ a after w e. line_holds a (cost_lines ms) after (take n rest) w e none))

-- at a last line that is not ended
pub open_cost : (text : List ℕ) (ms : List Cost) (rest : List ℕ) (line : ℕ) → AreSmall ms → text ≡ lines_text (cost_lines ms) ++ rest → position (λ b. b == 10) rest ≡ None → (rest ≡ [] → ⊥) → line ≡ 1 + length ms → IsMalformed CostsFormat text line
open_cost text ms rest line v read none some is =
    let size = length-map ms cost_line in
    subst (IsMalformed CostsFormat text) (ap (λ k. 1 + k) size ∙ sym is)
    (malformed_end cost_lines AreSmall CostsFormat costs_shape (cost_lines ms) rest text (clean_costs ms v) (no_line rest none) read (costs_go ms v) (λ empty a w e. some empty))

-- one cost more
pub read_cost : (text : List ℕ) (ms : List Cost) (rest : List ℕ) (n : ℕ) (m : Cost) → AreSmall ms → text ≡ lines_text (cost_lines ms) ++ rest → position (λ b. b == 10) rest ≡ Some n → cost_in (take n rest) ≡ Some m → (text ≡ lines_text (cost_lines (ms ++ m ∷ [])) ++ drop (n + 1) rest) × AreSmall (ms ++ m ∷ []) × (n < length rest)
read_cost text ms rest n m v read at some =
    let cut = first_line rest n at in
    let is = cost_in-Some (take n rest) m some in (
      read_more text (cost_lines ms) rest n read cut.0 ∙ ap (λ ls. lines_text ls ++ drop (n + 1) rest) (ap (λ l. cost_lines ms ++ l ∷ []) (sym is.0) ∙ sym (map-append cost_line ms (m ∷ []))),
      small_push ms m v is.1,
      cut.2,
    )
