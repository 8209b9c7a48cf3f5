-- Marks that a certificate may hold, as its lines hold them.
use Rattle.std.proofs.Common.{◌≡◌, ℕ, ◌+◌, ◌≤◌, true, List, [], ◌∷◌, Option, Some, None, length, take, drop, refl, sym, ap, ◌∙◌, arith}
use Rattle.std.specs.Prelude.{Bool, nat_le, decimal, if◌then◌else◌}
use Rattle.std.specs.List.{list_all}
use Rattle.std.proofs.lemmas.Bool.{and_parts, and_from, le-leb, leb-true}
use Rattle.std.proofs.lemmas.List.{length-append}
use Rattle.inc_lookup.specs.declared.listings.TheConstants.{LONGEST_PATH}
use Rattle.inc_graph.specs.Marks.{Mark, is_mark}
use Rattle.inc_check.specs.declared.ahead.TheConstants.{LONGEST_LINE}
use Rattle.inc_check.specs.Texts.{greatest_number, mark_line, mark_lines, is_small_mark, is_short_mark, AreClean}
use Rattle.inc_check.specs.Reading.{front_digits, listed_mark, mark_at_place, mark_in, number_in, or_placed, place_from, plain_by, plain_line, short_mark, short_mark_in}
use Rattle.inc_check.proofs.Numerals.{length-numeral, number_in-Some}
use Rattle.inc_check.proofs.WordLemmas.{if_some, mark_in-line, mark_in-Some, with_mark_parts}
use Rattle.inc_check.proofs.MarksFormats.{AreSmall, clean_marks}

---- how long lines are

pub length-decimal : (n : ℕ) → n ≤ greatest_number → length (decimal n) ≤ 10
length-decimal n low = (length-numeral (decimal n) n low refl).1

mark_length : (m : Mark) → is_short_mark m ≡ true → length (mark_line m) ≤ 4107
mark_length m short =
    let parts = and_parts (is_small_mark m) (nat_le (length m.path) LONGEST_PATH) short in
    let line = and_parts (is_mark m) (nat_le m.line greatest_number) parts.0 in
    let digits = length-decimal m.line (leb-true m.line greatest_number line.1) in
    let path = leb-true (length m.path) LONGEST_PATH parts.1 in
    let all = length-append (decimal m.line) (32 ∷ m.path) in
    omega arith

---- marks of lines

-- such a mark is read from the line that is printed of it
pub short_mark_in-line : (m : Mark) → is_short_mark m ≡ true → short_mark_in (mark_line m) ≡ Some m
short_mark_in-line m short =
    let parts = and_parts (is_small_mark m) (nat_le (length m.path) LONGEST_PATH) short in
    let few = mark_length m short in
    let low : length (mark_line m) ≤ LONGEST_LINE = omega arith in
    ap (λ (t : Bool). if t then short_mark (listed_mark (mark_line m)) else None) (le-leb (length (mark_line m)) LONGEST_LINE low)
    ∙ ap (λ (o : Option Mark). short_mark (or_placed o (mark_line m))) (mark_in-line m parts.0)
    ∙ (rw parts.1 refl)

listed_small : (line : List ℕ) (m : Mark) → listed_mark line ≡ Some m → is_small_mark m ≡ true
listed_small line m e = when (mark_in line) refl e
  where
    placed : (o : Option ℕ) → mark_at_place line o ≡ Some m → is_small_mark m ≡ true
    placed None f = cc
    placed (Some n) f =
        let parts = with_mark_parts (number_in (front_digits (drop (n + 1) line))) (take n line) m f in
        let low = (number_in-Some (front_digits (drop (n + 1) line)) m.line parts.0).1 in
        and_from (is_mark m) (nat_le m.line greatest_number) parts.2 (le-leb m.line greatest_number low)

    when : (o : Option Mark) → mark_in line ≡ o → or_placed o line ≡ Some m → is_small_mark m ≡ true
    when None is f = placed (place_from 0 line) f
    when (Some k) is f = (mark_in-Some line m (is ∙ f)).1

-- what is read as such a mark is its line, once that is as it is printed
pub short_mark_in-Some : (line : List ℕ) (m : Mark) → short_mark_in line ≡ Some m
    → (mark_line m ≡ plain_line line) × (is_short_mark m ≡ true)
short_mark_in-Some line m e =
    let both = if_some (nat_le (length line) LONGEST_LINE) (short_mark (listed_mark line)) m e in
    (sym (ap (λ (o : Option Mark). plain_by o line) e), when (listed_mark line) refl both.1)
  where
    when : (o : Option Mark) → listed_mark line ≡ o → short_mark o ≡ Some m → is_short_mark m ≡ true
    when None is f = cc
    when (Some k) is f =
        let both = if_some (nat_le (length k.path) LONGEST_PATH) (Some k) m f in
        let same : k ≡ m = cc in
        let low : nat_le (length m.path) LONGEST_PATH ≡ true =
        ap (λ (n : Mark). nat_le (length n.path) LONGEST_PATH) (sym same) ∙ both.0 in
        and_from (is_small_mark m) (nat_le (length m.path) LONGEST_PATH) (listed_small line m (is ∙ both.1)) low

-- and is what a list of directives has it for
pub short_is_listed : (line : List ℕ) (m : Mark) → short_mark_in line ≡ Some m → listed_mark line ≡ Some m
short_is_listed line m e = when (listed_mark line) refl (if_some (nat_le (length line) LONGEST_LINE) (short_mark (listed_mark line)) m e).1
  where
    when : (o : Option Mark) → listed_mark line ≡ o → short_mark o ≡ Some m → listed_mark line ≡ Some m
    when None is f = cc
    when (Some k) is f = is ∙ (if_some (nat_le (length k.path) LONGEST_PATH) (Some k) m f).1

-- no such line is longer than one that is read whole
pub short_mark_in-length : (line : List ℕ) (m : Mark) → short_mark_in line ≡ Some m → length line ≤ LONGEST_LINE
short_mark_in-length line m e =
    let both = if_some (nat_le (length line) LONGEST_LINE) (short_mark (listed_mark line)) m e in
    leb-true (length line) LONGEST_LINE both.0

---- lists of them

abbrev pub AreShort : List Mark → Type 0
AreShort ms = list_all is_short_mark ms ≡ true

pub short_small : (ms : List Mark) → AreShort ms → AreSmall ms
short_small [] v = refl
short_small (m ∷ ms) v =
    let parts = and_parts (is_short_mark m) (list_all is_short_mark ms) v in
    let here = and_parts (is_small_mark m) (nat_le (length m.path) LONGEST_PATH) parts.0 in
    and_from (is_small_mark m) (list_all is_small_mark ms) here.0 (short_small ms parts.1)

pub clean_short : (ms : List Mark) → AreShort ms → AreClean (mark_lines ms)
clean_short ms v = clean_marks ms (short_small ms v)
