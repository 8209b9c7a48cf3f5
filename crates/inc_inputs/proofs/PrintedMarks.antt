-- The texts of marks and of certificates, as lists of directives.
use Rattle.std.proofs.Common.{◌≡◌, ℕ, ◌+◌, ◌<◌, ◌≤◌, Bool, true, false, List, [], ◌∷◌, ◌++◌, Option, Some, None, Ok, length, map, get_or, inl, inr, refl, sym, ap, ◌∙◌, arith}
use Rattle.std.specs.Prelude.{◌==◌, codes, decimal, if◌then◌else◌}
use Rattle.std.specs.List.{All, list_all, slice_split}
use Rattle.std.proofs.lemmas.Bool.{and_parts, cases_Bool, leb-true}
use Rattle.std.proofs.lemmas.List.{append_assoc}
use Rattle.std.proofs.lemmas.List.Elements.{All-cons, All-nil}
use Rattle.std.proofs.lemmas.List.Splits.{slice_split_at}
use Rattle.std.proofs.lemmas.Str.Parse.{digit_at}
use Rattle.inc_graph.specs.Marks.{Mark, is_mark}
use Rattle.inc_check.specs.Reading.{listed_mark, number_behind, or_placed, plain_line}
use Rattle.inc_check.specs.CertificateText.{IsCertificateText}
use Rattle.inc_check.specs.Texts.{AreClean, chains_lines, count_line, cut_lines, greatest_number, is_short_mark, is_small_mark, line_feeds, lines_text, mark_line, mark_lines, whole_lines, IsMarksText}
use Rattle.inc_check.specs.declared.certificates.Certificate.{Certificate}
use Rattle.inc_check.proofs.CertificateFormats.{small_list}
use Rattle.inc_check.proofs.Formats.{feeds_cons}
use Rattle.inc_check.proofs.MarksFormats.{AreSmall, clean_marks}
use Rattle.inc_check.proofs.PlainLines.{cut_head, head_is_plain, plain_mark}
use Rattle.inc_check.proofs.ShortMarks.{AreShort, short_is_listed}
use Rattle.inc_check.proofs.Numerals.{all_digits, length-numeral}
use Rattle.inc_check.proofs.WordLemmas.{mark_in-line, number_behind-Some, number_behind-word}
use Rattle.inc_inputs.specs.MarkLists.{but_last, cut_or_all, first_marks, line_marks, lines_of, listed_marks, marks_from, marks_in, with_marks}
use Rattle.inc_inputs.proofs.ListLemmas.{pieces_left}
use Rattle.inc_inputs.proofs.MarkListLemmas.{ends, lines_more}

---- the lines of a text of lines

no_feed : (l : List ℕ) → line_feeds l ≡ 0 → All (λ b. ends b ≡ false) l
no_feed [] none = All-nil (λ b. ends b ≡ false)
no_feed (b ∷ bs) none = elim (cases_Bool (b == 10)) [
  | inl is ↦
      let count : line_feeds (b ∷ bs) ≡ 1 + line_feeds bs = feeds_cons b bs ∙ ap (λ (t : Bool). (if t then 1 else 0) + line_feeds bs) is in
      absurd (omega (arith, count, none))
  | inr is ↦
      let count : line_feeds (b ∷ bs) ≡ 0 + line_feeds bs = feeds_cons b bs ∙ ap (λ (t : Bool). (if t then 1 else 0) + line_feeds bs) is in
      All-cons (λ b. ends b ≡ false) b bs is (no_feed bs (omega (arith, count, none)))
]

lines_back : (ls : List (List ℕ)) → AreClean ls → lines_of (lines_text ls) ≡ ls
lines_back [] clean = refl
lines_back (l ∷ ls) clean =
    ap lines_of (append_assoc l (10 ∷ []) (lines_text ls))
    ∙ ap but_last (slice_split_at ends l 10 (lines_text ls) (no_feed l clean.0) refl)
    ∙ lines_more l (slice_split ends (lines_text ls)) (pieces_left ends (lines_text ls))
    ∙ ap (λ (ks : List (List ℕ)). l ∷ ks) (lines_back ls clean.1)

---- marks

mark_listed : (m : Mark) → is_small_mark m ≡ true → listed_mark (mark_line m) ≡ Some m
mark_listed m small = ap (λ (o : Option Mark). or_placed o (mark_line m)) (mark_in-line m small)

all_listed : (ms : List Mark) → AreSmall ms → (line : ℕ) → marks_from line (mark_lines ms) ≡ Ok ms
all_listed [] small line = refl
all_listed (m ∷ ms) small line =
    let parts = and_parts (is_small_mark m) (list_all is_small_mark ms) small in
    ap (λ (o : Option Mark). line_marks line o (marks_from (line + 1) (mark_lines ms))) (mark_listed m parts.0)
    ∙ ap (with_marks (m ∷ [])) (all_listed ms parts.1 (line + 1))

---- the first line of a text of marks

front_of : (xs ys : List ℕ) → 0 < length xs → get_or (xs ++ ys) 0 0 ≡ get_or xs 0 0
front_of [] ys some = absurd (omega (arith, some))
front_of (x ∷ xs) ys some = refl

none_when : (o : Option ℕ) → ((n : ℕ) → o ≡ Some n → ⊥) → o ≡ None
none_when None never = refl
none_when (Some n) never = absurd (never n refl)

-- it begins with a digit
no_cut : (m : Mark) → is_small_mark m ≡ true → number_behind (codes "cut ") (mark_line m) ≡ None
no_cut m small = none_when (number_behind (codes "cut ") (mark_line m)) (λ n is.
    let low : m.line ≤ greatest_number = leb-true m.line greatest_number (and_parts (is_mark m) _ small).1 in
    let some : 0 < length (decimal m.line) = (length-numeral (decimal m.line) m.line low refl).0 in
    let digit = digit_at (decimal m.line) 0 (all_digits (decimal m.line) m.line low refl) some in
    let same : codes "cut " ++ decimal n ≡ mark_line m = (number_behind-Some (codes "cut ") (mark_line m) n is).0 in
    let first : 99 ≡ get_or (decimal m.line) 0 0 = ap (λ (bs : List ℕ). get_or bs 0 0) same ∙ front_of (decimal m.line) (32 ∷ m.path) some in
    let high = digit.1 in
    absurd (omega (arith, first, high)))

all_in : (ms : List Mark) → AreSmall ms → marks_in (mark_lines ms) ≡ Ok ms
all_in [] small = refl
all_in (m ∷ ms) small =
    let parts = and_parts (is_small_mark m) (list_all is_small_mark ms) small in
    ap (λ (o : Option ℕ). cut_or_all o (mark_line m) (mark_lines ms)) (no_cut m parts.0) ∙ all_listed (m ∷ ms) small 1

pub marks_listed : (text : List ℕ) (ms : List Mark) → IsMarksText (whole_lines text) ms → listed_marks text ≡ Ok ms
marks_listed text ms is =
    ap (λ (t : List ℕ). marks_in (lines_of t)) (sym is.same) ∙ ap marks_in (lines_back (mark_lines ms) (clean_marks ms is.small)) ∙ all_in ms is.small

---- certificates

first_listed : (ms : List Mark) (ls more : List (List ℕ)) (line : ℕ) → AreShort ms → map plain_line ls ≡ mark_lines ms ++ more → first_marks (length ms) line ls ≡ Ok ms
first_listed [] ls more line short e = refl
first_listed (m ∷ ms) [] more line short e = cc
first_listed (m ∷ ms) (l ∷ ls) more line short e =
    let parts = and_parts (is_short_mark m) (list_all is_short_mark ms) short in
    let here : plain_line l ≡ mark_line m = cc in
    let rest : map plain_line ls ≡ mark_lines ms ++ more = cc in
    let listed : listed_mark l ≡ Some m = short_is_listed l m (plain_mark l m parts.0 here) in
    ap (λ (o : Option Mark). line_marks line o (first_marks (length ms) (line + 1) ls)) listed
    ∙ ap (with_marks (m ∷ [])) (first_listed ms ls more (line + 1) parts.1 rest)

cut_in : (ms : List Mark) (ls more : List (List ℕ)) → AreShort ms → length ms ≤ greatest_number → map plain_line ls ≡ cut_lines ms ++ more → marks_in ls ≡ Ok ms
cut_in ms [] more short few e = cc
cut_in ms (l ∷ ls) more short few e =
    let first : plain_line l ≡ count_line (codes "cut") (length ms) = cc in
    let rest : map plain_line ls ≡ mark_lines ms ++ more = cc in
    let same : l ≡ count_line (codes "cut") (length ms) = head_is_plain l (count_line (codes "cut") (length ms)) (cut_head (length ms) few) first in
    ap (λ (k : List ℕ). cut_or_all (number_behind (codes "cut ") k) l ls) same
    ∙ ap (λ (o : Option ℕ). cut_or_all o l ls) (number_behind-word (codes "cut ") (length ms) few)
    ∙ first_listed ms ls more 2 short rest

pub certificate_listed : (text : List ℕ) (c : Certificate) → IsCertificateText (whole_lines text) c → listed_marks text ≡ Ok c.cut
certificate_listed text c is =
    let cut = small_list c.cut is.cut in
    ap (λ (t : List ℕ). marks_in (lines_of t)) (sym is.whole) ∙ ap marks_in (lines_back is.lines is.clean)
    ∙ cut_in c.cut is.lines (chains_lines c.chains) cut.0 cut.1 is.same
