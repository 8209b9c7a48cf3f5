-- The text of a source in which a range of bytes is blanked.
use Rattle.std.proofs.Common.{◌≡◌, ◌≢◌, ℕ, zero, suc, ◌+◌, ◌-◌, ◌<◌, ◌≤◌, ◌==◌, ◌&&◌, ◌||◌, ◌⊎◌, inl, inr, Bool, true, false, cond, List, [], ◌∷◌, ◌++◌, length, map, take, drop, get_or, eqb, count_by, append_assoc, append-nil, refl, sym, ap, ◌∙◌, subst, arith}
use Rattle.std.specs.List.{list_any}
use Rattle.std.proofs.lemmas.Bool.{cond-true, cond-false, false_from_ne_true, and_left, and_right, eqb-true, ne_eqb}
use Rattle.std.proofs.lemmas.List.{length-append, length-map, length-drop, length-take-le, take-append-drop, append_cancel_left}
use Rattle.inc_text.specs.PhaseText.{Cell, added_new_line, bytes_of, cells_from, ended_by, phase_text, without_mark}
use Rattle.inc_text.proofs.PhaseLemmas.{lf, count_cons, count_append, has_mark, without_mark_is}
use Rattle.inc_token.specs.Blanking.{Range, blank_byte, blanked_from, is_in}
use Rattle.inc_token.specs.BlankingSteps.{with_blank}
use Rattle.inc_token.specs.TokenLaws.{last_of}
use Rattle.inc_token.proofs.BlankedBytes.{blank-lf, blanked_nowhere, in_range, is_in-true}
use Rattle.inc_token.proofs.BlankedWalks.{AreGone, last_cell, last_of-is}
use Rattle.inc_token.proofs.ClosedText.{AreClosed}
use Rattle.inc_token.proofs.HonestCells.{IsHonest, AreHonest, honest_from, honest_without_mark, honest_phases}
use Rattle.inc_token.proofs.PhaseSeams.{Row, Rise, Away, Parts, phases, is_gone, rise_lower, rise_phases, seam, gone_first, space_between}
use Rattle.inc_token.proofs.SamePieces.{on_line}
use Rattle.inc_text.specs.declared.languages.Language.{Language}

---- bytes

blanked_append : (i j : ℕ) (rs : List Range) (xs ys : List ℕ) → j ≡ i + length xs
    → blanked_from i rs (xs ++ ys) ≡ blanked_from i rs xs ++ blanked_from j rs ys
blanked_append i j rs [] ys is = let e : i ≡ j = omega (arith, is) in ap (λ k. blanked_from k rs ys) e
blanked_append i j rs (x ∷ xs) ys is = ap (λ zs. cond (list_any (is_in i) rs) (blank_byte x) x ∷ zs)
    (blanked_append (i + 1) j rs xs ys (omega (arith, is)))

blanked_before : (i : ℕ) (r : Range) (xs : List ℕ) → i + length xs ≤ r.first → blanked_from i (r ∷ []) xs ≡ xs
blanked_before i r [] le = refl
blanked_before i r (x ∷ xs) le =
    let off : is_in i r ≡ false = false_from_ne_true (is_in i r) (λ is. let p =
    in_range i r is in absurd (omega (arith, le, p.0))) in
    ap (λ t. cond (t || false) (blank_byte x) x ∷ blanked_from (i + 1) (r ∷ []) xs) off
    ∙ ap (λ zs. x ∷ zs) (blanked_before (i + 1) r xs (omega (arith, le)))

blanked_inside : (i : ℕ) (r : Range) (xs : List ℕ) → r.first ≤ i → i + length xs ≤ r.last
    → blanked_from i (r ∷ []) xs ≡ map blank_byte xs
blanked_inside i r [] low high = refl
blanked_inside i r (x ∷ xs) low high =
    ap (λ t. cond (t || false) (blank_byte x) x ∷ blanked_from (i + 1) (r ∷ []) xs)
    (is_in-true i r low (omega (arith, high)))
    ∙ ap (λ zs. blank_byte x ∷ zs) (blanked_inside (i + 1) r xs (omega (arith, low)) (omega (arith, high)))

blanked_parts : (first last : ℕ) (xs ys zs : List ℕ) → first ≡ length xs → last ≡ first + length ys
    → with_blank (record { first = first; last = last }) (xs ++ (ys ++ zs)) ≡ xs ++ (map blank_byte ys ++ zs)
blanked_parts first last xs ys zs begins ends =
    let r : Range = record { first = first; last = last } in
    blanked_append 0 first (r ∷ []) xs (ys ++ zs) (omega (arith, begins))
    ∙ ap (λ ws. ws ++ blanked_from first (r ∷ []) (ys ++ zs)) (blanked_before 0 r xs (omega (arith, begins)))
    ∙ ap (λ ws. xs ++ ws)
    (blanked_append first last (r ∷ []) ys zs ends
    ∙ ap (λ ws. ws ++ blanked_from last (r ∷ []) zs) (blanked_inside first r ys (omega arith) (omega (arith, ends)))
    ∙ ap (λ ws. map blank_byte ys ++ ws) (blanked_nowhere last first last zs (λ some later. omega (arith, later))))

count-blank : (bs : List ℕ) → count_by lf (map blank_byte bs) ≡ count_by lf bs
count-blank [] = refl
count-blank (b ∷ bs) =
    count_cons (blank_byte b) (map blank_byte bs)
    ∙ ap (λ t. cond t 1 0 + count_by lf (map blank_byte bs)) (blank-lf b)
    ∙ ap (λ n. cond (eqb b 10) 1 0 + n) (count-blank bs) ∙ sym (count_cons b bs)

-- the LF that is added stands behind as many bytes and LFs
end-blank : (xs ys zs : List ℕ) → added_new_line (xs ++ (map blank_byte ys ++ zs)) ≡ added_new_line (xs ++ (ys ++ zs))
end-blank xs ys zs =
    let make : ℕ → ℕ → Cell = λ n l. record { byte = 10; first = n; last = n; line = 1 + l } in
    let size : length (xs ++ (map blank_byte ys ++ zs)) ≡ length (xs ++ (ys ++ zs)) =
    length-append xs (map blank_byte ys ++ zs) ∙ ap (λ n. length xs + n) (length-append (map blank_byte ys) zs
    ∙ ap (λ n. n + length zs) (length-map ys blank_byte) ∙ sym (length-append ys zs))
    ∙ sym (length-append xs (ys ++ zs)) in
    let lines : count_by lf (xs ++ (map blank_byte ys ++ zs)) ≡ count_by lf (xs ++ (ys ++ zs)) =
    count_append xs (map blank_byte ys ++ zs) ∙ ap (λ n. count_by lf xs + n) (count_append (map blank_byte ys) zs
    ∙ ap (λ n. n + count_by lf zs) (count-blank ys) ∙ sym (count_append ys zs))
    ∙ sym (count_append xs (ys ++ zs)) in
    ap (λ n. make n (count_by lf (xs ++ (map blank_byte ys ++ zs)))) size
    ∙ ap (make (length (xs ++ (ys ++ zs)))) lines

---- cells

-- the physical line behind these bytes
abbrev pub line_after : ℕ → List ℕ → ℕ
line_after line [] = line
line_after line (b ∷ bs) = line_after (cond (eqb b 10) (line + 1) line) bs

cells_append : (at end line : ℕ) (xs ys : List ℕ) → end ≡ at + length xs
    → cells_from at line (xs ++ ys) ≡ cells_from at line xs ++ cells_from end (line_after line xs) ys
cells_append at end line [] ys is = let e : at ≡ end = omega (arith, is) in ap (λ n. cells_from n line ys) e
cells_append at end line (x ∷ xs) ys is =
    ap (λ cs. record { byte = x; first = at; last = at + 1; line = line } ∷ cs)
    (cells_append (at + 1) end (cond (eqb x 10) (line + 1) line) xs ys (omega (arith, is)))

row_cells : (at end line : ℕ) (bs : List ℕ) → end ≡ at + length bs → Row at (cells_from at line bs) end
row_cells at end line [] is = omega (arith, is)
row_cells at end line (b ∷ bs) is = (
  refl,
  omega arith,
  row_cells (at + 1) end (cond (eqb b 10) (line + 1) line) bs
      (omega (arith, is)),
)

lines-blank : (line : ℕ) (bs : List ℕ) → line_after line (map blank_byte bs) ≡ line_after line bs
lines-blank line [] = refl
lines-blank line (b ∷ bs) =
    ap (λ t. line_after (cond t (line + 1) line) (map blank_byte bs)) (blank-lf b)
    ∙ lines-blank (cond (eqb b 10) (line + 1) line) bs

gone-blank : (at line : ℕ) (bs : List ℕ) → AreGone (cells_from at line (map blank_byte bs))
gone-blank at line [] = tt
gone-blank at line (b ∷ bs) = (
  by (eqb b 10) refl,
  gone-blank (at + 1)
      (cond (eqb (blank_byte b) 10) (line + 1) line) bs,
) where
  by : (t : Bool) → eqb b 10 ≡ t → (cond t b 32 ≡ 32) ⊎ (cond t b 32 ≡ 10)
  by true is = inr (eqb-true b 10 is)
  by false is = inl refl

phases_gone : (language : Language) (gone rest : List Cell) → AreGone gone → phases language (gone ++ rest) ≡ gone ++ phases language rest
phases_gone language [] rest are = refl
phases_gone language (c ∷ cs) rest (inl blank, are) = gone_first c (ap is_gone blank) language (cs ++ rest)
    ∙ ap (λ xs. c ∷ xs) (phases_gone language cs rest are)
phases_gone language (c ∷ cs) rest (inr end, are) = gone_first c (ap is_gone end) language (cs ++ rest)
    ∙ ap (λ xs. c ∷ xs) (phases_gone language cs rest are)

---- order

abbrev Below : ℕ → List Cell → Type 0
Below p [] = Unit {0}
Below p (c ∷ cs) = (c.first < p) × Below p cs

abbrev From : ℕ → List Cell → Type 0
From p [] = Unit {0}
From p (c ∷ cs) = (p ≤ c.first) × From p cs

abbrev head_or : Cell → List Cell → Cell
head_or d [] = d
head_or d (c ∷ cs) = c

abbrev tail : List Cell → List Cell
tail [] = []
tail (c ∷ cs) = cs

-- there is one place between the cells that begin below p and the others
between : (p : ℕ) (us vs xs ys : List Cell) → us ++ vs ≡ xs ++ ys → Below p us → From p vs → Below p xs → From p ys
    → (us ≡ xs) × (vs ≡ ys)
between p [] vs [] ys is bu fv bx fy = (refl, is)
between p [] [] (x ∷ xs) ys is bu fv bx fy = cc
between p [] (v ∷ vs) (x ∷ xs) ys is bu fv bx fy =
    let same : v ≡ x = ap (head_or v) is in
    let e : v.first ≡ x.first = ap (λ (c : Cell). c.first) same in
    absurd (omega (arith, e, fv.0, bx.0))
between p (u ∷ us) vs [] [] is bu fv bx fy = cc
between p (u ∷ us) vs [] (y ∷ ys) is bu fv bx fy =
    let same : u ≡ y = ap (head_or u) is in
    let e : u.first ≡ y.first = ap (λ (c : Cell). c.first) same in
    absurd (omega (arith, e, bu.0, fy.0))
between p (u ∷ us) vs (x ∷ xs) ys is bu fv bx fy =
    let same : u ≡ x = ap (head_or u) is in
    let r = between p us vs xs ys (ap tail is) bu.1 fv bx.1 fy in
    (ap (λ c. c ∷ us) same ∙ ap (λ cs. x ∷ cs) r.0, r.1)

rise_le : (n m : ℕ) (cells : List Cell) → Rise n cells m → n ≤ m
rise_le n m [] h = h
rise_le n m (c ∷ cs) h = let r = rise_le c.last m cs h.2 in omega (arith, h.0, h.1, r)

rise_below : (n m : ℕ) (cells : List Cell) → Rise n cells m → Below m cells
rise_below n m [] h = tt
rise_below n m (c ∷ cs) h = let r = rise_le c.last m cs h.2 in (omega (arith, h.1, r), rise_below c.last m cs h.2)

rise_from : (p n m : ℕ) (cells : List Cell) → p ≤ n → Rise n cells m → From p cells
rise_from p n m [] le h = tt
rise_from p n m (c ∷ cs) le h = (omega (arith, le, h.0), rise_from p c.last m cs (omega (arith, le, h.0, h.1)) h.2)

rise_away : (p n m : ℕ) (cells : List Cell) → m < p → Rise n cells m → Away p cells
rise_away p n m [] lt h = tt
rise_away p n m (c ∷ cs) lt h = let r = rise_le c.last m cs h.2 in
    (omega (arith, lt, h.1, r), omega (arith, lt, r), rise_away p c.last m cs lt h.2)

rise_append : (n k m : ℕ) (xs ys : List Cell) → Rise n xs k → Rise k ys m → Rise n (xs ++ ys) m
rise_append n k m [] ys h r = rise_lower n k m ys h r
rise_append n k m (x ∷ xs) ys h r = (h.0, h.1, rise_append x.last k m xs ys h.2 r)

-- what is before a cell begins below it
rise_before : (n m : ℕ) (xs : List Cell) (y : Cell) (ys : List Cell) → Rise n (xs ++ (y ∷ ys)) m
    → (n ≤ y.first) × Below y.first xs × Rise y.first (y ∷ ys) m
rise_before n m [] y ys h = (h.0, tt, (omega arith, h.1, h.2))
rise_before n m (x ∷ xs) y ys h =
    let r = rise_before x.last m xs y ys h.2 in
    (omega (arith, h.0, h.1, r.0), (omega (arith, h.1, r.0), r.1), r.2)

-- some cells and what is behind them
rise_some : (n m : ℕ) (c : Cell) (cs rest : List Cell) → Rise n (c ∷ (cs ++ rest)) m
    → (c.first < last_of c cs) × Below (last_of c cs) (c ∷ cs) × Rise (last_of c cs) rest m
rise_some n m c [] rest h = (h.1, (h.1, tt), h.2)
rise_some n m c (d ∷ ds) rest h =
    let r = rise_some c.last m d ds rest h.2 in
    (omega (arith, h.1, h.2.0, r.0), (omega (arith, h.1, h.2.0, r.0), r.1), r.2)

away_at : (p : ℕ) (xs : List Cell) (c : Cell) (cs rest : List Cell) → Away p (xs ++ (c ∷ (cs ++ rest)))
    → (c.first ≢ p) × (last_of c cs ≢ p)
away_at p [] c [] rest h = (h.0, h.1)
away_at p [] c (d ∷ ds) rest h = (h.0, (away_at p [] d ds rest h.2).1)
away_at p (x ∷ xs) c cs rest h = away_at p xs c cs rest h.2

away_append : (p : ℕ) (xs ys : List Cell) → Away p xs → Away p ys → Away p (xs ++ ys)
away_append p [] ys h r = r
away_append p (x ∷ xs) ys h r = (h.0, h.1, away_append p xs ys h.2 r)

---- the byte order mark

-- where a text begins with these bytes, what follows decides nothing about the mark
record Start (front old new : List ℕ) : Type 0 where
  -- how many of them are a mark
  at : ℕ
  -- the line after it
  line : ℕ
  -- those after it
  text : List ℕ
  -- together these are all
  size : length front ≡ at + length text
  -- the cells of the old text
  before : without_mark (cells_from 0 1 (front ++ old)) ≡ cells_from at line (text ++ old)
  -- the cells of the new text
  after : without_mark (cells_from 0 1 (front ++ new)) ≡ cells_from at line (text ++ new)

whole : (front old new : List ℕ) → has_mark (front ++ old) ≡ false → has_mark (front ++ new) ≡ false
    → Start front old new
whole front old new one two =
    record {
      at = 0;
      line = 1;
      text = front;
      size = omega arith;
      before = without_mark_is (front ++ old) ∙ cond-false (has_mark (front ++ old)) _ _ one;
      after = without_mark_is (front ++ new) ∙ cond-false (has_mark (front ++ new)) _ _ two;
    }

start : (front old : List ℕ) (v : ℕ) (new : List ℕ) → v ≡ 32 → (length front < 3 → has_mark (front ++ old) ≡ false)
    → Start front old (v ∷ new)
start [] old v new is short = whole [] old (v ∷ new) (short (omega arith)) (ap (λ b. has_mark (b ∷ new)) is)
start (x ∷ []) old v new is short =
    whole (x ∷ []) old (v ∷ new) (short (omega arith)) (ap (λ b. has_mark (x ∷ b ∷ new)) is
    ∙ and_left _ _ (and_right (eqb x 0xef) false refl))
start (x ∷ y ∷ []) old v new is short =
    whole (x ∷ y ∷ []) old (v ∷ new) (short (omega arith)) (ap (λ b. has_mark (x ∷ y ∷ b ∷ new)) is
    ∙ and_right (eqb x 0xef && eqb y 0xbb) false refl)
start (x ∷ y ∷ z ∷ front) old v new is short = by ((eqb x 0xef && eqb y 0xbb) && eqb z 0xbf) refl where
  by : (t : Bool) → ((eqb x 0xef && eqb y 0xbb) && eqb z 0xbf) ≡ t → Start (x ∷ y ∷ z ∷ front) old (v ∷ new)
  by false no_mark = whole (x ∷ y ∷ z ∷ front) old (v ∷ new) no_mark no_mark
  by true mark =
      record {
        at = 3;
        line = 1;
        text = front;
        size = omega arith;
        before = without_mark_is (x ∷ y ∷ z ∷ (front ++ old))
            ∙ cond-true (has_mark (x ∷ y ∷ z ∷ (front ++ old))) _ _ mark;
        after = without_mark_is (x ∷ y ∷ z ∷ (front ++ (v ∷ new)))
            ∙ cond-true (has_mark (x ∷ y ∷ z ∷ (front ++ (v ∷ new)))) _ _ mark;
      }

-- the text before an LF is added
abbrev pub open_text : Language → List ℕ → List Cell
open_text language source = phases language (without_mark (cells_from 0 1 source))

-- all of it is in order
open_rise : (language : Language) (source : List ℕ) → (n : ℕ) × Rise n (open_text language source) (length source) × (has_mark source ≡ true → 3 ≤ n)
open_rise language source = by (has_mark source) refl where
  -- three bytes are there
  three : (bs : List ℕ) → has_mark bs ≡ true → 3 ≤ length bs
  three [] is = cc
  three (x ∷ []) is = absurd (clash (and_left _ _ (and_right (eqb x 0xef) false refl)) is) where
    clash : {t : Bool} → t ≡ false → t ≡ true → ⊥
    clash p q = cc
  three (x ∷ y ∷ []) is = absurd (clash (and_right (eqb x 0xef && eqb y 0xbb) false refl) is) where
    clash : {t : Bool} → t ≡ false → t ≡ true → ⊥
    clash p q = cc
  three (x ∷ y ∷ z ∷ bs) is = omega arith

  by : (t : Bool) → has_mark source ≡ t → (n : ℕ) × Rise n (open_text language source) (length source) ×
      (has_mark source ≡ true → 3 ≤ n)
  by false is =
      let cells : without_mark (cells_from 0 1 source) ≡ cells_from 0 1 source = without_mark_is source
      ∙ cond-false (has_mark source) _ _ is in (
        0,
        subst (λ cs. Rise 0 (phases language cs) (length source)) (sym cells)
            (rise_phases language 0 (length source) (cells_from 0 1 source)
            (row_cells 0 (length source) 1 source (omega arith))),
        λ mark. let e : false ≡ true = sym is ∙ mark in cc,
      )
  by true is =
      let cells : without_mark (cells_from 0 1 source) ≡ cells_from 3 1 (drop 3 source) = without_mark_is source
      ∙ cond-true (has_mark source) _ _ is in
      let size : length source ≡ 3 + length (drop 3 source) = omega (arith, length-drop 3 source, three source is) in (
        3,
        subst (λ cs. Rise 3 (phases language cs) (length source)) (sym cells)
            (rise_phases language 3 (length source) (cells_from 3 1 (drop 3 source))
            (row_cells 3 (length source) 1 (drop 3 source) size)),
        λ mark. omega arith,
      )

---- honest cells of a range

same_byte : (bs : List ℕ) (i d : ℕ) → i < length bs → get_or bs i 0 ≡ get_or bs i d
same_byte [] i d lt = absurd (omega (arith, lt))
same_byte (b ∷ bs) zero d lt = refl
same_byte (b ∷ bs) (suc i) d lt = same_byte bs i d (omega (arith, lt))

open_honest : (language : Language) (source : List ℕ) → AreHonest source (open_text language source)
open_honest language source =
    honest_phases source language (without_mark (cells_from 0 1 source))
    (honest_without_mark source (cells_from 0 1 source)
    (honest_from source 0 1 source (λ i d lt. ap (λ j. get_or source j 0) (at_zero i) ∙ same_byte source i d lt)))
  where
    at_zero : (i : ℕ) → 0 + i ≡ i
    at_zero i = omega arith

honest_at : (source : List ℕ) (xs : List Cell) (c : Cell) (cs rest : List Cell)
    → AreHonest source (xs ++ (c ∷ (cs ++ rest)))
    → IsHonest source c × IsHonest source (last_cell c cs)
honest_at source [] c [] rest h = (h.0, h.0)
honest_at source [] c (d ∷ ds) rest h = (h.0, (honest_at source [] d ds rest h.1).1)
honest_at source (x ∷ xs) c cs rest h = honest_at source xs c cs rest h.1

-- the last of some bytes
abbrev last_byte : ℕ → List ℕ → ℕ
last_byte b [] = b
last_byte b (d ∷ ds) = last_byte d ds

byte_there : (front : List ℕ) (b : ℕ) (bs rest : List ℕ)
    → get_or (front ++ (b ∷ (bs ++ rest))) (length front + length bs) 0 ≡ last_byte b bs
byte_there [] b [] rest = refl
byte_there [] b (d ∷ ds) rest =
    let e : 0 + length (d ∷ ds) ≡ suc (0 + length ds) = omega arith in
    ap (λ i. get_or (b ∷ d ∷ (ds ++ rest)) i 0) e ∙ byte_there [] d ds rest
byte_there (x ∷ xs) b bs rest =
    let e : length (x ∷ xs) + length bs ≡ suc (length xs + length bs) = omega arith in
    ap (λ i. get_or (x ∷ (xs ++ (b ∷ (bs ++ rest)))) i 0) e ∙ byte_there xs b bs rest

-- a byte that is no LF becomes a space
to_space : (b : ℕ) → (b ≡ 10 → ⊥) → blank_byte b ≡ 32
to_space b other = cond-false (b == 10) b 32 (ne_eqb b 10 other)

off_line : (b c : ℕ) → on_line c ≡ true → (b ≡ 10 → c ≡ 10) → b ≡ 10 → ⊥
off_line b c on same is = let e : on_line 10 ≡ true = subst (λ x. on_line x ≡ true) (same is) on in cc

last_cell-blank : (at line b : ℕ) (bs : List ℕ) (c : Cell) → c.byte ≡ blank_byte b
    → (last_cell c (cells_from at line (map blank_byte bs))).byte ≡ blank_byte (last_byte b bs)
last_cell-blank at line b [] c is = is
last_cell-blank at line b (d ∷ ds) c is =
    last_cell-blank (at + 1) (cond (eqb (blank_byte d) 10) (line + 1) line) d ds
    (record { byte = blank_byte d; first = at; last = at + 1; line = line }) refl

---- the text with its blanked range

row_append : (n k m : ℕ) (xs ys : List Cell) → Row n xs k → Row k ys m → Row n (xs ++ ys) m
row_append n k m [] ys h r = subst (λ i. Row i ys m) (sym h) r
row_append n k m (x ∷ xs) ys h r = (h.0, h.1, row_append x.last k m xs ys h.2 r)

-- cells of three parts of a source, where the text has a row of cells for the second of them
module _ (language : Language) (n p q m : ℕ) (xs ys zs before : List Cell) (c : Cell) (cs rest : List Cell) (row_x : Row n xs p)
    (row_y : Row p ys q) (row_z : Row q zs m)
    (some : p < q) (text : phases language (xs ++ (ys ++ zs)) ≡ before ++ (c ∷ (cs ++ rest))) (first : c.first ≡ p)
    (last : last_of c cs ≡ q) where
  rises : Rise n (before ++ (c ∷ (cs ++ rest))) m
  rises = subst (λ cells. Rise n cells m) text (rise_phases language n m (xs ++ (ys ++ zs))
      (row_append n p m xs (ys ++ zs) row_x (row_append p q m ys zs row_y row_z)))

  seam_p : phases language (xs ++ (ys ++ zs)) ≡ phases language xs ++ phases language (ys ++ zs)
  seam_p = by (seam language n p m xs (ys ++ zs) row_x (row_append p q m ys zs row_y row_z)) where
    by : Parts n p (phases language (xs ++ (ys ++ zs))) (phases language xs) (phases language (ys ++ zs))
        → phases language (xs ++ (ys ++ zs)) ≡ phases language xs ++ phases language (ys ++ zs)
    by (inl is) = is
    by (inr away) = absurd ((away_at p before c cs rest (subst (Away p) text away.1)).0 first)

  seam_q : phases language (ys ++ zs) ≡ phases language ys ++ phases language zs
  seam_q = by (seam language p q m ys zs row_y row_z) where
    by : Parts p q (phases language (ys ++ zs)) (phases language ys) (phases language zs) → phases language (ys ++ zs) ≡ phases language ys ++ phases language zs
    by (inl is) = is
    by (inr away) =
        let all : Away q (phases language xs ++ phases language (ys ++ zs)) =
        away_append q _ _ (rise_away q n p (phases language xs) some (rise_phases language n p xs row_x)) away.1 in
        absurd ((away_at q before c cs rest (subst (Away q) (sym seam_p ∙ text) all)).1 last)

  pub parts_are : (phases language xs ≡ before) × (phases language zs ≡ rest)
  parts_are =
      let rise_y = rise_phases language p q ys row_y in
      let rise_z = rise_phases language q m zs row_z in
      let at_c = rise_before n m before c (cs ++ rest) rises in
      let all : phases language xs ++ (phases language ys ++ phases language zs) ≡ before ++ (c ∷ (cs ++ rest)) =
      ap (λ cells. phases language xs ++ cells) (sym seam_q) ∙ sym seam_p ∙ text in
      let one = between p (phases language xs) (phases language ys ++ phases language zs) before (c ∷ (cs ++ rest)) all
      (rise_below n p (phases language xs) (rise_phases language n p xs row_x))
      (rise_from p p m (phases language ys ++ phases language zs) (omega arith)
      (rise_append p q m (phases language ys) (phases language zs) rise_y rise_z))
      (subst (λ i. Below i before) first at_c.1) (rise_from p c.first m (c ∷ (cs ++ rest))
      (omega (arith, first)) at_c.2) in
      let at_rest = rise_some c.first m c cs rest at_c.2 in
      let two = between q (phases language ys) (phases language zs) (c ∷ cs) rest one.1 (rise_below p q (phases language ys) rise_y)
      (rise_from q q m (phases language zs) (omega arith) rise_z)
      (subst (λ i. Below i (c ∷ cs)) last at_rest.1)
      (rise_from q (last_of c cs) m rest (omega (arith, last)) at_rest.2) in
      (one.0, two.1)

-- the source bytes of a row of cells of the text are spaces and LFs in the new one, and all else is as it was
pub record Blanked (language : Language) (new : List ℕ) (before rest : List Cell) : Type 0 where
  -- the first of the cells that are there instead
  pub s : Cell
  -- the others
  pub gone : List Cell
  -- it is a space
  pub space : s.byte ≡ 32
  -- they are spaces and LFs
  pub are : AreGone gone
  -- the last one is a space
  pub end : (last_cell s gone).byte ≡ 32
  -- the new text has them in that place
  pub text : open_text language new ≡ before ++ (s ∷ (gone ++ rest))

module _ (language : Language) (front : List ℕ) (b : ℕ) (bs back : List ℕ) (before : List Cell) (c : Cell) (cs rest : List Cell)
    (text : open_text language (front ++ (b ∷ (bs ++ back))) ≡ before ++ (c ∷ (cs ++ rest)))
    (first : c.first ≡ length front) (last : last_of c cs ≡ length front + length (b ∷ bs))
    (on : on_line c.byte ≡ true) (on_last : on_line (last_cell c cs).byte ≡ true)
    (closed : AreClosed language (bytes_of before)) where
  abbrev source : List ℕ
  source = front ++ (b ∷ (bs ++ back))

  size_of : length source ≡ length front + length (b ∷ bs) + length back
  size_of = let e = length-append front (b ∷ (bs ++ back)) in let f = length-append bs back in omega (arith, e, f)

  honest : IsHonest source c × IsHonest source (last_cell c cs)
  honest = honest_at source before c cs rest (subst (AreHonest source) text (open_honest language source))

  space : blank_byte b ≡ 32
  space =
      let at : c.first ≡ length front + 0 = omega (arith, first) in
      let here : get_or source c.first 0 ≡ b = ap (λ i. get_or source i 0) at ∙ byte_there front b [] (bs ++ back) in
      to_space b (off_line b c.byte on (λ is. honest.0.0 (here ∙ is)))

  end_space : blank_byte (last_byte b bs) ≡ 32
  end_space =
      let is_last = last_of-is c cs in
      let at : (last_cell c cs).last - 1 ≡ length front + length bs = omega (arith, last, is_last) in
      let there : get_or source ((last_cell c cs).last - 1) 0 ≡ last_byte b bs = ap (λ i. get_or source i 0) at
      ∙ byte_there front b bs back in
      to_space (last_byte b bs) (off_line (last_byte b bs) (last_cell c cs).byte on_last
      (λ is. honest.1.1 (there ∙ is)))

  no_mark : length front < 3 → has_mark source ≡ false
  no_mark short =
      let order = open_rise language source in
      let at_c = rise_before order.0 (length source) before c (cs ++ rest)
      (subst (λ xs. Rise order.0 xs (length source)) text order.1) in
      false_from_ne_true (has_mark source) (λ mark. let low =
      order.2 mark in absurd (omega (arith, short, first, at_c.0, low)))

  by_start : Start front (b ∷ (bs ++ back)) (blank_byte b ∷ (map blank_byte bs ++ back))
      → Blanked language (front ++ (map blank_byte (b ∷ bs) ++ back)) before rest
  by_start st =
      let p : ℕ = length front in
      let q : ℕ = p + length (b ∷ bs) in
      let l : ℕ = line_after st.line st.text in
      let k : ℕ = line_after l (b ∷ bs) in
      let xs : List Cell = cells_from st.at st.line st.text in
      let ys : List Cell = cells_from p l (b ∷ bs) in
      let zs : List Cell = cells_from q k back in
      let s : Cell = record { byte = blank_byte b; first = p; last = p + 1; line = l } in
      let gone : List Cell = cells_from (p + 1) (cond (eqb (blank_byte b) 10) (l + 1) l) (map blank_byte bs) in
      let old : phases language (xs ++ (ys ++ zs)) ≡ before ++ (c ∷ (cs ++ rest)) =
      ap (phases language) (ap (λ cells. xs ++ cells) (sym (cells_append p q l (b ∷ bs) back refl))
      ∙ sym (cells_append st.at p st.line st.text (b ∷ (bs ++ back)) st.size) ∙ sym st.before) ∙ text in
      let parts = parts_are language st.at p q (length source) xs ys zs before c cs rest
      (row_cells st.at p st.line st.text st.size) (row_cells p q l (b ∷ bs) refl)
      (row_cells q (length source) k back size_of) (omega arith) old first last in
      let size : q ≡ p + length (map blank_byte (b ∷ bs)) = ap (λ n. p + n) (sym (length-map (b ∷ bs) blank_byte)) in
      let new : without_mark (cells_from 0 1 (front ++ (blank_byte b ∷ (map blank_byte bs ++ back))))
      ≡ xs ++ (s ∷ (gone ++ zs)) =
      st.after ∙ cells_append st.at p st.line st.text (blank_byte b ∷ (map blank_byte bs ++ back)) st.size
      ∙ ap (λ cells. xs ++ cells) (cells_append p q l (map blank_byte (b ∷ bs)) back size
      ∙ ap (λ n. (s ∷ gone) ++ cells_from q n back) (lines-blank l (b ∷ bs))) in
      record {
        s = s;
        gone = gone;
        space = space;
        are = gone-blank (p + 1) (cond (eqb (blank_byte b) 10) (l + 1) l) bs;
        end = last_cell-blank (p + 1) (cond (eqb (blank_byte b) 10) (l + 1) l) b bs s refl ∙ end_space;
        text = ap (phases language) new ∙ space_between s space language xs (gone ++ zs)
            (subst (λ cells. AreClosed language (bytes_of cells)) (sym parts.0) closed)
            ∙ ap (λ cells. phases language xs ++ (s ∷ cells)) (phases_gone language gone zs
            (gone-blank (p + 1) (cond (eqb (blank_byte b) 10) (l + 1) l) bs))
            ∙ ap (λ cells. cells ++ (s ∷ (gone ++ phases language zs))) parts.0
            ∙ ap (λ cells. before ++ (s ∷ (gone ++ cells))) parts.1;
      }

  pub open_blanked : Blanked language (front ++ (map blank_byte (b ∷ bs) ++ back)) before rest
  open_blanked = by_start (start front (b ∷ (bs ++ back)) (blank_byte b) (map blank_byte bs ++ back) space no_mark)

---- the last LF

ended_or : (end : Cell) (cells : List Cell) → (ended_by end cells ≡ cells) ⊎
    (ended_by end cells ≡ cells ++ (end ∷ []))
ended_or end [] = inl refl
ended_or end (a ∷ []) = by (eqb a.byte 10) where
  by : (t : Bool) → (cond t (a ∷ []) (a ∷ end ∷ []) ≡ a ∷ []) ⊎ (cond t (a ∷ []) (a ∷ end ∷ []) ≡ a ∷ end ∷ [])
  by true = inl refl
  by false = inr refl
ended_or end (a ∷ b ∷ r) = by (ended_or end (b ∷ r)) where
  by : (ended_by end (b ∷ r) ≡ b ∷ r) ⊎ (ended_by end (b ∷ r) ≡ (b ∷ r) ++ (end ∷ []))
      → (a ∷ ended_by end (b ∷ r) ≡ a ∷ b ∷ r) ⊎ (a ∷ ended_by end (b ∷ r) ≡ (a ∷ b ∷ r) ++ (end ∷ []))
  by (inl is) = inl (ap (λ cs. a ∷ cs) is)
  by (inr is) = inr (ap (λ cs. a ∷ cs) is)

ended_behind : (end : Cell) (xs : List Cell) (y : Cell) (ys : List Cell)
    → ended_by end (xs ++ (y ∷ ys)) ≡ xs ++ ended_by end (y ∷ ys)
ended_behind end [] y ys = refl
ended_behind end (x ∷ []) y ys = refl
ended_behind end (x ∷ z ∷ xs) y ys = ap (λ cs. x ∷ cs) (ended_behind end (z ∷ xs) y ys)

-- a last cell of several
last_of_two : (xs : List Cell) (e : Cell) (us vs : List Cell) → (vs ≡ [] → ⊥) → xs ++ (e ∷ []) ≡ us ++ vs
    → (ws : List Cell) × (xs ≡ us ++ ws) × (vs ≡ ws ++ (e ∷ []))
last_of_two xs e [] vs some is = (xs, refl, sym is)
last_of_two [] e (u ∷ []) vs some is = absurd (some (sym (ap tail is)))
last_of_two [] e (u ∷ v ∷ us) vs some is = let none : [] ≡ v ∷ (us ++ vs) = ap tail is in cc
last_of_two (x ∷ xs) e (u ∷ us) vs some is =
    let r = last_of_two xs e us vs some (ap tail is) in
    (r.0, ap (λ c. c ∷ xs) (ap (head_or x) is) ∙ ap (λ cs. u ∷ cs) r.1, r.2)

-- cells of which the last is a space
ended_space : (end s : Cell) (gone : List Cell) → (last_cell s gone).byte ≡ 32
    → ended_by end (s ∷ gone) ≡ s ∷ (gone ++ (end ∷ []))
ended_space end s [] is = cond-false (eqb s.byte 10) _ _ (ap (λ b. eqb b 10) is)
ended_space end s (d ∷ ds) is = ap (λ cs. s ∷ cs) (ended_space end d ds is)

-- what is behind some cells that gave way to others, of which the last is a space, ends as before
ended_same : (end : Cell) (before : List Cell) (c : Cell) (cs : List Cell) (s : Cell) (gone w rest : List Cell)
    → (last_cell s gone).byte ≡ 32
    → ended_by end (before ++ (c ∷ (cs ++ w))) ≡ before ++ (c ∷ (cs ++ rest)) → (w ≡ [] → rest ≡ end ∷ [])
    → ended_by end (before ++ (s ∷ (gone ++ w))) ≡ before ++ (s ∷ (gone ++ rest))
ended_same end before c cs s gone [] rest is text none =
    ap (λ cells. ended_by end (before ++ (s ∷ cells))) (append-nil gone) ∙ ended_behind end before s gone
    ∙ ap (λ cells. before ++ cells) (ended_space end s gone is ∙ ap (λ cells. s ∷ (gone ++ cells)) (sym (none refl)))
ended_same end before c cs s gone (r ∷ w) rest is text none =
    let old : (before ++ (c ∷ cs)) ++ ended_by end (r ∷ w) ≡ (before ++ (c ∷ cs)) ++ rest =
    sym (ended_behind end (before ++ (c ∷ cs)) r w) ∙ ap (ended_by end) (append_assoc before (c ∷ cs) (r ∷ w)) ∙ text
    ∙ sym (append_assoc before (c ∷ cs) rest) in
    let same : ended_by end (r ∷ w) ≡ rest = append_cancel_left (before ++ (c ∷ cs))
    (ended_by end (r ∷ w)) rest old in
    ap (ended_by end) (sym (append_assoc before (s ∷ gone) (r ∷ w))) ∙ ended_behind end (before ++ (s ∷ gone)) r w
    ∙ ap (λ cells. (before ++ (s ∷ gone)) ++ cells) same ∙ append_assoc before (s ∷ gone) rest

-- the text before its last LF is added, of a text that goes on after some cells
unended : (end : Cell) (cells before : List Cell) (c : Cell) (cs rest : List Cell)
    → ended_by end cells ≡ before ++ (c ∷ (cs ++ rest)) → (rest ≡ [] → ⊥)
    → (w : List Cell) × (cells ≡ before ++ (c ∷ (cs ++ w))) × (w ≡ [] → rest ≡ end ∷ [])
unended end cells before c cs rest text some = by (ended_or end cells) where
  by : (ended_by end cells ≡ cells) ⊎ (ended_by end cells ≡ cells ++ (end ∷ []))
      → (w : List Cell) × (cells ≡ before ++ (c ∷ (cs ++ w))) × (w ≡ [] → rest ≡ end ∷ [])
  by (inl is) = (rest, sym is ∙ text, λ none. absurd (some none))
  by (inr is) =
      let r = last_of_two cells end (before ++ (c ∷ cs)) rest some (sym is ∙ text
      ∙ sym (append_assoc before (c ∷ cs) rest)) in
      (r.0, r.1 ∙ append_assoc before (c ∷ cs) r.0, λ none. r.2 ∙ ap (λ xs. xs ++ (end ∷ [])) none)

-- the text of a source of which a part is blanked
pub record NewText (language : Language) (source : List ℕ) (before rest : List Cell) : Type 0 where
  -- the first of the cells that are there instead
  pub s : Cell
  -- the others
  pub gone : List Cell
  -- it is a space
  pub space : s.byte ≡ 32
  -- they are spaces and LFs
  pub are : AreGone gone
  -- the text of the source has them in that place
  pub text : phase_text language source ≡ before ++ (s ∷ (gone ++ rest))

of_parts : (language : Language) (front mid back : List ℕ) (before : List Cell) (c : Cell) (cs rest : List Cell)
    → phase_text language (front ++ (mid ++ back)) ≡ before ++ (c ∷ (cs ++ rest)) → (rest ≡ [] → ⊥)
    → c.first ≡ length front → last_of c cs ≡ length front + length mid → c.first < last_of c cs
    → on_line c.byte ≡ true → on_line (last_cell c cs).byte ≡ true → AreClosed language (bytes_of before)
    → NewText language (front ++ (map blank_byte mid ++ back)) before rest
of_parts language front [] back before c cs rest text some first last later on on_last closed =
    absurd (omega (arith, first, last, later))
of_parts language front (b ∷ bs) back before c cs rest text some first last later on on_last closed =
    let source : List ℕ = front ++ (b ∷ (bs ++ back)) in
    let end : Cell = added_new_line source in
    let u = unended end (open_text language source) before c cs rest text some in
    let r = open_blanked language front b bs back before c cs u.0 u.1 first last on on_last closed in
    let whole : ended_by end (before ++ (c ∷ (cs ++ u.0))) ≡ before ++ (c ∷ (cs ++ rest)) =
    ap (ended_by end) (sym u.1) ∙ text in
    record {
      s = r.s;
      gone = r.gone;
      space = r.space;
      are = r.are;
      text = ap (λ e. ended_by e (open_text language (front ++ (map blank_byte (b ∷ bs) ++ back))))
          (end-blank front (b ∷ bs) back)
          ∙ ap (ended_by end) r.text ∙ ended_same end before c cs r.s r.gone u.0 rest r.end whole u.2;
    }

-- the source bytes of some cells of a text give way to spaces and LFs, and all else is as it was
pub blanked_text : (language : Language) (source : List ℕ) (before : List Cell) (c : Cell) (cs rest : List Cell)
    → phase_text language source ≡ before ++ (c ∷ (cs ++ rest)) → (rest ≡ [] → ⊥) → on_line c.byte ≡ true
    → on_line (last_cell c cs).byte ≡ true → AreClosed language (bytes_of before)
    → NewText language (with_blank (record { first = c.first; last = last_of c cs }) source) before rest
blanked_text language source before c cs rest text some on on_last closed =
    let p : ℕ = c.first in
    let q : ℕ = last_of c cs in
    let u = unended (added_new_line source) (open_text language source) before c cs rest text some in
    let order = open_rise language source in
    let at_c = rise_before order.0 (length source) before c (cs ++ u.0)
    (subst (λ xs. Rise order.0 xs (length source)) u.1 order.1) in
    let at_rest = rise_some p (length source) c cs u.0 at_c.2 in
    let within = rise_le q (length source) u.0 at_rest.2 in
    let front : List ℕ = take p source in
    let behind : List ℕ = drop p source in
    let mid : List ℕ = take (q - p) behind in
    let back : List ℕ = drop (q - p) behind in
    let all : front ++ (mid ++ back) ≡ source = ap (λ xs. front ++ xs) (take-append-drop (q - p) behind)
    ∙ take-append-drop p source in
    let size_front : p ≡ length front = sym (length-take-le p source (omega (arith, at_rest.0, within))) in
    let size_behind : length behind ≡ length source - p = length-drop p source in
    let size_mid : length mid ≡ q - p = length-take-le (q - p) behind (omega (arith, size_behind, within)) in
    let size : q ≡ p + length mid = omega (arith, size_mid, at_rest.0) in
    subst (λ bytes. NewText language bytes before rest)
    (sym (blanked_parts p q front mid back size_front size) ∙ ap (with_blank (record { first = p; last = q })) all)
    (of_parts language front mid back before c cs rest (ap (phase_text language) all ∙ text) some size_front
    (omega (arith, size, size_front)) at_rest.0 on on_last closed)
