-- Blanked bytes: one range after the other, one byte after the other.
use Rattle.std.proofs.Common.{◌≡◌, ℕ, zero, suc, ◌+◌, ◌-◌, ◌<◌, ◌≤◌, ◌==◌, ◌||◌, Bool, true, false, cond, List, [], ◌∷◌, ◌++◌, Option, Some, None, option_map, length, map, filter, take, get_or, set, min, append-nil, ◌⊎◌, inl, inr, nat_le, nat_lt, slice_get, refl, sym, ap, ◌∙◌, arith}
use Rattle.std.specs.List.{list_any}
use Rattle.std.proofs.lemmas.Bool.{and_parts, and_from, false_from_ne_true, le-leb, leb-true, lt-ltb, ltb-true}
use Rattle.std.proofs.lemmas.List.{take_more, map-append}
use Rattle.std.proofs.lemmas.List.Elements.{filter-append}
use Rattle.std.proofs.lemmas.List.Folds.{list_any-append}
use Rattle.std.proofs.lemmas.Option.{slice_get_within, get_or_from_slice_get}
use Rattle.inc_text.specs.Flags.{flag_at}
use Rattle.inc_token.specs.Blanking.{Range, is_in, blank_byte, blanked_from, line_range, end_of, begins_on, blanked}
use Rattle.inc_token.specs.BlankingSteps.{AreMarks, BeginUpTo, begin_line, line_blanked, with_blank}
use Rattle.inc_token.specs.TokenLines.{Tok, TokenLine}
use Rattle.inc_token.specs.Views.{seen}
use Rattle.inc_token.specs.declared.lines.Token.{Token}

---- ranges

byte_again : (p q : Bool) (b : ℕ) (lf : Bool) → (b == 10) ≡ lf
    → cond q (blank_byte (cond p (blank_byte b) b)) (cond p (blank_byte b) b) ≡ cond (p || q) (blank_byte b) b
byte_again false q b lf is = refl
byte_again true false b lf is = refl
byte_again true true b true is = rw (is, is) refl
byte_again true true b false is = rw is refl

-- the ranges of one list and then those of another
pub blanked_again : (i : ℕ) (qs rs : List Range) (bytes : List ℕ)
    → blanked_from i rs (blanked_from i qs bytes) ≡ blanked_from i (qs ++ rs) bytes
blanked_again i qs rs [] = refl
blanked_again i qs rs (b ∷ bs) =
    let here : cond (list_any (is_in i) rs) (blank_byte (cond (list_any (is_in i) qs) (blank_byte b) b))
    (cond (list_any (is_in i) qs) (blank_byte b) b)
    ≡ cond (list_any (is_in i) (qs ++ rs)) (blank_byte b) b =
    byte_again (list_any (is_in i) qs) (list_any (is_in i) rs) b (b == 10) refl
    ∙ ap (λ t. cond t (blank_byte b) b) (sym (list_any-append (is_in i) qs rs)) in
    ap (λ x. x ∷ blanked_from (i + 1) rs (blanked_from (i + 1) qs bs)) here
    ∙ ap (λ xs. cond (list_any (is_in i) (qs ++ rs)) (blank_byte b) b ∷ xs) (blanked_again (i + 1) qs rs bs)

pub blanked_none : (i : ℕ) (bytes : List ℕ) → blanked_from i [] bytes ≡ bytes
blanked_none i [] = refl
blanked_none i (b ∷ bs) = ap (λ xs. b ∷ xs) (blanked_none (i + 1) bs)

---- what stays

pub blank-lf : (b : ℕ) → (blank_byte b == 10) ≡ (b == 10)
blank-lf b = by (b == 10) refl where
  by : (t : Bool) → (b == 10) ≡ t → (cond t b 32 == 10) ≡ t
  by true is = is
  by false is = refl

-- as many bytes
pub blanked-length : (i : ℕ) (rs : List Range) (bytes : List ℕ) → length (blanked_from i rs bytes) ≡ length bytes
blanked-length i rs [] = refl
blanked-length i rs (b ∷ bs) = ap suc (blanked-length (i + 1) rs bs)

-- LF where it was
pub blanked-line_feeds : (i : ℕ) (rs : List Range) (bytes : List ℕ) (k : ℕ)
    → (get_or (blanked_from i rs bytes) k 0 == 10) ≡ (get_or bytes k 0 == 10)
blanked-line_feeds i rs [] k = refl
blanked-line_feeds i rs (b ∷ bs) zero = by (list_any (is_in i) rs) where
  by : (t : Bool) → (cond t (blank_byte b) b == 10) ≡ (b == 10)
  by true = blank-lf b
  by false = refl
blanked-line_feeds i rs (b ∷ bs) (suc k) = blanked-line_feeds (i + 1) rs bs k

-- each byte as it was, or a space
pub blanked-bytes : (i : ℕ) (rs : List Range) (bytes : List ℕ) (k : ℕ)
    → (get_or (blanked_from i rs bytes) k 0 ≡ get_or bytes k 0) ⊎ (get_or (blanked_from i rs bytes) k 0 ≡ 32)
blanked-bytes i rs [] k = inl refl
blanked-bytes i rs (b ∷ bs) zero = by (list_any (is_in i) rs) (b == 10) where
  by : (t u : Bool) → (cond t (cond u b 32) b ≡ b) ⊎ (cond t (cond u b 32) b ≡ 32)
  by true true = inl refl
  by true false = inr refl
  by false u = inl refl
blanked-bytes i rs (b ∷ bs) (suc k) = blanked-bytes (i + 1) rs bs k

---- one range

pub is_in-true : (i : ℕ) (r : Range) → r.first ≤ i → i < r.last → is_in i r ≡ true
is_in-true i r low high = and_from (nat_le r.first i) (nat_lt i r.last) (le-leb r.first i low) (lt-ltb i r.last high)

pub in_range : (i : ℕ) (r : Range) → is_in i r ≡ true → (r.first ≤ i) × (i < r.last)
in_range i r is =
    let parts = and_parts (nat_le r.first i) (nat_lt i r.last) is in
    (leb-true r.first i parts.0, ltb-true i r.last parts.1)

same_test : (p q : Bool) → (p ≡ true → q ≡ true) → (q ≡ true → p ≡ true) → p ≡ q
same_test true q f g = sym (f refl)
same_test false true f g = g refl
same_test false false f g = refl

-- the ranges have the same of these places
pub blanked_same : (i : ℕ) (r s : Range) (bytes : List ℕ)
    → ((j : ℕ) → i ≤ j → j < i + length bytes → (r.first ≤ j) → (j < r.last) → (s.first ≤ j) × (j < s.last))
    → ((j : ℕ) → i ≤ j → j < i + length bytes → (s.first ≤ j) → (j < s.last) → (r.first ≤ j) × (j < r.last))
    → blanked_from i (r ∷ []) bytes ≡ blanked_from i (s ∷ []) bytes
blanked_same i r s [] f g = refl
blanked_same i r s (b ∷ bs) f g =
    let here : is_in i r ≡ is_in i s =
    same_test (is_in i r) (is_in i s)
    (λ is. let p = in_range i r is in let q = f i (omega arith) (omega arith) p.0 p.1 in is_in-true i s q.0 q.1)
    (λ is. let p = in_range i s is in let q = g i (omega arith) (omega arith) p.0 p.1 in is_in-true i r q.0 q.1) in
    ap (λ t. cond (t || false) (blank_byte b) b ∷ blanked_from (i + 1) (r ∷ []) bs) here
    ∙ ap (λ xs. cond (is_in i s || false) (blank_byte b) b ∷ xs)
    (blanked_same (i + 1) r s bs (λ j low high. f j (omega (arith, low)) (omega (arith, high)))
    (λ j low high. g j (omega (arith, low)) (omega (arith, high))))

pub blanked_nowhere : (i first last : ℕ) (bytes : List ℕ) → (first < last → i < last → ⊥)
    → blanked_from i (record { first = first; last = last } ∷ []) bytes ≡ bytes
blanked_nowhere i first last [] none = refl
blanked_nowhere i first last (b ∷ bs) none =
    let r : Range = record { first = first; last = last } in
    let no : is_in i r ≡ false =
    false_from_ne_true (is_in i r)
    (λ is. let p = in_range i r is in none (omega (arith, p.0, p.1)) p.1) in
    ap (λ t. cond (t || false) (blank_byte b) b ∷ blanked_from (i + 1) (r ∷ []) bs) no
    ∙ ap (λ xs. b ∷ xs) (blanked_nowhere (i + 1) first last bs (λ some later. none some (omega (arith, later))))

-- one byte more
pub blanked_more : (i k first last : ℕ) (bytes : List ℕ) (w : ℕ) → last ≡ i + k → first ≤ last → k < length bytes
    → w ≡ get_or (blanked_from i (record { first = first; last = last } ∷ []) bytes) k w
    → set (blanked_from i (record { first = first; last = last } ∷ []) bytes) k (blank_byte w)
    ≡ blanked_from i (record { first = first; last = last + 1 } ∷ []) bytes
blanked_more i k first last [] w at le lt is = absurd (omega (arith, lt))
blanked_more i zero first last (b ∷ bs) w at le lt is =
    let old : Range = record { first = first; last = last } in
    let new : Range = record { first = first; last = last + 1 } in
    let before : is_in i old ≡ false =
    false_from_ne_true (is_in i old)
    (λ in_old. let p = in_range i old in_old in absurd (omega (arith, at, p.1))) in
    let here : is_in i new ≡ true = is_in-true i new (omega (arith, at, le)) (omega (arith, at)) in
    let read : w ≡ b = is ∙ ap (λ t. cond (t || false) (blank_byte b) b) before in
    ap (λ x. blank_byte x ∷ blanked_from (i + 1) (old ∷ []) bs) read
    ∙ ap (λ xs. blank_byte b ∷ xs) (blanked_nowhere (i + 1) first last bs (λ some later. omega (arith, at, later))
    ∙ sym (blanked_nowhere (i + 1) first (last + 1) bs (λ some later. omega (arith, at, later))))
    ∙ sym (ap (λ t. cond (t || false) (blank_byte b) b ∷ blanked_from (i + 1) (new ∷ []) bs) here)
blanked_more i (suc k) first last (b ∷ bs) w at le lt is =
    let old : Range = record { first = first; last = last } in
    let new : Range = record { first = first; last = last + 1 } in
    let same : is_in i old ≡ is_in i new =
    same_test (is_in i old) (is_in i new)
    (λ h. let p = in_range i old h in is_in-true i new p.0 (omega (arith, p.1)))
    (λ h. let p = in_range i new h in is_in-true i old p.0 (omega (arith, at))) in
    ap (λ t. cond (t || false) (blank_byte b) b ∷ set (blanked_from (i + 1) (old ∷ []) bs) k (blank_byte w)) same
    ∙ ap (λ xs. cond (is_in i new || false) (blank_byte b) b ∷ xs)
    (blanked_more (i + 1) k first last bs w (omega (arith, at)) le (omega (arith, lt)) is)

-- up to the end of the bytes
pub blanked_all : (first last at : ℕ) (bytes : List ℕ) → at ≡ min last (length bytes)
    → with_blank (record { first = min first at; last = at }) bytes
    ≡ with_blank (record { first = first; last = last }) bytes
blanked_all first last at bytes is =
    blanked_same 0 (record { first = min first at; last = at }) (record { first = first; last = last }) bytes
    (λ j low high after before. (omega (arith, is, high, after, before), omega (arith, is, high, after, before)))
    (λ j low high after before. (omega (arith, is, high, after, before), omega (arith, is, high, after, before)))

---- lines

-- the last of the tokens ends where the line does
end_of-seen : (t : Token) (ts : List Token) (d : Token)
    → (get_or (t ∷ ts) (length ts) d).last ≡ end_of t.last (map seen ts)
end_of-seen t [] d = refl
end_of-seen t (u ∷ ts) d = end_of-seen u ts d

pub last_seen : (ts : List Token) (t : Token) → 0 < length ts → t ≡ get_or ts (length ts - 1) t
    → t.last ≡ (line_range (map seen ts)).last
last_seen [] t some is = absurd (omega (arith, some))
last_seen (u ∷ us) t some is =
    let size : suc (length us) - 1 ≡ length us = omega arith in
    ap (λ (x : Token). x.last) (is ∙ ap (λ n. get_or (u ∷ us) n t) size) ∙ end_of-seen u us t

marked : (lines : List ℕ) (last : ℕ) (marks : List Bool) (ts : List Tok) (bytes : List ℕ) → AreMarks lines last marks
    → begin_line ts ≤ last
    → line_blanked marks ts bytes ≡ cond (begins_on lines ts) (with_blank (line_range ts) bytes) bytes
marked lines last marks [] bytes are le = both_ways (flag_at marks 0) (with_blank (line_range []) bytes) bytes
    (blanked_nowhere 0 0 0 bytes (λ some later. omega (arith, some))) where
      both_ways : (p : Bool) (x y : List ℕ) → x ≡ y → cond p x y ≡ y
      both_ways true x y is = is
      both_ways false x y is = refl
marked lines last marks (t ∷ ts) bytes are le =
    ap (λ p. cond p (with_blank (line_range (t ∷ ts)) bytes) bytes) (are t.line le)

-- one line more
ranges_one : (test : Bool) (l : TokenLine) (bytes : List ℕ) (rs : List Range)
    → cond test (with_blank (line_range l.tokens) (blanked_from 0 rs bytes)) (blanked_from 0 rs bytes)
    ≡ blanked_from 0 (rs ++ map (λ (m : TokenLine). line_range m.tokens) (cond test (l ∷ []) [])) bytes
ranges_one true l bytes rs = blanked_again 0 rs (line_range l.tokens ∷ []) bytes
ranges_one false l bytes rs = ap (λ qs. blanked_from 0 qs bytes) (sym (append-nil rs))

blanked_line : (lines : List ℕ) (last : ℕ) (marks : List Bool) (ls : List TokenLine) (i : ℕ) (l : TokenLine)
    (source bytes : List ℕ)
    → AreMarks lines last marks → begin_line l.tokens ≤ last → i < length ls → get_or ls i l ≡ l
    → bytes ≡ blanked lines (take i ls) source
    → line_blanked marks l.tokens bytes ≡ blanked lines (take (i + 1) ls) source
blanked_line lines last marks ls i l source bytes are le lt at is =
    let test : TokenLine → Bool = λ m. begins_on lines m.tokens in
    let range : TokenLine → Range = λ m. line_range m.tokens in
    let front : List TokenLine = take i ls in
    let more : take (i + 1) ls ≡ front ++ l ∷ [] = take_more ls i l lt ∙ ap (λ m. front ++ m ∷ []) at in
    let ranges : map range (filter test (take (i + 1) ls))
    ≡ map range (filter test front) ++ map range (cond (test l) (l ∷ []) []) =
    ap (λ ms. map range (filter test ms)) more ∙ ap (map range) (filter-append test front (l ∷ []))
    ∙ map-append range (filter test front) (filter test (l ∷ [])) in
    marked lines last marks l.tokens bytes are le
    ∙ ap (λ bs. cond (test l) (with_blank (range l) bs) bs) is
    ∙ ranges_one (test l) l source (map range (filter test front))
    ∙ ap (λ rs. blanked_from 0 rs source) (sym ranges)

by_line : (lines : List ℕ) (last : ℕ) (marks : List Bool) (ls : List TokenLine) (i : ℕ) (o : Option TokenLine)
    (ts : List Tok) (source bytes : List ℕ)
    → slice_get ls i ≡ o → option_map (λ (l : TokenLine). l.tokens) o ≡ Some ts → AreMarks lines last marks
    → BeginUpTo last ls
    → bytes ≡ blanked lines (take i ls) source → line_blanked marks ts bytes ≡ blanked lines (take (i + 1) ls) source
by_line lines last marks ls i None ts source bytes at tokens are up is = cc
by_line lines last marks ls i (Some l) ts source bytes at tokens are up is =
    let same : l.tokens ≡ ts = cc in
    ap (λ us. line_blanked marks us bytes) (sym same)
    ∙ blanked_line lines last marks ls i l source bytes are (up i l at) (slice_get_within ls i l at)
    (get_or_from_slice_get ls i l l at) is

-- one line more, as it is read
pub blanked_line_read : (lines : List ℕ) (last : ℕ) (marks : List Bool) (ls : List TokenLine) (i : ℕ) (ts : List Tok)
    (source bytes : List ℕ)
    → option_map (λ (l : TokenLine). l.tokens) (slice_get ls i) ≡ Some ts → AreMarks lines last marks
    → BeginUpTo last ls
    → bytes ≡ blanked lines (take i ls) source → line_blanked marks ts bytes ≡ blanked lines (take (i + 1) ls) source
blanked_line_read lines last marks ls i ts source bytes tokens are up is =
    by_line lines last marks ls i (slice_get ls i) ts source bytes refl tokens are up is
