-- A search in place of a walk: what a walk over bytes computes goes on at the byte that the search finds.
use Rattle.std.proofs.Common.{◌≡◌, ◌≢◌, ℕ, zero, suc, ◌+◌, ◌<◌, ◌≤◌, Bool, true, false, ◌&&◌, ◌||◌, List, [], ◌∷◌, Some, None, length, drop, get_or, ◌-◌, ◌==◌, refl, sym, ap, ◌∙◌, arith, add-zero, add-one, length-drop}
use Rattle.std.proofs.lemmas.Bool.{false_from_ne_true, and_parts, eq-eqb, eqb-true, ne_eqb, or_parts}
use Rattle.std.proofs.lemmas.List.{drop_more, drop_all, drop-drop, get_or-drop}
use Rattle.memchr.specs.Find.{Nowhere, Passes, IsFirstByte, OccursAt, FindsNeedle, is_byte, is_byte2, is_byte3}
use Rattle.inc_token.specs.declared.pieces.Piece.TheVariants.{Blank, Unclosed}
use Rattle.inc_token.specs.Scanning.{closed_at, name_at}
use Rattle.inc_token.proofs.FrontPieces.{line_len, comment_of}
use Rattle.inc_token.specs.TokenLines.{comment_rest}
use Rattle.inc_token.proofs.Comments.{comment_goes_on, comment_ends, comment_open}

-- a walk that only counts the bytes that fail the test
module _ (walk : ℕ → List ℕ → ℕ) (test : ℕ → Bool) (counts : (n b : ℕ) (bs : List ℕ) → test b ≡ false → walk n (b ∷ bs) ≡ walk (suc n) bs) where
  counted : (k n : ℕ) (text : List ℕ) → k ≤ length text → Nowhere (Passes test text) 0 k → walk n text ≡ walk (n + k) (drop k text)
  counted zero n text le none = ap (λ m. walk m text) (omega arith)
  counted (suc k) n [] le none = absurd (omega arith)
  counted (suc k) n (b ∷ bs) le none =
      counts n b bs (false_from_ne_true (test b) (none 0 (omega arith) (omega arith)))
      ∙ counted k (suc n) bs (omega arith) (λ j low high. none (suc j) (omega arith) (omega arith))
      ∙ ap (λ m. walk m (drop k bs)) (omega arith)

  -- from a place on, up to the byte that the search finds there
  walk_found : (text : List ℕ) (n at k : ℕ) → IsFirstByte test (drop at text) (Some k)
      → walk n (drop at text) ≡ walk (n + k) (get_or text (at + k) 0 ∷ drop (at + k + 1) text)
  walk_found text n at k found =
      let high : k < length (drop at text) = found.0.high in
      counted k n (drop at text) (omega arith) found.0.before
      ∙ ap (walk (n + k)) (drop-drop k at text ∙ drop_more text (at + k) 0 (omega (arith, length-drop at text)))

  -- over all of a text in which it finds none
  walk_missed : (n : ℕ) (text : List ℕ) → IsFirstByte test text None → walk n text ≡ walk (n + length text) []
  walk_missed n text none =
      counted (length text) n text (omega arith) none ∙ ap (walk (n + length text)) (drop_all (length text) text (omega arith))

-- the search stays within the text, and the byte that it finds passes
pub found_within : (test : ℕ → Bool) (text : List ℕ) (at k : ℕ) → IsFirstByte test (drop at text) (Some k) → at + k < length text
found_within test text at k found = omega (arith, found.0.high, length-drop at text)

found_byte : (test : ℕ → Bool) (text : List ℕ) (at k : ℕ) → IsFirstByte test (drop at text) (Some k) → test (get_or text (at + k) 0) ≡ true
found_byte test text at k found = ap test (sym (get_or-drop at text k 0)) ∙ found.1

-- a line comment
abbrev line_walk : ℕ → List ℕ → ℕ
line_walk n text = n + line_len text

line_counts : (n b : ℕ) (bs : List ℕ) → is_byte 10 b ≡ false → line_walk n (b ∷ bs) ≡ line_walk (suc n) bs
line_counts n b bs other = rw other (omega arith)

pub line_found : (k : ℕ) (text : List ℕ) → IsFirstByte (is_byte 10) text (Some k) → line_len text ≡ k
line_found k text found =
    let stop : line_len (get_or text (0 + k) 0 ∷ drop (0 + k + 1) text) ≡ 0 = rw (found_byte (is_byte 10) text 0 k found) refl in
    omega (arith, walk_found line_walk (is_byte 10) line_counts text 0 0 k found, stop)

pub line_missed : (text : List ℕ) → IsFirstByte (is_byte 10) text None → line_len text ≡ length text
line_missed text none = omega (arith, walk_missed line_walk (is_byte 10) line_counts 0 text none)

-- a header name
module _ (close : ℕ) where
  name_counts : (n b : ℕ) (bs : List ℕ) → is_byte2 close 10 b ≡ false → name_at close n (b ∷ bs) ≡ name_at close (suc n) bs
  name_counts n b bs other = let parts = or_parts (b == close) (b == 10) other in rw (parts.0, parts.1) refl

  pub name_closes : (text : List ℕ) (n at k : ℕ) → IsFirstByte (is_byte2 close 10) (drop at text) (Some k) → get_or text (at + k) 0 ≡ close
      → name_at close n (drop at text) ≡ suc (n + k)
  name_closes text n at k found is =
      walk_found (name_at close) (is_byte2 close 10) name_counts text n at k found ∙ rw (eq-eqb _ close is) refl

  pub name_breaks : (text : List ℕ) (n at k : ℕ) → IsFirstByte (is_byte2 close 10) (drop at text) (Some k) → get_or text (at + k) 0 ≢ close
      → name_at close n (drop at text) ≡ 0
  name_breaks text n at k found other =
      let b = get_or text (at + k) 0 in
      let elsewhere = ne_eqb b close other in
      let line : (b == 10) ≡ true = rw elsewhere at (found_byte (is_byte2 close 10) text at k found) in
      walk_found (name_at close) (is_byte2 close 10) name_counts text n at k found ∙ rw (elsewhere, line) refl

  pub name_missed : (n : ℕ) (text : List ℕ) → IsFirstByte (is_byte2 close 10) text None → name_at close n text ≡ 0
  name_missed n text none = walk_missed (name_at close) (is_byte2 close 10) name_counts n text none

-- a literal
third : (x y z : Bool) → (x || y || z) ≡ true → x ≡ false → z ≡ false → y ≡ true
third true y z some first last = cc
third false true z some first last = refl
third false false true some first last = cc
third false false false some first last = some

module _ (quote : ℕ) where
  closed_counts : (n b : ℕ) (bs : List ℕ) → is_byte3 quote 92 10 b ≡ false → closed_at quote false n (b ∷ bs) ≡ closed_at quote false (suc n) bs
  closed_counts n b bs other =
      let parts = or_parts (b == quote || b == 92) (b == 10) other in
      let front = or_parts (b == quote) (b == 92) parts.0 in
      rw (front.0, front.1, parts.1) refl

  module _ (text : List ℕ) (n at k : ℕ) (found : IsFirstByte (is_byte3 quote 92 10) (drop at text) (Some k)) where
    closed_found : closed_at quote false n (drop at text) ≡ closed_at quote false (n + k) (get_or text (at + k) 0 ∷ drop (at + k + 1) text)
    closed_found = walk_found (closed_at quote false) (is_byte3 quote 92 10) closed_counts text n at k found

    pub closed_closes : get_or text (at + k) 0 ≡ quote → closed_at quote false n (drop at text) ≡ suc (n + k)
    closed_closes is = closed_found ∙ rw (eq-eqb _ quote is) refl

    pub closed_breaks : get_or text (at + k) 0 ≢ quote → get_or text (at + k) 0 ≡ 10 → closed_at quote false n (drop at text) ≡ 0
    closed_breaks other line = closed_found ∙ rw (ne_eqb _ quote other, eq-eqb _ 10 line) refl

    -- a backslash
    escapes : get_or text (at + k) 0 ≢ quote → get_or text (at + k) 0 ≢ 10
        → closed_at quote false n (drop at text) ≡ closed_at quote true (suc (n + k)) (drop (at + k + 1) text)
    escapes other plain =
        let b = get_or text (at + k) 0 in
        let elsewhere = ne_eqb b quote other in
        let within = ne_eqb b 10 plain in
        let escape : (b == 92) ≡ true = third (b == quote) (b == 92) (b == 10) (found_byte (is_byte3 quote 92 10) text at k found) elsewhere within in
        closed_found ∙ rw (elsewhere, within, escape) refl

    pub escapes_end : get_or text (at + k) 0 ≢ quote → get_or text (at + k) 0 ≢ 10 → at + k + 1 ≡ length text
        → closed_at quote false n (drop at text) ≡ 0
    escapes_end other plain end =
        escapes other plain ∙ ap (closed_at quote true (suc (n + k))) (drop_all (at + k + 1) text (omega arith))

    escapes_next : get_or text (at + k) 0 ≢ quote → get_or text (at + k) 0 ≢ 10 → at + k + 1 ≢ length text
        → closed_at quote false n (drop at text) ≡ closed_at quote true (suc (n + k)) (get_or text (at + k + 1) 0 ∷ drop (at + k + 1 + 1) text)
    escapes_next other plain more =
        let lt : at + k + 1 < length text = omega (arith, found_within (is_byte3 quote 92 10) text at k found) in
        escapes other plain ∙ ap (closed_at quote true (suc (n + k))) (drop_more text (at + k + 1) 0 lt)

    pub escapes_line : get_or text (at + k) 0 ≢ quote → get_or text (at + k) 0 ≢ 10 → at + k + 1 ≢ length text → get_or text (at + k + 1) 0 ≡ 10
        → closed_at quote false n (drop at text) ≡ 0
    escapes_line other plain more line = escapes_next other plain more ∙ rw (eq-eqb _ 10 line) refl

    pub escapes_byte : get_or text (at + k) 0 ≢ quote → get_or text (at + k) 0 ≢ 10 → at + k + 1 ≢ length text → get_or text (at + k + 1) 0 ≢ 10
        → closed_at quote false n (drop at text) ≡ closed_at quote false (n + k + 2) (drop (at + k + 2) text)
    escapes_byte other plain more passed =
        let count : suc (suc (n + k)) ≡ n + k + 2 = omega arith in
        let place : at + k + 1 + 1 ≡ at + k + 2 = omega arith in
        escapes_next other plain more ∙ rw (ne_eqb _ 10 passed) refl
        ∙ ap (λ m. closed_at quote false m (drop (at + k + 1 + 1) text)) count
        ∙ ap (λ i. closed_at quote false (n + k + 2) (drop i text)) place

  pub closed_missed : (n : ℕ) (text : List ℕ) → IsFirstByte (is_byte3 quote 92 10) text None → closed_at quote false n text ≡ 0
  closed_missed n text none = walk_missed (closed_at quote false) (is_byte3 quote 92 10) closed_counts n text none

-- a block comment
abbrev closing : List ℕ
closing = 42 ∷ 47 ∷ []

reads_closing : (text : List ℕ) (i : ℕ) → get_or text i 0 ≡ 42 → get_or text (i + 1) 0 ≡ 47 → (j : ℕ) → j < 2 → get_or text (i + j) 0 ≡ get_or closing j 0
reads_closing text i star slash zero lt = ap (λ k. get_or text k 0) (add-zero i) ∙ star
reads_closing text i star slash (suc zero) lt = slash
reads_closing text i star slash (suc (suc j)) lt = absurd (omega arith)

not_closing : (text : List ℕ) (i : ℕ) → i + 1 < length text → (OccursAt text closing i → ⊥) → ((get_or text i 0 == 42) && (get_or text (i + 1) 0 == 47)) ≡ false
not_closing text i lt none =
    false_from_ne_true ((get_or text i 0 == 42) && (get_or text (i + 1) 0 == 47)) (λ both.
    let parts = and_parts (get_or text i 0 == 42) (get_or text (i + 1) 0 == 47) both in
    none (record { fits = omega arith; reads = reads_closing text i (eqb-true _ 42 parts.0) (eqb-true _ 47 parts.1) }))

comment_passed : (k n : ℕ) (text : List ℕ) → k ≤ length text - 1 → Nowhere (OccursAt text closing) 0 k
    → comment_of n (comment_rest text) ≡ comment_of (n + k) (comment_rest (drop k text))
comment_passed zero n text le none = ap (λ m. comment_of m (comment_rest text)) (sym (add-zero n))
comment_passed (suc k) n text le none =
    let count : n + k + 1 ≡ n + suc k = omega arith in
    let lt : k + 1 < length text = omega arith in
    comment_passed k n text (omega arith) (λ j low high. none j (omega arith) (omega arith))
    ∙ comment_goes_on text k (n + k) lt (not_closing text k lt (none k (omega arith) (omega arith)))
    ∙ ap (λ m. comment_of m (comment_rest (drop (k + 1) text))) count
    ∙ ap (λ j. comment_of (n + suc k) (comment_rest (drop j text))) (add-one k)

pub comment_found : (n k : ℕ) (text : List ℕ) → FindsNeedle text closing 0 (Some k) → comment_of n (comment_rest text) ≡ Blank (n + k + 2)
comment_found n k text found =
    let fits = found.1.fits in
    let star = ap (λ i. get_or text i 0) (sym (add-zero k)) ∙ found.1.reads 0 (omega arith) in
    let slash = found.1.reads 1 (omega arith) in
    comment_passed k n text (omega arith) found.0.before ∙ comment_ends text k (n + k) (omega arith) star slash

pub comment_missed : (n : ℕ) (text : List ℕ) → FindsNeedle text closing 0 None → comment_of n (comment_rest text) ≡ Unclosed
comment_missed n text none =
    let last = length text - 1 in
    comment_passed last n text (omega arith) (λ j low high. none j low (omega arith)) ∙ comment_open text last (n + last) (omega arith)
