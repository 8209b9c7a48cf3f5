-- Rows of parts, and how the parts of identifiers and numbers are read from a prefix.
use Rattle.std.proofs.Common.{◌≡◌, ℕ, zero, suc, ◌+◌, ◌-◌, ◌<◌, ◌≤◌, Bool, true, false, ◌&&◌, List, [], ◌∷◌, length, take, drop, get_or, cond, nat_lt, ◌==◌, refl, sym, ap, ◌∙◌, subst, arith, ⊎_elim}
use Rattle.std.proofs.lemmas.Bool.{cond-true, cond-false, cond_both, cases_eq, and_from, and_left, and_right, ltb-true, ltb-false, lt-ltb, le-ltb, ne_eqb, both_ways, false_from_ne_true}
use Rattle.std.proofs.lemmas.List.{drop_more, length-drop, drop-drop}
use Rattle.std.proofs.lemmas.List.Sums.{prefix_len-le-length}
use Rattle.inc_token.specs.Spellings.{is_row}
use Rattle.inc_token.specs.Scanning.{row_len}
use Rattle.inc_token.proofs.FrontPieces.{line_len}

-- a test that k fails tells b from k where it passes
pub differs : (f : ℕ → Bool) (k b : ℕ) → f k ≡ false → f b ≡ true → (b == k) ≡ false
differs f k b fails passes = ne_eqb b k (λ same. both_ways (f k) fails (sym (ap f same) ∙ passes))

pub cond_kept : (t : Bool) (x y z k : ℕ) → cond t x y ≤ k → (t ≡ false → y ≤ k → z ≡ y) → cond t x z ≡ cond t x y
cond_kept true x y z k le f = refl
cond_kept false x y z k le f = f refl le

pub line_len-le : (text : List ℕ) → line_len text ≤ length text
line_len-le text = prefix_len-le-length _ text

pub line_from : (b n : ℕ) (bs : List ℕ) → (b == 10) ≡ false → n ≤ line_len bs → suc n ≤ line_len (b ∷ bs)
line_from b n bs ne le = rw ne (omega arith)

pub line_head : (b n : ℕ) (bs : List ℕ) → suc n ≤ line_len (b ∷ bs) → (b == 10) ≡ false
line_head b n bs le =
    false_from_ne_true (b == 10) (λ is. let le' = rw is at le in absurd (omega (arith, le')))

pub line_tail : (b n : ℕ) (bs : List ℕ) → suc n ≤ line_len (b ∷ bs) → n ≤ line_len bs
line_tail b n bs le = let le' = rw (line_head b n bs le) at le in omega (arith, le')

-- what a part has to be like for a row of such parts to be read from the front
pub record IsPart (part : List ℕ → ℕ) : Type 0 where
  pub on_line : (text : List ℕ) → part text ≤ line_len text
  pub kept : (text : List ℕ) (k : ℕ) → 0 < k → part text ≤ k → part (take k text) ≡ part text

module _ (part : List ℕ → ℕ) (is : IsPart part) where
  -- what is left of a part lies in the text after its first byte
  left_on_line : (b : ℕ) (bs : List ℕ) → 0 < part (b ∷ bs) → part (b ∷ bs) - 1 ≤ line_len bs
  left_on_line b bs some = let on = is.on_line (b ∷ bs) in line_tail b (part (b ∷ bs) - 1) bs (omega (arith, on))

  left_in_text : (b : ℕ) (bs : List ℕ) → 0 < part (b ∷ bs) → part (b ∷ bs) - 1 ≤ length bs
  left_in_text b bs some = omega (arith, left_on_line b bs some, line_len-le bs)

  pub row_line : (left : ℕ) (text : List ℕ) → left ≤ line_len text → row_len part left text ≤ line_len text
  row_line left [] le = omega arith
  row_line (suc left) (b ∷ bs) le =
      line_from b (row_len part left bs) bs (line_head b left bs le) (row_line left bs (line_tail b left bs le))
  row_line zero (b ∷ bs) le =
      cond_both (nat_lt 0 (part (b ∷ bs))) (suc (row_len part (part (b ∷ bs) - 1) bs)) 0 (λ n. n ≤ line_len (b ∷ bs))
      (λ yes.
      let some = ltb-true 0 (part (b ∷ bs)) yes in
      let on = is.on_line (b ∷ bs) in
      line_from b _ bs (line_head b (part (b ∷ bs) - 1) bs (omega (arith, on, some)))
      (row_line (part (b ∷ bs) - 1) bs (left_on_line b bs some)))
      (λ no. omega arith)

  pub row_left : (left : ℕ) (text : List ℕ) → left ≤ length text → left ≤ row_len part left text
  row_left left [] le = le
  row_left (suc left) (b ∷ bs) le = let rest = row_left left bs (omega arith) in omega arith
  row_left zero (b ∷ bs) le = omega arith

  pub row_skip : (left : ℕ) (text : List ℕ) → left ≤ length text → row_len part left text ≡ left + row_len part 0 (drop left text)
  row_skip zero text le = omega arith
  row_skip (suc left) [] le = absurd (omega arith)
  row_skip (suc left) (b ∷ bs) le = let rest = row_skip left bs (omega arith) in omega arith

  pub part_in_row : (text : List ℕ) → part text ≤ row_len part 0 text
  part_in_row [] = is.on_line []
  part_in_row (b ∷ bs) =
      let p = part (b ∷ bs) in
      cond_both (nat_lt 0 p) (suc (row_len part (p - 1) bs)) 0 (λ n. p ≤ n)
      (λ yes. let some = ltb-true 0 p yes in let rest = row_left (p - 1) bs (left_in_text b bs some) in omega arith)
      (λ no. ltb-false 0 p no)

  -- two parts at least
  pub two_in_row : (a b : ℕ) (bs : List ℕ) → 0 < part (a ∷ b ∷ bs) → 0 < part (b ∷ bs) → 2 ≤ row_len part 0 (a ∷ b ∷ bs)
  two_in_row a b bs first second =
      let p = part (a ∷ b ∷ bs) in
      let rest = row_skip (p - 1) (b ∷ bs) (left_in_text a (b ∷ bs) first) in
      let whole = cond-true (nat_lt 0 p) (suc (row_len part (p - 1) (b ∷ bs))) 0 (lt-ltb 0 p first) in
      ⊎_elim
      (λ (one : p - 1 ≡ 0).
      let same : row_len part (p - 1) (b ∷ bs) ≡ row_len part 0 (b ∷ bs) = ap (λ k. row_len part k (b ∷ bs)) one in
      omega (arith, part_in_row (b ∷ bs), same, whole))
      (λ (more : p - 1 ≡ 0 → ⊥). omega (arith, part_in_row (a ∷ b ∷ bs)))
      (cases_eq (p - 1) 0)

  pub row_passes : (left : ℕ) (text : List ℕ) → left ≤ length text → is_row part left (take (row_len part left text) text) ≡ true
  row_passes zero [] le = refl
  row_passes (suc left) [] le = absurd (omega arith)
  row_passes (suc left) (b ∷ bs) le = row_passes left bs (omega arith)
  row_passes zero (b ∷ bs) le =
      let p = part (b ∷ bs) in
      let r = row_len part (p - 1) bs in
      cond_both (nat_lt 0 p) (suc r) 0 (λ n. is_row part 0 (take n (b ∷ bs)) ≡ true)
      (λ yes.
      let some = ltb-true 0 p yes in
      let short = left_in_text b bs some in
      let at_least = row_left (p - 1) bs short in
      let same = is.kept (b ∷ bs) (suc r) (omega arith) (omega (arith, at_least)) in
      subst (λ q. (nat_lt 0 q && is_row part (q - 1) (take r bs)) ≡ true) (sym same)
      (and_from (nat_lt 0 p) (is_row part (p - 1) (take r bs)) yes (row_passes (p - 1) bs short)))
      (λ no. refl)

  pub row_fails : (left : ℕ) (text : List ℕ) (m : ℕ) → left ≤ length text → row_len part left text < m → m ≤ length text
      → is_row part left (take m text) ≡ false
  row_fails left [] m le above below = absurd (omega arith)
  row_fails left (b ∷ bs) zero le above below = absurd (omega arith)
  row_fails (suc left) (b ∷ bs) (suc m) le above below = row_fails left bs m (omega arith) (omega arith) (omega arith)
  row_fails zero (b ∷ bs) (suc m) le above below =
      let p = part (b ∷ bs) in
      let r = row_len part (p - 1) bs in
      let P : ℕ → Type 0 = λ n. n < suc m → is_row part 0 (b ∷ take m bs) ≡ false in
      cond_both (nat_lt 0 p) (suc r) 0 P
      (λ yes over.
      let some = ltb-true 0 p yes in
      let short = left_in_text b bs some in
      let at_least = row_left (p - 1) bs short in
      let same = is.kept (b ∷ bs) (suc m) (omega arith) (omega (arith, at_least)) in
      subst (λ q. (nat_lt 0 q && is_row part (q - 1) (take m bs)) ≡ false) (sym same)
      (and_right (nat_lt 0 p) (is_row part (p - 1) (take m bs)) (row_fails (p - 1) bs m short (omega arith) (omega arith))))
      (λ no over.
      let none = ltb-false 0 p no in
      let same = is.kept (b ∷ bs) (suc m) (omega arith) (omega (arith, none)) in
      subst (λ q. (nat_lt 0 q && is_row part (q - 1) (take m bs)) ≡ false) (sym same)
      (and_left (nat_lt 0 p) (is_row part (p - 1) (take m bs)) no))
      above

  pub part_fits : (text : List ℕ) (i n : ℕ) → i < length text → n ≡ part (drop i text) → i + n ≤ length text
  part_fits text i n lt same = omega (arith, is.on_line (drop i text), line_len-le (drop i text), length-drop i text)

  -- one part more, as a loop reads it
  pub row_more : (text : List ℕ) (i n : ℕ) → i < length text → n ≡ part (drop i text) → 0 < n
      → row_len part 0 (drop i text) ≡ n + row_len part 0 (drop (i + n) text)
  row_more text i n lt same some =
      subst (λ xs. n ≡ part xs → row_len part 0 xs ≡ n + row_len part 0 (drop n xs)) (sym (drop_more text i 0 lt))
      (λ is_part.
      let b = get_or text i 0 in
      let bs = drop (i + 1) text in
      let p = part (b ∷ bs) in
      let yes : nat_lt 0 p ≡ true = lt-ltb 0 p (omega (arith, is_part)) in
      let short = left_in_text b bs (omega (arith, is_part)) in
      let whole : suc (p - 1) ≡ n = omega (arith, is_part) in
      cond-true (nat_lt 0 p) (suc (row_len part (p - 1) bs)) 0 yes
      ∙ subst (λ k. suc (row_len part (p - 1) bs) ≡ k + row_len part 0 (drop k (b ∷ bs))) whole
      (row_skip (suc (p - 1)) (b ∷ bs) (omega (arith, short)))) same
      ∙ ap (λ xs. n + row_len part 0 xs) (drop-drop n i text)

  pub no_row : (text : List ℕ) → part text ≡ 0 → row_len part 0 text ≡ 0
  no_row [] e = refl
  no_row (b ∷ bs) e = cond-false (nat_lt 0 (part (b ∷ bs))) (suc (row_len part (part (b ∷ bs) - 1) bs)) 0 (le-ltb 0 (part (b ∷ bs)) (omega arith))

  -- no part more
  pub row_none : (text : List ℕ) (i n : ℕ) → n ≡ part (drop i text) → n ≡ 0 → row_len part 0 (drop i text) ≡ 0
  row_none text i n same none = no_row (drop i text) (sym same ∙ none)
