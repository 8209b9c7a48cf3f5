-- The longest prefix that passes a test.
use Rattle.std.proofs.Common.{◌≡◌, ℕ, zero, suc, ◌-◌, ◌<◌, ◌≤◌, Bool, true, false, List, [], ◌∷◌, length, take, ◌==◌, refl, sym, ap, ◌∙◌, subst, arith, ⊎_elim, ◌⊎◌}
use Rattle.std.proofs.lemmas.List.{take-take, length-take-le}
use Rattle.std.proofs.lemmas.Bool.{cond-true, cond-false, cases_eq}
use Rattle.inc_token.specs.Spellings.{is_empty}
use Rattle.inc_token.specs.TokenLines.{longest_within, longest, line_part}
use Rattle.inc_token.proofs.FrontPieces.{line_len}
use Rattle.inc_token.proofs.Rows.{line_len-le, line_from}

-- the prefix of n bytes, none of them LF, is the longest that passes; n is 0 where none does
pub record IsLongest (test : List ℕ → Bool) (text : List ℕ) (n : ℕ) : Type 0 where
  pub within : n ≤ line_len text
  pub passes : 0 < n → test (take n text) ≡ true
  pub fails : (m : ℕ) → n < m → m ≤ length text → test (take m text) ≡ false

longest_within_is : (test : List ℕ → Bool) (text : List ℕ) (n k : ℕ) → n ≤ k → k ≤ length text
    → (0 < n → test (take n text) ≡ true)
    → ((m : ℕ) → n < m → m ≤ length text → test (take m text) ≡ false)
    → longest_within test text k ≡ n
longest_within_is test text n zero le short passes fails = omega arith
longest_within_is test text n (suc k) le short passes fails =
    ⊎_elim
    (λ (same : n ≡ suc k).
    let here : test (take (suc k) text) ≡ true = subst (λ j. test (take j text) ≡ true) same (passes (omega arith)) in
    cond-true (test (take (suc k) text)) (suc k) (longest_within test text k) here ∙ sym same)
    (λ (other : n ≡ suc k → ⊥).
    let gap : n ≤ k = omega arith in
    cond-false (test (take (suc k) text)) (suc k) (longest_within test text k) (fails (suc k) (omega arith) short)
    ∙ longest_within_is test text n k gap (omega arith) passes fails)
    (cases_eq n (suc k))

pub take-line_part : (text : List ℕ) (m : ℕ) → m ≤ line_len text → take m (line_part text) ≡ take m text
take-line_part text m le = take-take m (line_len text) text le

pub length-line_part : (text : List ℕ) → length (line_part text) ≡ line_len text
length-line_part text = length-take-le (line_len text) text (line_len-le text)

pub longest_on_line : (test : List ℕ → Bool) (text : List ℕ) (n : ℕ) → IsLongest test text n → longest test (line_part text) ≡ n
longest_on_line test text n is =
    let size = length-line_part text in
    let short = line_len-le text in
    let within = is.within in
    longest_within_is test (line_part text) n (length (line_part text)) (omega arith) (omega arith)
    (λ some. ap test (take-line_part text n within) ∙ is.passes some)
    (λ m above below. ap test (take-line_part text m (omega arith)) ∙ is.fails m above (omega arith))

-- What a test says of a text by its first byte.

fails_behind : (test : List ℕ → Bool) (b n : ℕ) (bs : List ℕ) → ((j : ℕ) → n ≤ j → j ≤ length bs → test (b ∷ take j bs) ≡ false)
    → (m : ℕ) → n < m → m ≤ length (b ∷ bs) → test (take m (b ∷ bs)) ≡ false
fails_behind test b n bs f zero above below = absurd (omega arith)
fails_behind test b n bs f (suc j) above below = f j (omega arith) (omega arith)

pub longest_empty : (test : List ℕ → Bool) → IsLongest test [] 0
longest_empty test = record { within = omega arith; passes = λ some. absurd (omega arith); fails = λ m above below. absurd (omega arith) }

pub longest_none : (test : List ℕ → Bool) (b : ℕ) (bs : List ℕ) → ((m : ℕ) → test (b ∷ take m bs) ≡ false) → IsLongest test (b ∷ bs) 0
longest_none test b bs f = record {
  within = omega arith;
  passes = λ some. absurd (omega arith);
  fails = fails_behind test b 0 bs (λ j _ _. f j);
}

pub longest_same : (test other : List ℕ → Bool) (b : ℕ) (bs : List ℕ) (n : ℕ) → ((m : ℕ) → test (b ∷ take m bs) ≡ other (b ∷ take m bs))
    → IsLongest other (b ∷ bs) n → IsLongest test (b ∷ bs) n
longest_same test other b bs zero same is = record {
  within = omega arith;
  passes = λ some. absurd (omega arith);
  fails = fails_behind test b 0 bs (λ j above below. same j ∙ is.fails (suc j) (omega arith) (omega arith));
}
longest_same test other b bs (suc n) same is = record {
  within = is.within;
  passes = λ some. same n ∙ is.passes some;
  fails = fails_behind test b (suc n) bs (λ j above below. same j ∙ is.fails (suc j) (omega arith) (omega arith));
}

-- one byte more, where there is a prefix
abbrev pub next : ℕ → ℕ
next zero = 0
next (suc k) = suc (suc k)

fails_later : (test other : List ℕ → Bool) (b : ℕ) (bs : List ℕ) → ((m : ℕ) → test (b ∷ take m bs) ≡ other (take m bs)) → other [] ≡ false
    → IsLongest other bs 0 → (j : ℕ) → j ≤ length bs → test (b ∷ take j bs) ≡ false
fails_later test other b bs same empty is zero below = same 0 ∙ empty
fails_later test other b bs same empty is (suc j) below = same (suc j) ∙ is.fails (suc j) (omega arith) below

pub longest_step : (test other : List ℕ → Bool) (b : ℕ) (bs : List ℕ) (k : ℕ) → (b == 10) ≡ false
    → ((m : ℕ) → test (b ∷ take m bs) ≡ other (take m bs)) → other [] ≡ false
    → IsLongest other bs k → IsLongest test (b ∷ bs) (next k)
longest_step test other b bs zero ne same empty is = record {
  within = omega arith;
  passes = λ some. absurd (omega arith);
  fails = fails_behind test b 0 bs (λ j _ below. fails_later test other b bs same empty is j below);
}
longest_step test other b bs (suc k) ne same empty is = record {
  within = line_from b (suc k) bs ne is.within;
  passes = λ some. same (suc k) ∙ is.passes (omega arith);
  fails = fails_behind test b (suc (suc k)) bs (λ j above below. same j ∙ is.fails j (omega arith) below);
}

-- the first byte alone too, or a longer prefix
pub longest_behind_first : (test other : List ℕ → Bool) (b : ℕ) (bs : List ℕ) (k : ℕ) → (b == 10) ≡ false
    → ((m : ℕ) → test (b ∷ take m bs) ≡ other (take m bs)) → (0 < suc k → other (take k bs) ≡ true)
    → IsLongest other bs k → IsLongest test (b ∷ bs) (suc k)
longest_behind_first test other b bs k ne same passes is = record {
  within = line_from b k bs ne is.within;
  passes = λ some. same k ∙ passes some;
  fails = fails_behind test b (suc k) bs (λ j above below. same j ∙ is.fails j (omega arith) below);
}

some_left : (j : ℕ) (bs : List ℕ) → 0 < j → j ≤ length bs → is_empty (take j bs) ≡ false
some_left zero bs some below = absurd (omega arith)
some_left (suc j) [] some below = absurd (omega arith)
some_left (suc j) (b ∷ bs) some below = refl

pub longest_here : (test : List ℕ → Bool) (b : ℕ) (bs : List ℕ) → (b == 10) ≡ false → ((m : ℕ) → test (b ∷ take m bs) ≡ is_empty (take m bs))
    → IsLongest test (b ∷ bs) 1
longest_here test b bs ne same = record {
  within = line_from b 0 bs ne (omega arith);
  passes = λ some. same 0;
  fails = fails_behind test b 1 bs (λ j above below. same j ∙ some_left j bs (omega arith) below);
}

nothing : (n : ℕ) → 0 - n ≡ 0
nothing n = omega arith

one_less : (r n : ℕ) → suc n < r → suc (r - suc n) ≡ r - n
one_less r n lt = omega arith

-- a length that counts n + 1 bytes before, or 0
next_suc : (k m : ℕ) → suc k ≡ m → next m ≡ suc m
next_suc k m e = subst (λ j. next j ≡ suc j) e refl

pub next_from : (r n : ℕ) → ((r ≡ 0) ⊎ (suc n < r)) → next (r - suc n) ≡ r - n
next_from r n h =
    ⊎_elim
    (λ (none : r ≡ 0). subst (λ q. next (q - suc n) ≡ q - n) (sym none) (ap next (nothing (suc n)) ∙ sym (nothing n)))
    (λ (some : suc n < r). next_suc (r - suc n - 1) (r - suc n) (omega arith) ∙ one_less r n some) h
