-- No line of a certificate has more than 8,192 bytes, so that one which has more breaks it off, wherever it ends.
use Rattle.std.proofs.Common.{◌≡◌, ℕ, ◌+◌, ◌<◌, ◌≤◌, Bool, true, false, cond, List, [], ◌∷◌, ◌++◌, Option, Some, None, length, take, refl, sym, ap, ◌∙◌, arith}
use Rattle.std.specs.Prelude.{◌==◌, nat_lt, codes, decimal, position, if◌then◌else◌}
use Rattle.std.specs.List.{position_from}
use Rattle.std.proofs.lemmas.List.{length-append, length-take-le}
use Rattle.inc_lookup.proofs.ListingLemmas.{position-none-append}
use Rattle.inc_graph.specs.Marks.{Mark}
use Rattle.inc_check.specs.declared.ahead.TheConstants.{LONGEST_LINE}
use Rattle.inc_check.specs.declared.line_parts.ChainHead.{ChainHead}
use Rattle.inc_check.specs.declared.read_texts.Stage.{Stage}
use Rattle.inc_check.specs.declared.read_texts.Stage.TheVariants.{Start, Cut, Chains, Chain}
use Rattle.inc_check.specs.Texts.{greatest_number, count_line, times_text, IsMalformed}
use Rattle.inc_check.specs.CertificateText.{CertificateFormat}
use Rattle.inc_check.specs.Reading.{State, step, with_mark, with_cut, with_chains, with_chain, with_next, with_head, short_mark_in, number_behind, head_in}
use Rattle.inc_check.proofs.WordLemmas.{if_some, head_line, number_behind-Some, head_in-Some}
use Rattle.inc_check.proofs.ShortMarks.{length-decimal, short_mark_in-length}
use Rattle.inc_check.proofs.LineLemmas.{first_line}
use Rattle.inc_check.proofs.CertificateTexts.{HasRead, bad_line, bad_end}

---- how long lines are

times_length : (k : ℕ) → k ≤ greatest_number → length (times_text k) ≤ 17
times_length k few = when (k == 1)
  where
    when : (one : Bool) → length (if one then [] else codes " times " ++ decimal k) ≤ 17
    when true = omega arith
    when false = let digits = length-decimal k few in omega arith

head_length : (n k : ℕ) → n ≤ greatest_number → k ≤ greatest_number → length (head_line n k) ≤ 33
head_length n k low few =
    let all = length-append (count_line (codes "chain") n) (times_text k) in
    let digits = length-decimal n low in
    let times = times_length k few in
    omega arith

-- a line that fits is no longer than one that names a directive
module _ (s t : State) (l : List ℕ) where
  mark_short : (o : Option Mark) → short_mark_in l ≡ o → with_mark s o ≡ Some t → length l ≤ LONGEST_LINE
  mark_short None is e = cc
  mark_short (Some m) is e =
      short_mark_in-length l m is

  word_short : (word : List ℕ) → length word ≤ 7 → (o : Option ℕ) → number_behind word l ≡ o → (o ≡ None → ⊥)
      → length l ≤ LONGEST_LINE
  word_short word few None is some = absurd (some refl)
  word_short word few (Some n) is some =
      let parts = number_behind-Some word l n is in
      let digits = length-decimal n parts.1 in
      let all = length-append word (decimal n) in
      let same = ap length parts.0 in
      omega arith

  chain_short : (o : Option ChainHead) → head_in l ≡ o → with_chain s o ≡ Some t → length l ≤ LONGEST_LINE
  chain_short None is e = cc
  chain_short (Some h) is e =
      let parts = head_in-Some l h is in
      let low = head_length h.length h.count parts.1 parts.3 in
      let same = ap length parts.0 in
      omega arith

  next_short : with_next s l ≡ Some t → length l ≤ LONGEST_LINE
  next_short e = chain_short (head_in l) refl (if_some (nat_lt 0 s.chains_left) (with_chain s (head_in l)) t e).1

  head_short : (st : Stage) → with_head st s l ≡ Some t → length l ≤ LONGEST_LINE
  head_short Start e =
      let n : Option ℕ = number_behind (codes "cut ") l in
      word_short (codes "cut ") (omega arith) n refl (λ none. never n none e)
    where
      never : (o : Option ℕ) → o ≡ None → with_cut s o ≡ Some t → ⊥
      never None none f = cc
      never (Some n) none f = cc
  head_short Cut e =
      let n : Option ℕ = number_behind (codes "chains ") l in
      word_short (codes "chains ") (omega arith) n refl (λ none. never n none e)
    where
      never : (o : Option ℕ) → o ≡ None → with_chains s o ≡ Some t → ⊥
      never None none f = cc
      never (Some n) none f = cc
  head_short Chains e = next_short e
  head_short Chain e = next_short e

  step_short : step s l ≡ Some t → length l ≤ LONGEST_LINE
  step_short e = by_left (nat_lt 0 s.marks_left) e
    where
      by_left : (b : Bool) → (if b then with_mark s (short_mark_in l) else with_head s.stage s l) ≡ Some t
          → length l ≤ LONGEST_LINE
      by_left true f = mark_short (short_mark_in l) refl f
      by_left false f = head_short s.stage f

---- lines that are longer

too_long : (s : State) (l : List ℕ) → LONGEST_LINE < length l → step s l ≡ None
too_long s l long = when (step s l) refl
  where
    when : (o : Option State) → step s l ≡ o → o ≡ None
    when None is = refl
    when (Some t) is = let short = step_short s t l is in absurd (omega arith)

from_on : (ys : List ℕ) (k n : ℕ) → position_from (λ b. b == 10) k ys ≡ Some n → k ≤ n
from_on [] k n e = cc
from_on (y ∷ ys) k n e = by_test (y == 10) (position_from (λ b. b == 10) (k + 1) ys) (λ f. from_on ys (k + 1) n f) e
  where
    by_test : (b : Bool) (o : Option ℕ) → (o ≡ Some n → k + 1 ≤ n) → cond b (Some k) o ≡ Some n → k ≤ n
    by_test true o more f = let same : k ≡ n = cc in omega arith
    by_test false o more f = let low = more f in omega arith

-- the first LF is not in a front that has none
beyond : (rest more : List ℕ) (n : ℕ) → position (λ b. b == 10) rest ≡ None
    → position (λ b. b == 10) (rest ++ more) ≡ Some n → length rest ≤ n
beyond rest more n open' at =
    from_on more (length rest) n (sym (position-none-append (λ b. b == 10) rest more open') ∙ at)

-- where what is held has no LF, and more bytes than a line, the text is malformed whatever comes after it
pub long_line : (text more : List ℕ) (s : State) (line : ℕ) (rest : List ℕ) → HasRead (text ++ more) s line (rest ++ more)
    → position (λ b. b == 10) rest ≡ None → LONGEST_LINE < length rest → IsMalformed CertificateFormat (text ++ more) line
long_line text more s line rest h open' long = when (position (λ b. b == 10) (rest ++ more)) refl
  where
    when : (o : Option ℕ) → position (λ b. b == 10) (rest ++ more) ≡ o
        → IsMalformed CertificateFormat (text ++ more) line
    when None at =
        let all = length-append rest more in
        bad_end (text ++ more) s line (rest ++ more) h at (λ none. let size = ap length none in absurd (omega arith))
    when (Some n) at =
        let cut = first_line (rest ++ more) n at in
        let behind : length rest ≤ n = beyond rest more n open' at in
        let size = length-take-le n (rest ++ more) (omega (arith, cut.2)) in
        bad_line (text ++ more) s line (rest ++ more) n h at (too_long s (take n (rest ++ more)) (omega arith))
