-- Punctuators: the longest member of a list of texts at the front, byte by byte.
use Rattle.std.proofs.Common.{◌≡◌, ℕ, zero, suc, ◌+◌, Bool, true, false, ◌&&◌, ◌||◌, not, List, [], ◌∷◌, length, take, drop, get_or, cond, nat_lt, nat_le, ◌==◌, refl, sym, ap, ◌∙◌, subst, arith, ⊎_elim}
use Rattle.std.specs.List.{list_any, list_all}
use Rattle.std.specs.Str.{bytes_eq}
use Rattle.std.proofs.lemmas.Bool.{cond-true, cond-false, cond_both, cases_Bool, and_parts, and_from, and_left, or_parts, or_from, eqb-true, leb-true, le-leb, both_ways, not-true, not_from_true, lt-ltb}
use Rattle.std.proofs.lemmas.List.{get_or-drop}
use Rattle.inc_token.specs.Spellings.{is_empty, punctuators, is_punct}
use Rattle.inc_token.specs.Scanning.{after_byte, member_len, punctuator_len, symbol_len}
use Rattle.inc_token.proofs.Rows.{differs}
use Rattle.inc_token.proofs.Longest.{IsLongest, longest_empty, longest_none, longest_step, longest_behind_first}

-- the text is one of the list
abbrev pub is_member : List (List ℕ) → List ℕ → Bool
is_member ps text = list_any (bytes_eq text) ps

members_behind : (b : ℕ) (bs : List ℕ) (ps : List (List ℕ)) → is_member ps (b ∷ bs) ≡ is_member (after_byte b ps) bs
members_behind b bs [] = refl
members_behind b bs ([] ∷ others) = members_behind b bs others
members_behind b bs ((p ∷ ps) ∷ others) =
    let rest = members_behind b bs others in
    ⊎_elim
    (λ (same : (b == p) ≡ true).
    ap (λ t. (t && bytes_eq bs ps) || is_member others (b ∷ bs)) same ∙ ap (λ t. bytes_eq bs ps || t) rest
    ∙ sym (ap (λ qs. is_member qs bs) (cond-true (b == p) (ps ∷ after_byte b others) (after_byte b others) same)))
    (λ (other : (b == p) ≡ false).
    ap (λ t. (t && bytes_eq bs ps) || is_member others (b ∷ bs)) other ∙ rest
    ∙ sym (ap (λ qs. is_member qs bs) (cond-false (b == p) (ps ∷ after_byte b others) (after_byte b others) other)))
    (cases_Bool (b == p))

members_empty : (ps : List (List ℕ)) → is_member ps [] ≡ list_any is_empty ps
members_empty [] = refl
members_empty ([] ∷ others) = refl
members_empty ((p ∷ ps) ∷ others) = members_empty others

-- no text of the list has an LF
abbrev is_plain : List (List ℕ) → Bool
is_plain ps = list_all (λ p. list_all (λ b. not (b == 10)) p) ps

plain_behind : (b : ℕ) (ps : List (List ℕ)) → is_plain ps ≡ true → is_plain (after_byte b ps) ≡ true
plain_behind b [] plain = refl
plain_behind b ([] ∷ others) plain = plain_behind b others plain
plain_behind b ((p ∷ ps) ∷ others) plain =
    let parts = and_parts (not (p == 10) && list_all (λ x. not (x == 10)) ps) (is_plain others) plain in
    let rest = plain_behind b others parts.1 in
    cond_both (b == p) (ps ∷ after_byte b others) (after_byte b others) (λ qs. is_plain qs ≡ true)
    (λ _. let first = and_parts (not (p == 10)) (list_all (λ x. not (x == 10)) ps) parts.0 in
    and_from (list_all (λ x. not (x == 10)) ps) (is_plain (after_byte b others)) first.1 rest)
    (λ _. rest)

-- so none goes on after an LF
none_behind_line : (b : ℕ) (ps : List (List ℕ)) → (b == 10) ≡ true → is_plain ps ≡ true → after_byte b ps ≡ []
none_behind_line b [] line plain = refl
none_behind_line b ([] ∷ others) line plain = none_behind_line b others line plain
none_behind_line b ((p ∷ ps) ∷ others) line plain =
    let parts = and_parts (not (p == 10) && list_all (λ x. not (x == 10)) ps) (is_plain others) plain in
    let first = and_parts (not (p == 10)) (list_all (λ x. not (x == 10)) ps) parts.0 in
    let rest = none_behind_line b others line parts.1 in
    cond_both (b == p) (ps ∷ after_byte b others) (after_byte b others) (λ qs. qs ≡ [])
    (λ same.
    let at_p : (p == 10) ≡ true = ap (λ x. x == 10) (sym (eqb-true b p same)) ∙ line in
    absurd (both_ways (not (p == 10)) (not_from_true (p == 10) at_p) first.0))
    (λ _. rest)

-- the longest after the first byte, or the first byte alone
one_more : (test other : List ℕ → Bool) (b : ℕ) (bs : List ℕ) (n : ℕ) (alone : Bool) → (b == 10) ≡ false
    → ((m : ℕ) → test (b ∷ take m bs) ≡ other (take m bs)) → other [] ≡ alone → IsLongest other bs n
    → IsLongest test (b ∷ bs) (cond (nat_lt 0 n) (suc n) (cond alone 1 0))
one_more test other b bs zero false ne same empty is = longest_step test other b bs 0 ne same empty is
one_more test other b bs zero true ne same empty is = longest_behind_first test other b bs 0 ne same (λ _. empty) is
one_more test other b bs (suc n) alone ne same empty is =
    subst (IsLongest test (b ∷ bs)) (sym (cond-true (nat_lt 0 (suc n)) (suc (suc n)) (cond alone 1 0) (lt-ltb 0 (suc n) (omega arith))))
    (longest_behind_first test other b bs (suc n) ne same (λ some. is.passes (omega arith)) is)

pub longest_member : (ps : List (List ℕ)) (text : List ℕ) → is_plain ps ≡ true → IsLongest (is_member ps) text (member_len ps text)
unfolding member_len
longest_member [] [] plain = longest_empty (is_member [])
longest_member [] (b ∷ bs) plain = longest_none (is_member []) b bs (λ _. refl)
longest_member (p ∷ ps) [] plain = longest_empty (is_member (p ∷ ps))
longest_member (p ∷ ps) (b ∷ bs) plain =
    let all = p ∷ ps in
    let test = is_member all in
    let rest = after_byte b all in
    let chosen = λ (qs : List (List ℕ)). cond (nat_lt 0 (member_len qs bs)) (suc (member_len qs bs)) (cond (list_any is_empty qs) 1 0) in
    let is = longest_member rest bs (plain_behind b all plain) in
    ⊎_elim
    (λ (line : (b == 10) ≡ true).
    let none = none_behind_line b all line plain in
    subst (λ qs. IsLongest test (b ∷ bs) (chosen qs)) (sym none)
    (longest_none test b bs (λ m. members_behind b (take m bs) all ∙ ap (λ qs. is_member qs (take m bs)) none)))
    (λ (other : (b == 10) ≡ false).
    one_more test (is_member rest) b bs (member_len rest bs) (list_any is_empty rest) other
    (λ m. members_behind b (take m bs) all) (members_empty rest) is)
    (cases_Bool (b == 10))

pub longest_punctuator : (text : List ℕ) → IsLongest is_punct text (punctuator_len text)
longest_punctuator text = longest_member punctuators text refl

-- the first n bytes of a text, with 0 for each after its end
abbrev padded : ℕ → List ℕ → List ℕ
padded zero text = []
padded (suc n) [] = 0 ∷ padded n []
padded (suc n) (b ∷ bs) = b ∷ padded n bs

-- each text of the list has at most n bytes, and none of them is 0
abbrev is_short : ℕ → List (List ℕ) → Bool
is_short n ps = list_all (λ p. nat_le (length p) n && list_all (λ b. nat_lt 0 b) p) ps

short_behind : (n b : ℕ) (ps : List (List ℕ)) → is_short (suc n) ps ≡ true → is_short n (after_byte b ps) ≡ true
short_behind n b [] short = refl
short_behind n b ([] ∷ others) short =
    let parts = and_parts (nat_le 0 (suc n) && true) (is_short (suc n) others) short in short_behind n b others parts.1
short_behind n b ((p ∷ ps) ∷ others) short =
    let parts = and_parts (nat_le (suc (length ps)) (suc n) && (nat_lt 0 p && list_all (λ x. nat_lt 0 x) ps)) (is_short (suc n) others) short in
    let first = and_parts (nat_le (suc (length ps)) (suc n)) (nat_lt 0 p && list_all (λ x. nat_lt 0 x) ps) parts.0 in
    let bytes = and_parts (nat_lt 0 p) (list_all (λ x. nat_lt 0 x) ps) first.1 in
    let rest = short_behind n b others parts.1 in
    cond_both (b == p) (ps ∷ after_byte b others) (after_byte b others) (λ qs. is_short n qs ≡ true)
    (λ _. and_from (nat_le (length ps) n && list_all (λ x. nat_lt 0 x) ps) (is_short n (after_byte b others))
    (and_from (nat_le (length ps) n) (list_all (λ x. nat_lt 0 x) ps)
    (le-leb (length ps) n (let le = leb-true (suc (length ps)) (suc n) first.0 in omega arith)) bytes.1) rest)
    (λ _. rest)

none_behind_zero : (n : ℕ) (ps : List (List ℕ)) → is_short n ps ≡ true → after_byte 0 ps ≡ []
none_behind_zero n [] short = refl
none_behind_zero n ([] ∷ others) short =
    let parts = and_parts (nat_le 0 n && true) (is_short n others) short in none_behind_zero n others parts.1
none_behind_zero n ((p ∷ ps) ∷ others) short =
    let parts = and_parts (nat_le (suc (length ps)) n && (nat_lt 0 p && list_all (λ x. nat_lt 0 x) ps)) (is_short n others) short in
    let first = and_parts (nat_le (suc (length ps)) n) (nat_lt 0 p && list_all (λ x. nat_lt 0 x) ps) parts.0 in
    let bytes = and_parts (nat_lt 0 p) (list_all (λ x. nat_lt 0 x) ps) first.1 in
    cond_both (0 == p) (ps ∷ after_byte 0 others) (after_byte 0 others) (λ qs. qs ≡ [])
    (λ same. absurd (let e = eqb-true 0 p same in let lt = leb-true 1 p bytes.0 in omega arith))
    (λ _. none_behind_zero n others parts.1)

none_behind : (b : ℕ) (ps : List (List ℕ)) → is_short 0 ps ≡ true → after_byte b ps ≡ []
none_behind b [] short = refl
none_behind b ([] ∷ others) short = none_behind b others short
none_behind b ((p ∷ ps) ∷ others) short =
    let parts = and_parts (nat_le (suc (length ps)) 0 && (nat_lt 0 p && list_all (λ x. nat_lt 0 x) ps)) (is_short 0 others) short in
    let first = and_parts (nat_le (suc (length ps)) 0) (nat_lt 0 p && list_all (λ x. nat_lt 0 x) ps) parts.0 in
    absurd (let le = leb-true (suc (length ps)) 0 first.0 in omega arith)

nothing_left : (ps : List (List ℕ)) (bs : List ℕ) → ps ≡ []
    → cond (nat_lt 0 (member_len ps bs)) (suc (member_len ps bs)) (cond (list_any is_empty ps) 1 0) ≡ 0
unfolding member_len
nothing_left ps bs none =
    subst (λ qs. cond (nat_lt 0 (member_len qs bs)) (suc (member_len qs bs)) (cond (list_any is_empty qs) 1 0) ≡ 0) (sym none) refl

member_len-padded : (n : ℕ) (ps : List (List ℕ)) (text : List ℕ) → is_short n ps ≡ true → member_len ps text ≡ member_len ps (padded n text)
unfolding member_len
member_len-padded n [] text short = refl
member_len-padded zero (p ∷ ps) [] short = refl
member_len-padded zero (p ∷ ps) (b ∷ bs) short = nothing_left (after_byte b (p ∷ ps)) bs (none_behind b (p ∷ ps) short)
member_len-padded (suc n) (p ∷ ps) [] short = sym (nothing_left (after_byte 0 (p ∷ ps)) (padded n []) (none_behind_zero (suc n) (p ∷ ps) short))
member_len-padded (suc n) (p ∷ ps) (b ∷ bs) short =
    let rest = after_byte b (p ∷ ps) in
    ap (λ k. cond (nat_lt 0 k) (suc k) (cond (list_any is_empty rest) 1 0)) (member_len-padded n rest bs (short_behind n b (p ∷ ps) short))

pub punctuator_len-padded : (text : List ℕ) → punctuator_len text ≡ member_len punctuators (padded 4 text)
punctuator_len-padded text = member_len-padded 4 punctuators text refl

-- The lengths of the punctuators by their bytes. Each first byte is a case of its own, in which the list computes.

at_value : (P : ℕ → Type 0) (k b : ℕ) → P k → ((b == k) ≡ false → P b) → P b
at_value P k b here elsewhere =
    ⊎_elim (λ (same : (b == k) ≡ true). subst P (sym (eqb-true b k same)) here) (λ (other : (b == k) ≡ false). elsewhere other) (cases_Bool (b == k))

-- the scanner's length is that of the longest member, at a first byte a
abbrev IsLen : ℕ → ℕ → ℕ → ℕ → Type 0
IsLen a b c d = symbol_len a b c d ≡ member_len punctuators (a ∷ b ∷ c ∷ d ∷ [])

first_91 : (b c d : ℕ) → IsLen 91 b c d
unfolding member_len
first_91 b c d = refl

first_93 : (b c d : ℕ) → IsLen 93 b c d
unfolding member_len
first_93 b c d = refl

first_40 : (b c d : ℕ) → IsLen 40 b c d
unfolding member_len
first_40 b c d = refl

first_41 : (b c d : ℕ) → IsLen 41 b c d
unfolding member_len
first_41 b c d = refl

first_123 : (b c d : ℕ) → IsLen 123 b c d
unfolding member_len
first_123 b c d = refl

first_125 : (b c d : ℕ) → IsLen 125 b c d
unfolding member_len
first_125 b c d = refl

first_126 : (b c d : ℕ) → IsLen 126 b c d
unfolding member_len
first_126 b c d = refl

first_63 : (b c d : ℕ) → IsLen 63 b c d
unfolding member_len
first_63 b c d = refl

first_59 : (b c d : ℕ) → IsLen 59 b c d
unfolding member_len
first_59 b c d = refl

first_44 : (b c d : ℕ) → IsLen 44 b c d
unfolding member_len
first_44 b c d = refl

first_42 : (b c d : ℕ) → IsLen 42 b c d
unfolding member_len
first_42 b c d = at_value (λ x. IsLen 42 x c d) 61 b refl (λ b1. rw b1 refl)

first_47 : (b c d : ℕ) → IsLen 47 b c d
unfolding member_len
first_47 b c d = at_value (λ x. IsLen 47 x c d) 61 b refl (λ b1. rw b1 refl)

first_33 : (b c d : ℕ) → IsLen 33 b c d
unfolding member_len
first_33 b c d = at_value (λ x. IsLen 33 x c d) 61 b refl (λ b1. rw b1 refl)

first_94 : (b c d : ℕ) → IsLen 94 b c d
unfolding member_len
first_94 b c d = at_value (λ x. IsLen 94 x c d) 61 b refl (λ b1. rw b1 refl)

first_61 : (b c d : ℕ) → IsLen 61 b c d
unfolding member_len
first_61 b c d = at_value (λ x. IsLen 61 x c d) 61 b refl (λ b1. rw b1 refl)

first_43 : (b c d : ℕ) → IsLen 43 b c d
unfolding member_len
first_43 b c d = at_value (λ x. IsLen 43 x c d) 61 b refl (λ b1. at_value (λ x. IsLen 43 x c d) 43 b refl (λ b2. rw (b1, b2) refl))

first_38 : (b c d : ℕ) → IsLen 38 b c d
unfolding member_len
first_38 b c d = at_value (λ x. IsLen 38 x c d) 61 b refl (λ b1. at_value (λ x. IsLen 38 x c d) 38 b refl (λ b2. rw (b1, b2) refl))

first_124 : (b c d : ℕ) → IsLen 124 b c d
unfolding member_len
first_124 b c d = at_value (λ x. IsLen 124 x c d) 61 b refl (λ b1. at_value (λ x. IsLen 124 x c d) 124 b refl (λ b2. rw (b1, b2) refl))

first_45 : (b c d : ℕ) → IsLen 45 b c d
unfolding member_len
first_45 b c d = at_value (λ x. IsLen 45 x c d) 62 b refl (λ b1. at_value (λ x. IsLen 45 x c d) 45 b refl (λ b2. at_value (λ x. IsLen 45 x c d) 61 b refl (λ b3. rw (b1, b2, b3) refl)))

first_46 : (b c d : ℕ) → IsLen 46 b c d
unfolding member_len
first_46 b c d = at_value (λ x. IsLen 46 x c d) 46 b (at_value (λ x. IsLen 46 46 x d) 46 c refl (λ c1. rw c1 refl)) (λ b1. rw b1 refl)

first_35 : (b c d : ℕ) → IsLen 35 b c d
unfolding member_len
first_35 b c d = at_value (λ x. IsLen 35 x c d) 35 b refl (λ b1. rw b1 refl)

first_58 : (b c d : ℕ) → IsLen 58 b c d
unfolding member_len
first_58 b c d = at_value (λ x. IsLen 58 x c d) 62 b refl (λ b1. rw b1 refl)

first_60 : (b c d : ℕ) → IsLen 60 b c d
unfolding member_len
first_60 b c d = at_value (λ x. IsLen 60 x c d) 60 b (at_value (λ x. IsLen 60 60 x d) 61 c refl (λ c1. rw c1 refl)) (λ b1. at_value (λ x. IsLen 60 x c d) 61 b refl (λ b2. at_value (λ x. IsLen 60 x c d) 58 b refl (λ b3. at_value (λ x. IsLen 60 x c d) 37 b refl (λ b4. rw (b1, b2, b3, b4) refl))))

first_62 : (b c d : ℕ) → IsLen 62 b c d
unfolding member_len
first_62 b c d = at_value (λ x. IsLen 62 x c d) 62 b (at_value (λ x. IsLen 62 62 x d) 61 c refl (λ c1. rw c1 refl)) (λ b1. at_value (λ x. IsLen 62 x c d) 61 b refl (λ b2. rw (b1, b2) refl))

first_37 : (b c d : ℕ) → IsLen 37 b c d
unfolding member_len
first_37 b c d = at_value (λ x. IsLen 37 x c d) 58 b (at_value (λ x. IsLen 37 58 x d) 37 c (at_value (λ x. IsLen 37 58 37 x) 58 d refl (λ d1. rw d1 refl)) (λ c1. rw c1 refl)) (λ b1. at_value (λ x. IsLen 37 x c d) 61 b refl (λ b2. at_value (λ x. IsLen 37 x c d) 62 b refl (λ b3. rw (b1, b2, b3) refl)))

-- no text of the list begins with the byte
abbrev begins_with : ℕ → List ℕ → Bool
begins_with b [] = false
begins_with b (p ∷ ps) = b == p

none_behind_first : (b : ℕ) (ps : List (List ℕ)) → list_any (begins_with b) ps ≡ false → after_byte b ps ≡ []
none_behind_first b [] none = refl
none_behind_first b ([] ∷ others) none = none_behind_first b others none
none_behind_first b ((p ∷ ps) ∷ others) none =
    let parts = or_parts (b == p) (list_any (begins_with b) others) none in
    cond-false (b == p) (ps ∷ after_byte b others) (after_byte b others) parts.0 ∙ none_behind_first b others parts.1

member_len-none : (ps : List (List ℕ)) (b : ℕ) (bs : List ℕ) → list_any (begins_with b) ps ≡ false → member_len ps (b ∷ bs) ≡ 0
unfolding member_len
member_len-none [] b bs none = refl
member_len-none (p ∷ ps) b bs none = nothing_left (after_byte b (p ∷ ps)) bs (none_behind_first b (p ∷ ps) none)

pub symbol_len-is : (a b c d : ℕ) → IsLen a b c d
symbol_len-is a b c d =
    let P : ℕ → Type 0 = λ x. IsLen x b c d in
    at_value P 91 a (first_91 b c d) (λ n91.
    at_value P 93 a (first_93 b c d) (λ n93.
    at_value P 40 a (first_40 b c d) (λ n40.
    at_value P 41 a (first_41 b c d) (λ n41.
    at_value P 123 a (first_123 b c d) (λ n123.
    at_value P 125 a (first_125 b c d) (λ n125.
    at_value P 126 a (first_126 b c d) (λ n126.
    at_value P 63 a (first_63 b c d) (λ n63.
    at_value P 59 a (first_59 b c d) (λ n59.
    at_value P 44 a (first_44 b c d) (λ n44.
    at_value P 42 a (first_42 b c d) (λ n42.
    at_value P 47 a (first_47 b c d) (λ n47.
    at_value P 33 a (first_33 b c d) (λ n33.
    at_value P 94 a (first_94 b c d) (λ n94.
    at_value P 61 a (first_61 b c d) (λ n61.
    at_value P 43 a (first_43 b c d) (λ n43.
    at_value P 38 a (first_38 b c d) (λ n38.
    at_value P 124 a (first_124 b c d) (λ n124.
    at_value P 45 a (first_45 b c d) (λ n45.
    at_value P 46 a (first_46 b c d) (λ n46.
    at_value P 35 a (first_35 b c d) (λ n35.
    at_value P 58 a (first_58 b c d) (λ n58.
    at_value P 60 a (first_60 b c d) (λ n60.
    at_value P 62 a (first_62 b c d) (λ n62.
    at_value P 37 a (first_37 b c d) (λ n37.
    let listed : list_any (begins_with a) punctuators ≡ false = rw (n91, n93, n40, n41, n123, n125, n126, n63, n59, n44, n42, n47, n33, n94, n61, n43, n38, n124, n45, n46, n35, n58, n60, n62, n37) refl in
    let scanned : symbol_len a b c d ≡ 0 = rw (n91, n93, n40, n41, n123, n125, n126, n63, n59, n44, n42, n47, n33, n94, n61, n43, n38, n124, n45, n46, n35, n58, n60, n62, n37) refl in
    scanned ∙ sym (member_len-none punctuators a (b ∷ c ∷ d ∷ []) listed))))))))))))))))))))))))))

-- the test fails at the first byte of each text of the list
abbrev pub fails_at_firsts : (ℕ → Bool) → List (List ℕ) → Bool
fails_at_firsts f [] = true
fails_at_firsts f ([] ∷ others) = fails_at_firsts f others
fails_at_firsts f ((p ∷ ps) ∷ others) = not (f p) && fails_at_firsts f others

none_begins : (f : ℕ → Bool) (ps : List (List ℕ)) (b : ℕ) → fails_at_firsts f ps ≡ true → f b ≡ true → list_any (begins_with b) ps ≡ false
none_begins f [] b fails passes = refl
none_begins f ([] ∷ others) b fails passes = none_begins f others b fails passes
none_begins f ((p ∷ ps) ∷ others) b fails passes =
    let parts = and_parts (not (f p)) (fails_at_firsts f others) fails in
    or_from (b == p) (list_any (begins_with b) others) (differs f p b (not-true (f p) parts.0) passes) (none_begins f others b parts.1 passes)

-- no punctuator begins with a byte that passes the test
pub no_punctuator : (f : ℕ → Bool) (b : ℕ) (bs : List ℕ) → fails_at_firsts f punctuators ≡ true → f b ≡ true → punctuator_len (b ∷ bs) ≡ 0
no_punctuator f b bs fails passes = member_len-none punctuators b bs (none_begins f punctuators b fails passes)

padded-four : (text : List ℕ) → padded 4 text ≡ get_or text 0 0 ∷ get_or text 1 0 ∷ get_or text 2 0 ∷ get_or text 3 0 ∷ []
padded-four [] = refl
padded-four (a ∷ []) = refl
padded-four (a ∷ b ∷ []) = refl
padded-four (a ∷ b ∷ c ∷ []) = refl
padded-four (a ∷ b ∷ c ∷ d ∷ bs) = refl

pub punctuator_len-symbol : (text : List ℕ) → punctuator_len text ≡ symbol_len (get_or text 0 0) (get_or text 1 0) (get_or text 2 0) (get_or text 3 0)
punctuator_len-symbol text =
    punctuator_len-padded text ∙ ap (member_len punctuators) (padded-four text)
    ∙ sym (symbol_len-is (get_or text 0 0) (get_or text 1 0) (get_or text 2 0) (get_or text 3 0))

-- after a . that a digit follows no further one counts
pub lone_dot : (c : ℕ) (bs : List ℕ) → (c == 46) ≡ false → punctuator_len (46 ∷ c ∷ bs) ≡ 1
lone_dot c bs other =
    punctuator_len-symbol (46 ∷ c ∷ bs) ∙ cond-false ((c == 46) && (get_or bs 0 0 == 46)) 3 1 (and_left (c == 46) (get_or bs 0 0 == 46) other)

byte_behind : (text : List ℕ) (at n k x : ℕ) → at + n ≡ k → x ≡ get_or text k 0 → x ≡ get_or (drop at text) n 0
byte_behind text at n k x place is = is ∙ sym (get_or-drop at text n 0 ∙ ap (λ i. get_or text i 0) place)

-- the bytes of a punctuator, as the scanner reads them at a place
pub punctuator_len-at : (text : List ℕ) (at a b c d : ℕ) → a ≡ get_or text at 0 → b ≡ get_or text (at + 1) 0 → c ≡ get_or text (at + 2) 0
    → d ≡ get_or text (at + 3) 0 → symbol_len a b c d ≡ punctuator_len (drop at text)
punctuator_len-at text at a b c d is_a is_b is_c is_d =
    let first = byte_behind text at 0 at a (omega arith) is_a in
    let second = byte_behind text at 1 (at + 1) b refl is_b in
    let third = byte_behind text at 2 (at + 2) c refl is_c in
    let fourth = byte_behind text at 3 (at + 3) d refl is_d in
    ap (λ x. symbol_len x b c d) first ∙ ap (λ x. symbol_len (get_or (drop at text) 0 0) x c d) second
    ∙ ap (λ x. symbol_len (get_or (drop at text) 0 0) (get_or (drop at text) 1 0) x d) third
    ∙ ap (λ x. symbol_len (get_or (drop at text) 0 0) (get_or (drop at text) 1 0) (get_or (drop at text) 2 0) x) fourth
    ∙ sym (punctuator_len-symbol (drop at text))
