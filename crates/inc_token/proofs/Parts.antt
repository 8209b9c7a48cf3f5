-- The parts of identifiers and of preprocessing numbers can be read from the front.
use Rattle.std.proofs.Common.{◌≡◌, ℕ, zero, suc, ◌+◌, ◌-◌, ◌<◌, ◌≤◌, Bool, true, false, ◌&&◌, ◌||◌, List, [], ◌∷◌, length, take, drop, get_or, cond, ◌==◌, refl, sym, ap, ◌∙◌, arith, ⊎_elim}
use Rattle.std.proofs.lemmas.Bool.{cond-true, cond-false, cond_both, cases_Bool, and_parts, and_left, and_right, and_cases, false_from_ne_true, ne_eqb}
use Rattle.std.proofs.lemmas.Bool.Decides.{nat_tests}
use Rattle.std.proofs.lemmas.List.{drop_more, drop_all}
use Rattle.inc_token.specs.Spellings.{is_digit, is_hex_digit, is_letter, is_exponent_letter, begins_with_hex, universal_len, is_dollar, nonletter_len, nondigit_len, identifier_part, number_part}
use Rattle.inc_token.specs.Scanning.{begins_with_sign}
use Rattle.inc_token.proofs.FrontPieces.{line_len}
use Rattle.inc_token.proofs.Rows.{IsPart, differs, cond_kept, line_from}
use Rattle.inc_text.specs.declared.languages.Language.{Language}

hex_kept : (n k : ℕ) (bs : List ℕ) → n ≤ k → begins_with_hex n (take k bs) ≡ begins_with_hex n bs
hex_kept zero k bs le = refl
hex_kept (suc n) zero bs le = absurd (omega arith)
hex_kept (suc n) (suc k) [] le = refl
hex_kept (suc n) (suc k) (b ∷ bs) le = ap (λ t. is_hex_digit b && t) (hex_kept n k bs (omega arith))

hex_fails : (n k : ℕ) (bs : List ℕ) → begins_with_hex n bs ≡ false → begins_with_hex n (take k bs) ≡ false
hex_fails zero k bs fails = fails
hex_fails (suc n) zero bs fails = refl
hex_fails (suc n) (suc k) [] fails = refl
hex_fails (suc n) (suc k) (b ∷ bs) fails =
    ⊎_elim (λ here. and_left (is_hex_digit b) (begins_with_hex n (take k bs)) here)
    (λ later. and_right (is_hex_digit b) (begins_with_hex n (take k bs)) (hex_fails n k bs later))
    (and_cases (is_hex_digit b) (begins_with_hex n bs) fails)

hex_line : (n : ℕ) (bs : List ℕ) → begins_with_hex n bs ≡ true → n ≤ line_len bs
hex_line zero bs holds = omega arith
hex_line (suc n) [] holds = cc
hex_line (suc n) (b ∷ bs) holds =
    let parts = and_parts (is_hex_digit b) (begins_with_hex n bs) holds in
    line_from b n bs (differs is_hex_digit 10 b refl parts.0) (hex_line n bs parts.1)

-- a universal name of a test, n digits and n + 2 bytes, read from a prefix
name_kept : (t : Bool) (n j y z : ℕ) (bs : List ℕ)
    → cond (t && begins_with_hex n bs) (n + 2) y ≤ suc (suc j)
    → (y ≤ suc (suc j) → z ≡ y)
    → cond (t && begins_with_hex n (take j bs)) (n + 2) z ≡ cond (t && begins_with_hex n bs) (n + 2) y
name_kept t n j y z bs le f =
    ⊎_elim
    (λ yes.
    let whole = cond-true (t && begins_with_hex n bs) (n + 2) y yes in
    let same = hex_kept n j bs (omega (arith, whole)) in
    cond-true (t && begins_with_hex n (take j bs)) (n + 2) z (ap (λ h. t && h) same ∙ yes) ∙ sym whole)
    (λ no.
    let rest = cond-false (t && begins_with_hex n bs) (n + 2) y no in
    let still : (t && begins_with_hex n (take j bs)) ≡ false =
    ⊎_elim (λ here. and_left t (begins_with_hex n (take j bs)) here)
    (λ later. and_right t (begins_with_hex n (take j bs)) (hex_fails n j bs later))
    (and_cases t (begins_with_hex n bs) no) in
    cond-false (t && begins_with_hex n (take j bs)) (n + 2) z still ∙ f (omega (arith, rest)) ∙ sym rest)
    (cases_Bool (t && begins_with_hex n bs))

no_short_name : (s t : Bool) (m n : ℕ) → 1 < m → 1 < n → cond s m (cond t n 0) ≤ 1 → cond s m (cond t n 0) ≡ 0
no_short_name true t m n mm nn le = absurd (omega arith)
no_short_name false true m n mm nn le = absurd (omega arith)
no_short_name false false m n mm nn le = refl

pub universal_kept : (text : List ℕ) (k : ℕ) → 0 < k → universal_len text ≤ k → universal_len (take k text) ≡ universal_len text
universal_kept text zero some le = absurd (omega arith)
universal_kept [] (suc k) some le = refl
universal_kept (a ∷ []) (suc zero) some le = refl
universal_kept (a ∷ []) (suc (suc k)) some le = refl
universal_kept (a ∷ b ∷ bs) (suc zero) some le =
    sym (no_short_name ((a == 92) && (b == 117) && begins_with_hex 4 bs) ((a == 92) && (b == 85) && begins_with_hex 8 bs) 6 10 (omega arith) (omega arith) le)
universal_kept (a ∷ b ∷ bs) (suc (suc j)) some le =
    name_kept ((a == 92) && (b == 117)) 4 j (cond ((a == 92) && (b == 85) && begins_with_hex 8 bs) 10 0)
    (cond ((a == 92) && (b == 85) && begins_with_hex 8 (take j bs)) 10 0) bs le
    (λ le'. name_kept ((a == 92) && (b == 85)) 8 j 0 0 bs le' (λ _. refl))

universal_line : (text : List ℕ) → universal_len text ≤ line_len text
universal_line [] = omega arith
universal_line (a ∷ []) = omega arith
universal_line (a ∷ b ∷ bs) =
    let name : (f : ℕ → Bool) (n : ℕ) → f 10 ≡ false → ((a == 92) && f b && begins_with_hex n bs) ≡ true → n + 2 ≤ line_len (a ∷ b ∷ bs) =
    λ f n fails yes.
    let parts = and_parts ((a == 92) && f b) (begins_with_hex n bs) yes in
    let front = and_parts (a == 92) (f b) parts.0 in
    let inner = line_from b n bs (differs f 10 b fails front.1) (hex_line n bs parts.1) in
    let outer = line_from a (suc n) (b ∷ bs) (differs (λ x. x == 92) 10 a refl front.0) inner in
    omega (arith, outer) in
    cond_both ((a == 92) && (b == 117) && begins_with_hex 4 bs) 6 (cond ((a == 92) && (b == 85) && begins_with_hex 8 bs) 10 0) (λ n. n ≤ line_len (a ∷ b ∷ bs))
    (λ yes. name (λ x. x == 117) 4 refl yes)
    (λ _. cond_both ((a == 92) && (b == 85) && begins_with_hex 8 bs) 10 0 (λ n. n ≤ line_len (a ∷ b ∷ bs))
    (λ yes. name (λ x. x == 85) 8 refl yes) (λ _. omega arith))

one_on_line : (f : ℕ → Bool) (b : ℕ) (bs : List ℕ) → f 10 ≡ false → f b ≡ true → 1 ≤ line_len (b ∷ bs)
one_on_line f b bs fails passes = line_from b 0 bs (differs f 10 b fails passes) (omega arith)

nonletter_kept : (language : Language) (text : List ℕ) (k : ℕ) → 0 < k → nonletter_len language text ≤ k → nonletter_len language (take k text) ≡ nonletter_len language text
nonletter_kept language text zero some le = absurd (omega arith)
nonletter_kept language [] (suc k) some le = refl
nonletter_kept language (b ∷ bs) (suc k) some le =
    cond_kept (is_dollar language b) 1 (universal_len (b ∷ bs)) (universal_len (b ∷ take k bs)) (suc k) le
    (λ _ le'. universal_kept (b ∷ bs) (suc k) some le')

nonletter_line : (language : Language) (text : List ℕ) → nonletter_len language text ≤ line_len text
nonletter_line language [] = omega arith
nonletter_line language (b ∷ bs) =
    cond_both (is_dollar language b) 1 (universal_len (b ∷ bs)) (λ n. n ≤ line_len (b ∷ bs))
    (λ yes. one_on_line (is_dollar language) b bs refl yes) (λ _. universal_line (b ∷ bs))

pub nondigit_kept : (language : Language) (text : List ℕ) (k : ℕ) → 0 < k → nondigit_len language text ≤ k → nondigit_len language (take k text) ≡ nondigit_len language text
nondigit_kept language text zero some le = absurd (omega arith)
nondigit_kept language [] (suc k) some le = refl
nondigit_kept language (b ∷ bs) (suc k) some le =
    cond_kept (is_letter b) 1 (nonletter_len language (b ∷ bs)) (nonletter_len language (b ∷ take k bs)) (suc k) le
    (λ _ le'. nonletter_kept language (b ∷ bs) (suc k) some le')

nondigit_line : (language : Language) (text : List ℕ) → nondigit_len language text ≤ line_len text
nondigit_line language [] = omega arith
nondigit_line language (b ∷ bs) =
    cond_both (is_letter b) 1 (nonletter_len language (b ∷ bs)) (λ n. n ≤ line_len (b ∷ bs))
    (λ yes. one_on_line is_letter b bs refl yes) (λ _. nonletter_line language (b ∷ bs))

identifier_part-kept : (language : Language) (text : List ℕ) (k : ℕ) → 0 < k → identifier_part language text ≤ k → identifier_part language (take k text) ≡ identifier_part language text
identifier_part-kept language text zero some le = absurd (omega arith)
identifier_part-kept language [] (suc k) some le = refl
identifier_part-kept language (b ∷ bs) (suc k) some le =
    cond_kept (is_digit b) 1 (nondigit_len language (b ∷ bs)) (nondigit_len language (b ∷ take k bs)) (suc k) le
    (λ _ le'. nondigit_kept language (b ∷ bs) (suc k) some le')

identifier_part-line : (language : Language) (text : List ℕ) → identifier_part language text ≤ line_len text
identifier_part-line language [] = omega arith
identifier_part-line language (b ∷ bs) =
    cond_both (is_digit b) 1 (nondigit_len language (b ∷ bs)) (λ n. n ≤ line_len (b ∷ bs))
    (λ yes. one_on_line is_digit b bs refl yes) (λ _. nondigit_line language (b ∷ bs))

pub identifier_parts : (language : Language) → IsPart (identifier_part language)
identifier_parts language = record { on_line = identifier_part-line language; kept = identifier_part-kept language }

-- without its last byte a part of one byte or none is the same, also where a sign was cut off
number_part-cut : (t s : Bool) (x y : ℕ) → cond t 2 (cond s 1 x) ≤ 1 → (x ≤ 1 → y ≡ x) → cond s 1 y ≡ cond t 2 (cond s 1 x)
number_part-cut true s x y le f = absurd (omega arith)
number_part-cut false true x y le f = refl
number_part-cut false false x y le f = f le

number_part-kept : (language : Language) (text : List ℕ) (k : ℕ) → 0 < k → number_part language text ≤ k → number_part language (take k text) ≡ number_part language text
number_part-kept language text zero some le = absurd (omega arith)
number_part-kept language [] (suc k) some le = refl
number_part-kept language (b ∷ []) (suc zero) some le = refl
number_part-kept language (b ∷ []) (suc (suc k)) some le = refl
number_part-kept language (a ∷ b ∷ bs) (suc zero) some le =
    number_part-cut (is_exponent_letter a && ((b == 43) || (b == 45))) (a == 46) (identifier_part language (a ∷ b ∷ bs)) (identifier_part language (a ∷ [])) le
    (λ le'. identifier_part-kept language (a ∷ b ∷ bs) 1 some le')
number_part-kept language (a ∷ b ∷ bs) (suc (suc k)) some le =
    cond_kept (is_exponent_letter a && ((b == 43) || (b == 45))) 2 (cond (a == 46) 1 (identifier_part language (a ∷ b ∷ bs)))
    (cond (a == 46) 1 (identifier_part language (a ∷ b ∷ take k bs))) (suc (suc k)) le
    (λ _ le'.
    cond_kept (a == 46) 1 (identifier_part language (a ∷ b ∷ bs)) (identifier_part language (a ∷ b ∷ take k bs)) (suc (suc k)) le'
    (λ _ le''. identifier_part-kept language (a ∷ b ∷ bs) (suc (suc k)) some le''))

number_part-line : (language : Language) (text : List ℕ) → number_part language text ≤ line_len text
number_part-line language [] = omega arith
number_part-line language (b ∷ []) =
    cond_both (b == 46) 1 (identifier_part language (b ∷ [])) (λ n. n ≤ line_len (b ∷ []))
    (λ yes. one_on_line (λ x. x == 46) b [] refl yes) (λ _. identifier_part-line language (b ∷ []))
number_part-line language (a ∷ b ∷ bs) =
    let sign = λ (x : ℕ). (x == 43) || (x == 45) in
    cond_both (is_exponent_letter a && sign b) 2 (cond (a == 46) 1 (identifier_part language (a ∷ b ∷ bs))) (λ n. n ≤ line_len (a ∷ b ∷ bs))
    (λ yes.
    let parts = and_parts (is_exponent_letter a) (sign b) yes in
    line_from a 1 (b ∷ bs) (differs is_exponent_letter 10 a refl parts.0) (one_on_line sign b bs refl parts.1))
    (λ _. cond_both (a == 46) 1 (identifier_part language (a ∷ b ∷ bs)) (λ n. n ≤ line_len (a ∷ b ∷ bs))
    (λ yes. one_on_line (λ x. x == 46) a (b ∷ bs) refl yes) (λ _. identifier_part-line language (a ∷ b ∷ bs)))

pub number_parts : (language : Language) → IsPart (number_part language)
number_parts language = record { on_line = number_part-line language; kept = number_part-kept language }

-- the part of a number, as the scanner tests for it
pub number_part-is : (language : Language) (b : ℕ) (bs : List ℕ)
    → number_part language (b ∷ bs) ≡ cond (b == 46) 1 (cond (is_exponent_letter b && begins_with_sign bs) 2 (identifier_part language (b ∷ bs)))
number_part-is language b [] =
    cond_both (b == 46) 1 (identifier_part language (b ∷ [])) (λ n. n ≡ cond (b == 46) 1 (cond (is_exponent_letter b && false) 2 (identifier_part language (b ∷ []))))
    (λ yes. sym (cond-true (b == 46) 1 _ yes))
    (λ no. sym (cond-false (b == 46) 1 _ no ∙ cond-false (is_exponent_letter b && false) 2 _ (and_right (is_exponent_letter b) false refl)))
number_part-is language a (b ∷ bs) =
    let exponent = is_exponent_letter a && begins_with_sign (b ∷ bs) in
    ⊎_elim
    (λ (dot : (a == 46) ≡ true).
    let no : is_exponent_letter a ≡ false = false_from_ne_true _ (λ yes. absurd (grind (arith, nat_tests))) in
    cond-false exponent 2 _ (and_left (is_exponent_letter a) (begins_with_sign (b ∷ bs)) no) ∙ cond-true (a == 46) 1 _ dot
    ∙ sym (cond-true (a == 46) 1 _ dot))
    (λ (no : (a == 46) ≡ false).
    ap (λ n. cond exponent 2 n) (cond-false (a == 46) 1 _ no) ∙ sym (cond-false (a == 46) 1 _ no))
    (cases_Bool (a == 46))

suc_less : (n : ℕ) → n ≡ suc n - 1
suc_less n = omega arith

-- digits, as a loop reads them
pub hex_past : (n : ℕ) (text : List ℕ) (i : ℕ) → 0 < n → length text ≤ i → begins_with_hex n (drop i text) ≡ false
hex_past zero text i some le = absurd (omega arith)
hex_past (suc n) text i some le = ap (begins_with_hex (suc n)) (drop_all i text le)

pub hex_more : (n : ℕ) (text : List ℕ) (i : ℕ) → 0 < n → i < length text → is_hex_digit (get_or text i 0) ≡ true
    → begins_with_hex n (drop i text) ≡ begins_with_hex (n - 1) (drop (i + 1) text)
hex_more zero text i some lt is = absurd (omega arith)
hex_more (suc n) text i some lt is =
    ap (begins_with_hex (suc n)) (drop_more text i 0 lt)
    ∙ ap (λ t. t && begins_with_hex n (drop (i + 1) text)) is
    ∙ ap (λ k. begins_with_hex k (drop (i + 1) text)) (suc_less n)

pub hex_no : (n : ℕ) (text : List ℕ) (i : ℕ) → 0 < n → i < length text → is_hex_digit (get_or text i 0) ≡ false
    → begins_with_hex n (drop i text) ≡ false
hex_no zero text i some lt is = absurd (omega arith)
hex_no (suc n) text i some lt is =
    ap (begins_with_hex (suc n)) (drop_more text i 0 lt) ∙ ap (λ t. t && begins_with_hex n (drop (i + 1) text)) is

-- no exponent with a sign and no . is at a place
pub number_part-else : (language : Language) (text : List ℕ) (i : ℕ) → i < length text → (get_or text i 0 ≡ 46 → ⊥)
    → (is_exponent_letter (get_or text i 0) && begins_with_sign (drop (i + 1) text)) ≡ false
    → number_part language (drop i text) ≡ identifier_part language (drop i text)
number_part-else language text i lt dot exponent =
    let b = get_or text i 0 in
    let bs = drop (i + 1) text in
    let head = drop_more text i 0 lt in
    ap (number_part language) head ∙ number_part-is language b bs ∙ cond-false (b == 46) 1 _ (ne_eqb b 46 dot)
    ∙ cond-false (is_exponent_letter b && begins_with_sign bs) 2 _ exponent ∙ ap (identifier_part language) (sym head)
