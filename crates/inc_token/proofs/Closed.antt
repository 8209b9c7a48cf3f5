-- Literals and header names: the first closing delimiter ends the longest prefix that lies in the class.
use Rattle.std.proofs.Common.{◌≡◌, ℕ, zero, suc, ◌-◌, ◌<◌, Bool, true, false, ◌&&◌, ◌||◌, not, List, [], ◌∷◌, take, cond, ◌==◌, refl, sym, ap, ◌∙◌, subst, arith, inl, inr, ⊎_elim, ◌⊎◌}
use Rattle.std.proofs.lemmas.Bool.{cond-true, cond-false, cond_both, and_parts, and_left, and_right, and_cases, or_parts, eqb-true, eqb-false, ne_eqb, eq-eqb}
use Rattle.inc_token.specs.Spellings.{is_empty, is_closed_by, is_quoted, is_prefixed, is_char, is_str, is_name_until, is_header_name}
use Rattle.inc_token.specs.Scanning.{closed_at, quoted_len, is_wide, wide_str_len, name_at, header_name_len}
use Rattle.inc_token.proofs.Lengths.{char_len, str_len}
use Rattle.inc_token.proofs.Rows.{differs}
use Rattle.inc_token.proofs.Longest.{IsLongest, longest_empty, longest_none, longest_same, longest_step, longest_here, next_from}

-- nothing, or more than the n bytes that were known
abbrev pub Grows : ℕ → ℕ → Type 0
Grows n r = (r ≡ 0) ⊎ (n < r)

grows_from : (n r : ℕ) → Grows (suc n) r → Grows n r
grows_from n r h = ⊎_elim (λ (none : r ≡ 0). inl none) (λ (some : suc n < r). inr (omega arith)) h

pub closed_grows : (quote : ℕ) (escaped : Bool) (n : ℕ) (text : List ℕ) → Grows n (closed_at quote escaped n text)
closed_grows quote escaped n [] = inl refl
closed_grows quote true n (b ∷ bs) =
    cond_both (b == 10) 0 (closed_at quote false (suc n) bs) (Grows n) (λ _. inl refl) (λ _. grows_from n _ (closed_grows quote false (suc n) bs))
closed_grows quote false n (b ∷ bs) =
    cond_both (b == quote) (suc n) (cond (b == 10) 0 (closed_at quote (b == 92) (suc n) bs)) (Grows n) (λ _. inr (omega arith))
    (λ _. cond_both (b == 10) 0 (closed_at quote (b == 92) (suc n) bs) (Grows n) (λ _. inl refl)
    (λ _. grows_from n _ (closed_grows quote (b == 92) (suc n) bs)))

is_closed_by-nil : (quote : ℕ) (escaped : Bool) → is_closed_by quote escaped [] ≡ false
is_closed_by-nil quote escaped = refl

nothing : (n : ℕ) → 0 ≡ 0 - n
nothing n = omega arith

one : (n : ℕ) → 1 ≡ suc n - n
one n = omega arith

less_none : (r : ℕ) → r - 0 ≡ r
less_none r = omega arith

pub or_false : (x : Bool) → (x || false) ≡ x
or_false true = refl
or_false false = refl

none_from : (test : List ℕ → Bool) (text : List ℕ) (n : ℕ) → IsLongest test text 0 → IsLongest test text (0 - n)
none_from test text n is = subst (IsLongest test text) (nothing n) is

pub longest_closed : (quote : ℕ) (escaped : Bool) (n : ℕ) (text : List ℕ) → (quote == 10) ≡ false
    → IsLongest (is_closed_by quote escaped) text (closed_at quote escaped n text - n)
longest_closed quote escaped n [] plain = none_from (is_closed_by quote escaped) [] n (longest_empty (is_closed_by quote escaped))
longest_closed quote true n (b ∷ bs) plain =
    let test = is_closed_by quote true in
    cond_both (b == 10) 0 (closed_at quote false (suc n) bs) (λ r. IsLongest test (b ∷ bs) (r - n))
    (λ line. none_from test (b ∷ bs) n (longest_none test b bs (λ m. and_left (not (b == 10)) (is_closed_by quote false (take m bs)) (ap not line))))
    (λ other. subst (IsLongest test (b ∷ bs)) (next_from (closed_at quote false (suc n) bs) n (closed_grows quote false (suc n) bs))
    (longest_step test (is_closed_by quote false) b bs _ other
    (λ m. ap (λ t. not t && is_closed_by quote false (take m bs)) other) refl
    (longest_closed quote false (suc n) bs plain)))
longest_closed quote false n (b ∷ bs) plain =
    let test = is_closed_by quote false in
    let later = closed_at quote (b == 92) (suc n) bs in
    let behind = λ (m : ℕ). is_closed_by quote (b == 92) (take m bs) in
    cond_both (b == quote) (suc n) (cond (b == 10) 0 later) (λ r. IsLongest test (b ∷ bs) (r - n))
    (λ here. subst (IsLongest test (b ∷ bs)) (one n)
    (longest_here test b bs (ap (λ x. x == 10) (eqb-true b quote here) ∙ plain)
    (λ m. cond-true (b == quote) (is_empty (take m bs)) (not (b == 10) && behind m) here)))
    (λ elsewhere. cond_both (b == 10) 0 later (λ r. IsLongest test (b ∷ bs) (r - n))
    (λ line. none_from test (b ∷ bs) n (longest_none test b bs
    (λ m. cond-false (b == quote) (is_empty (take m bs)) (not (b == 10) && behind m) elsewhere ∙ and_left (not (b == 10)) (behind m) (ap not line))))
    (λ other. subst (IsLongest test (b ∷ bs)) (next_from later n (closed_grows quote (b == 92) (suc n) bs))
    (longest_step test (is_closed_by quote (b == 92)) b bs _ other
    (λ m. cond-false (b == quote) (is_empty (take m bs)) (not (b == 10) && behind m) elsewhere ∙ ap (λ t. not t && behind m) other)
    (is_closed_by-nil quote (b == 92))
    (longest_closed quote (b == 92) (suc n) bs plain))))

-- after the prefix of a literal: the quote and what it closes

pub quoted_grows : (quote n : ℕ) (text : List ℕ) → Grows n (quoted_len quote n text)
quoted_grows quote n [] = inl refl
quoted_grows quote n (b ∷ bs) =
    cond_both (b == quote) (closed_at quote false (suc n) bs) 0 (Grows n) (λ _. grows_from n _ (closed_grows quote false (suc n) bs)) (λ _. inl refl)

longest_quoted : (quote n : ℕ) (text : List ℕ) → (quote == 10) ≡ false → IsLongest (is_quoted quote) text (quoted_len quote n text - n)
longest_quoted quote n [] plain = none_from (is_quoted quote) [] n (longest_empty (is_quoted quote))
longest_quoted quote n (b ∷ bs) plain =
    let test = is_quoted quote in
    let later = closed_at quote false (suc n) bs in
    let behind = λ (m : ℕ). is_closed_by quote false (take m bs) in
    cond_both (b == quote) later 0 (λ r. IsLongest test (b ∷ bs) (r - n))
    (λ here. subst (IsLongest test (b ∷ bs)) (next_from later n (closed_grows quote false (suc n) bs))
    (longest_step test (is_closed_by quote false) b bs _ (ap (λ x. x == 10) (eqb-true b quote here) ∙ plain)
    (λ m. ap (λ t. t && behind m) here) refl (longest_closed quote false (suc n) bs plain)))
    (λ elsewhere. none_from test (b ∷ bs) n (longest_none test b bs (λ m. and_left (b == quote) (behind m) elsewhere)))

-- the bytes of a prefix, from the text's side
turned : (b k : ℕ) (t : Bool) → (b == k) ≡ t → (k == b) ≡ t
turned b k true e = eq-eqb k b (sym (eqb-true b k e))
turned b k false e = ne_eqb k b (λ same. eqb-false b k e (sym same))

pub flip : (b k : ℕ) → (k == b) ≡ (b == k)
flip b k = turned b k (b == k) refl

and_no : (x : Bool) → (x && false) ≡ false
and_no x = and_right x false refl

-- of the tests of three prefixes one passes
pub any_prefix : (x y z t : Bool) → (x || y || z) ≡ true → ((x && t) || ((y && t) || ((z && t) || false))) ≡ t
any_prefix true y z true some = refl
any_prefix false true z true some = refl
any_prefix false false true true some = refl
any_prefix false false false true some = some
any_prefix x y z false some = rw (and_no x, and_no y, and_no z) refl

-- none does
pub no_prefix : (x y z t : Bool) → (x || y || z) ≡ false → ((x && t) || ((y && t) || ((z && t) || false))) ≡ false
no_prefix x y z t none =
    let parts = or_parts (x || y) z none in
    let front = or_parts x y parts.0 in
    rw (front.0, front.1, parts.1) refl

pub is_wide-turned : (a : ℕ) → ((117 == a) || (85 == a) || (76 == a)) ≡ is_wide a
is_wide-turned a = rw (flip a 117, flip a 85, flip a 76) refl

no_quote : (quote a : ℕ) (xs : List ℕ) → (a == quote) ≡ false → is_quoted quote (a ∷ xs) ≡ false
no_quote quote a xs other = and_left (a == quote) (is_closed_by quote false xs) other

pub longest_char : (text : List ℕ) → IsLongest is_char text (char_len text)
longest_char [] = longest_empty is_char
longest_char (a ∷ bs) =
    cond_both (is_wide a) (quoted_len 39 1 bs) (quoted_len 39 0 (a ∷ bs)) (IsLongest is_char (a ∷ bs))
    (λ wide. subst (IsLongest is_char (a ∷ bs)) (next_from (quoted_len 39 1 bs) 0 (quoted_grows 39 1 bs) ∙ less_none (quoted_len 39 1 bs))
    (longest_step is_char (is_quoted 39) a bs _ (differs is_wide 10 a refl wide)
    (λ m.
    let first = is_quoted 39 (a ∷ take m bs) in
    let behind = is_quoted 39 (take m bs) in
    ap (λ q. q || ((117 == a && behind) || ((85 == a && behind) || ((76 == a && behind) || false))))
    (no_quote 39 a (take m bs) (differs is_wide 39 a refl wide))
    ∙ any_prefix (117 == a) (85 == a) (76 == a) behind (is_wide-turned a ∙ wide))
    refl (longest_quoted 39 1 bs refl)))
    (λ plain. longest_same is_char (is_quoted 39) a bs _
    (λ m.
    let first = is_quoted 39 (a ∷ take m bs) in
    ap (λ t. first || t) (no_prefix (117 == a) (85 == a) (76 == a) (is_quoted 39 (take m bs)) (is_wide-turned a ∙ plain)) ∙ or_false first)
    (subst (IsLongest (is_quoted 39) (a ∷ bs)) (less_none (quoted_len 39 0 (a ∷ bs))) (longest_quoted 39 0 (a ∷ bs) refl)))

-- what may follow u, U or L in a string literal
abbrev is_str_behind : ℕ → List ℕ → Bool
is_str_behind a xs = (117 == a && is_prefixed (56 ∷ []) (is_quoted 34) xs) || is_quoted 34 xs

longest_behind : (a : ℕ) (text : List ℕ) → IsLongest (is_str_behind a) text (wide_str_len a text - 1)
longest_behind a [] = longest_empty (is_str_behind a)
longest_behind a (b ∷ bs) =
    let narrow = (a == 117) && (b == 56) in
    let test = is_str_behind a in
    cond_both narrow (quoted_len 34 2 bs) (quoted_len 34 1 (b ∷ bs)) (λ r. IsLongest test (b ∷ bs) (r - 1))
    (λ is.
    let parts = and_parts (a == 117) (b == 56) is in
    subst (IsLongest test (b ∷ bs)) (next_from (quoted_len 34 2 bs) 1 (quoted_grows 34 2 bs))
    (longest_step test (is_quoted 34) b bs _ (differs (λ x. x == 56) 10 b refl parts.1)
    (λ m.
    let behind = is_quoted 34 (take m bs) in
    let closed = is_closed_by 34 false (take m bs) in
    ap (λ t. (t && ((56 == b) && behind)) || ((b == 34) && closed)) (flip a 117 ∙ parts.0)
    ∙ ap (λ t. (t && behind) || ((b == 34) && closed)) (flip b 56 ∙ parts.1)
    ∙ ap (λ t. behind || t) (and_left (b == 34) closed (differs (λ x. x == 56) 34 b refl parts.1))
    ∙ or_false behind)
    refl (longest_quoted 34 2 bs refl)))
    (λ other. longest_same test (is_quoted 34) b bs _
    (λ m.
    let behind = is_quoted 34 (take m bs) in
    let none : ((117 == a) && ((56 == b) && behind)) ≡ false =
    ⊎_elim (λ elsewhere. and_left (117 == a) ((56 == b) && behind) (flip a 117 ∙ elsewhere))
    (λ elsewhere. and_right (117 == a) ((56 == b) && behind) (and_left (56 == b) behind (flip b 56 ∙ elsewhere)))
    (and_cases (a == 117) (b == 56) other) in
    ap (λ t. t || is_quoted 34 (b ∷ take m bs)) none)
    (longest_quoted 34 1 (b ∷ bs) refl))

wide_str_grows : (a : ℕ) (text : List ℕ) → Grows 1 (wide_str_len a text)
wide_str_grows a [] = inl refl
wide_str_grows a (b ∷ bs) =
    cond_both ((a == 117) && (b == 56)) (quoted_len 34 2 bs) (quoted_len 34 1 (b ∷ bs)) (Grows 1)
    (λ _. grows_from 1 _ (quoted_grows 34 2 bs)) (λ _. quoted_grows 34 1 (b ∷ bs))

pub longest_str : (text : List ℕ) → IsLongest is_str text (str_len text)
longest_str [] = longest_empty is_str
longest_str (a ∷ bs) =
    cond_both (is_wide a) (wide_str_len a bs) (quoted_len 34 0 (a ∷ bs)) (IsLongest is_str (a ∷ bs))
    (λ wide. subst (IsLongest is_str (a ∷ bs)) (next_from (wide_str_len a bs) 0 (wide_str_grows a bs) ∙ less_none (wide_str_len a bs))
    (longest_step is_str (is_str_behind a) a bs _ (differs is_wide 10 a refl wide)
    (λ m.
    let behind = is_quoted 34 (take m bs) in
    let narrow = is_prefixed (56 ∷ []) (is_quoted 34) (take m bs) in
    ap (λ q. q || ((117 == a && narrow) || ((117 == a && behind) || ((85 == a && behind) || ((76 == a && behind) || false)))))
    (no_quote 34 a (take m bs) (differs is_wide 34 a refl wide))
    ∙ ap (λ t. (117 == a && narrow) || t) (any_prefix (117 == a) (85 == a) (76 == a) behind (is_wide-turned a ∙ wide)))
    (ap (λ t. t || false) (and_no (117 == a))) (longest_behind a bs)))
    (λ plain. longest_same is_str (is_quoted 34) a bs _
    (λ m.
    let first = is_quoted 34 (a ∷ take m bs) in
    let behind = is_quoted 34 (take m bs) in
    let narrow = is_prefixed (56 ∷ []) (is_quoted 34) (take m bs) in
    let other = or_parts ((117 == a) || (85 == a)) (76 == a) (is_wide-turned a ∙ plain) in
    let u = or_parts (117 == a) (85 == a) other.0 in
    ap (λ t. first || ((117 == a && narrow) || t)) (no_prefix (117 == a) (85 == a) (76 == a) behind (is_wide-turned a ∙ plain))
    ∙ ap (λ t. first || (t || false)) (and_left (117 == a) narrow u.0) ∙ or_false first)
    (subst (IsLongest (is_quoted 34) (a ∷ bs)) (less_none (quoted_len 34 0 (a ∷ bs))) (longest_quoted 34 0 (a ∷ bs) refl)))

-- header names

name_grows : (close n : ℕ) (text : List ℕ) → Grows n (name_at close n text)
name_grows close n [] = inl refl
name_grows close n (b ∷ bs) =
    cond_both (b == close) (suc n) (cond (b == 10) 0 (name_at close (suc n) bs)) (Grows n) (λ _. inr (omega arith))
    (λ _. cond_both (b == 10) 0 (name_at close (suc n) bs) (Grows n) (λ _. inl refl) (λ _. grows_from n _ (name_grows close (suc n) bs)))

longest_name : (close n : ℕ) (text : List ℕ) → (close == 10) ≡ false → IsLongest (is_name_until close) text (name_at close n text - n)
longest_name close n [] plain = none_from (is_name_until close) [] n (longest_empty (is_name_until close))
longest_name close n (b ∷ bs) plain =
    let test = is_name_until close in
    let later = name_at close (suc n) bs in
    let behind = λ (m : ℕ). is_name_until close (take m bs) in
    cond_both (b == close) (suc n) (cond (b == 10) 0 later) (λ r. IsLongest test (b ∷ bs) (r - n))
    (λ here. subst (IsLongest test (b ∷ bs)) (one n)
    (longest_here test b bs (ap (λ x. x == 10) (eqb-true b close here) ∙ plain)
    (λ m. cond-true (b == close) (is_empty (take m bs)) (not (b == 10) && behind m) here)))
    (λ elsewhere. cond_both (b == 10) 0 later (λ r. IsLongest test (b ∷ bs) (r - n))
    (λ line. none_from test (b ∷ bs) n (longest_none test b bs
    (λ m. cond-false (b == close) (is_empty (take m bs)) (not (b == 10) && behind m) elsewhere ∙ and_left (not (b == 10)) (behind m) (ap not line))))
    (λ other. subst (IsLongest test (b ∷ bs)) (next_from later n (name_grows close (suc n) bs))
    (longest_step test (is_name_until close) b bs _ other
    (λ m. cond-false (b == close) (is_empty (take m bs)) (not (b == 10) && behind m) elsewhere ∙ ap (λ t. not t && behind m) other)
    refl (longest_name close (suc n) bs plain))))

header_short : (a m : ℕ) → is_header_name (a ∷ take m []) ≡ false
header_short a zero = refl
header_short a (suc m) = refl

header_angle : (a b m : ℕ) (bs : List ℕ) → ((a == 60) && not (b == 62)) ≡ true
    → is_header_name (a ∷ take m (b ∷ bs)) ≡ is_name_until 62 (take m (b ∷ bs))
header_angle a b zero bs is = refl
header_angle a b (suc m) bs is =
    let parts = and_parts (a == 60) (not (b == 62)) is in
    let angled = is_name_until 62 (b ∷ take m bs) in
    let quoted = is_name_until 34 (b ∷ take m bs) in
    let none : (((a == 34) && not (b == 34)) && quoted) ≡ false =
    and_left ((a == 34) && not (b == 34)) quoted (and_left (a == 34) (not (b == 34)) (differs (λ x. x == 60) 34 a refl parts.0)) in
    ap (λ t. (t && angled) || (((a == 34) && not (b == 34)) && quoted)) is ∙ ap (λ t. angled || t) none ∙ or_false angled

header_quote : (a b m : ℕ) (bs : List ℕ) → ((a == 60) && not (b == 62)) ≡ false → ((a == 34) && not (b == 34)) ≡ true
    → is_header_name (a ∷ take m (b ∷ bs)) ≡ is_name_until 34 (take m (b ∷ bs))
header_quote a b zero bs other is = refl
header_quote a b (suc m) bs other is =
    let angled = is_name_until 62 (b ∷ take m bs) in
    let quoted = is_name_until 34 (b ∷ take m bs) in
    ap (λ t. (t && angled) || (((a == 34) && not (b == 34)) && quoted)) other ∙ ap (λ t. t && quoted) is

header_none : (a b m : ℕ) (bs : List ℕ) → ((a == 60) && not (b == 62)) ≡ false → ((a == 34) && not (b == 34)) ≡ false
    → is_header_name (a ∷ take m (b ∷ bs)) ≡ false
header_none a b zero bs one other = refl
header_none a b (suc m) bs one other =
    let angled = is_name_until 62 (b ∷ take m bs) in
    let quoted = is_name_until 34 (b ∷ take m bs) in
    ap (λ t. (t && angled) || (((a == 34) && not (b == 34)) && quoted)) one ∙ ap (λ t. t && quoted) other

pub longest_header_name : (text : List ℕ) → IsLongest is_header_name text (header_name_len text)
longest_header_name [] = longest_empty is_header_name
longest_header_name (a ∷ []) = longest_none is_header_name a [] (λ m. header_short a m)
longest_header_name (a ∷ b ∷ bs) =
    let P : ℕ → Type 0 = IsLongest is_header_name (a ∷ b ∷ bs) in
    let named : (close : ℕ) → (close == 10) ≡ false → (a == 10) ≡ false
    → ((m : ℕ) → is_header_name (a ∷ take m (b ∷ bs)) ≡ is_name_until close (take m (b ∷ bs))) → P (name_at close 1 (b ∷ bs)) =
    λ close plain ne same.
    subst P (next_from (name_at close 1 (b ∷ bs)) 0 (name_grows close 1 (b ∷ bs)) ∙ less_none (name_at close 1 (b ∷ bs)))
    (longest_step is_header_name (is_name_until close) a (b ∷ bs) _ ne same refl (longest_name close 1 (b ∷ bs) plain)) in
    let angle = (a == 60) && not (b == 62) in
    let quote = (a == 34) && not (b == 34) in
    cond_both angle (name_at 62 1 (b ∷ bs)) (cond quote (name_at 34 1 (b ∷ bs)) 0) P
    (λ is.
    let parts = and_parts (a == 60) (not (b == 62)) is in
    named 62 refl (differs (λ x. x == 60) 10 a refl parts.0) (λ m. header_angle a b m bs is))
    (λ other. cond_both quote (name_at 34 1 (b ∷ bs)) 0 P
    (λ is.
    let parts = and_parts (a == 34) (not (b == 34)) is in
    named 34 refl (differs (λ x. x == 34) 10 a refl parts.0) (λ m. header_quote a b m bs other is))
    (λ neither. longest_none is_header_name a (b ∷ bs) (λ m. header_none a b m bs other neither)))
