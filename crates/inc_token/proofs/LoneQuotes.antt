-- Quotes whose literal does not close: the text up to the end of their line is the longest that is lone, and where a literal closes no text
-- from there on is.
use Rattle.std.proofs.Common.{◌≡◌, ℕ, zero, suc, ◌+◌, ◌<◌, ◌≤◌, ◌==◌, Bool, true, false, not, ◌&&◌, ◌||◌, cond, List, [], ◌∷◌, length, take, drop, get_or, nat_lt, refl, sym, ap, ◌∙◌, subst, arith, ⊎_elim}
use Rattle.std.proofs.lemmas.Bool.{cond-true, cond-false, cond_both, cases_Bool, and_cases, and_parts, and_from, and_left, and_right, or_cases, or_parts, or_from, or_right, true≢false, eqb-true}
use Rattle.inc_text.specs.Languages.{is_gnu}
use Rattle.inc_text.specs.declared.languages.Language.{Language}
use Rattle.inc_text.specs.declared.languages.Language.TheVariants.{Gnu}
use Rattle.std.proofs.Math.Seq.{take-length}
use Rattle.std.proofs.lemmas.List.{drop_more}
use Rattle.inc_token.specs.Spellings.{is_left_open, is_lone, is_prefixed, is_unclosed}
use Rattle.inc_token.specs.Scanning.{begins_quoted, begins_with_byte, closed_at, is_wide, line_len, may_quote, quoted_len, wide_lone_len, wide_str_len, wide_token}
use Rattle.inc_token.specs.declared.kinds.Kind.TheVariants.{Identifier, Other}
use Rattle.inc_token.specs.declared.pieces.Piece.TheVariants.{Lexeme}
use Rattle.inc_token.proofs.Closed.{Grows, any_prefix, closed_grows, flip, is_wide-turned, no_prefix, or_false}
use Rattle.inc_token.proofs.Rows.{differs}

-- no longer prefix is lone
abbrev pub NoLone : Language → List ℕ → ℕ → Type 0
NoLone language text n = (m : ℕ) → n < m → m ≤ length text → (is_lone (take m text) && is_gnu language) ≡ false

-- items that nothing closes

-- none go on after their line
left_open-line : (quote : ℕ) (escaped : Bool) (text : List ℕ) (m : ℕ) → line_len text < m → m ≤ length text → is_left_open quote escaped (take m text) ≡ false
left_open-line quote escaped [] m above below = absurd (omega (arith, above, below))
left_open-line quote escaped (b ∷ bs) zero above below = absurd (omega (arith, above))
left_open-line quote true (b ∷ bs) (suc m) above below = by (b == 10) refl (left_open-line quote false bs m) above where
  by : (t : Bool) → (b == 10) ≡ t → (line_len bs < m → m ≤ length bs → is_left_open quote false (take m bs) ≡ false)
      → cond (not t) (1 + line_len bs) 0 < suc m → (not (b == 10) && is_left_open quote false (take m bs)) ≡ false
  by true is rest over = and_left (not (b == 10)) _ (ap not is)
  by false is rest over = and_right (not (b == 10)) _ (rest (omega (arith, over)) (omega (arith, below)))
left_open-line quote false (b ∷ bs) (suc m) above below = by (b == 10) refl (left_open-line quote (b == 92) bs m) above where
  by : (t : Bool) → (b == 10) ≡ t → (line_len bs < m → m ≤ length bs → is_left_open quote (b == 92) (take m bs) ≡ false)
      → cond (not t) (1 + line_len bs) 0 < suc m → (not ((b == quote) || (b == 10)) && is_left_open quote (b == 92) (take m bs)) ≡ false
  by true is rest over = and_left (not ((b == quote) || (b == 10))) _ (ap not (or_right (b == quote) (b == 10) is))
  by false is rest over = and_right (not ((b == quote) || (b == 10))) _ (rest (omega (arith, over)) (omega (arith, below)))

-- nor after what closes them
left_open-closed : (quote : ℕ) (escaped : Bool) (n : ℕ) (text : List ℕ) (m : ℕ) → 0 < closed_at quote escaped n text → closed_at quote escaped n text ≤ n + m
    → is_left_open quote escaped (take m text) ≡ false
left_open-closed quote escaped n [] m some le = absurd (omega (arith, some))
left_open-closed quote true n (b ∷ bs) m some le = by m (b == 10) refl (closed_grows quote false (suc n) bs) (left_open-closed quote false (suc n) bs) some le where
  by : (m : ℕ) (t : Bool) → (b == 10) ≡ t → Grows (suc n) (closed_at quote false (suc n) bs)
      → ((k : ℕ) → 0 < closed_at quote false (suc n) bs → closed_at quote false (suc n) bs ≤ suc n + k → is_left_open quote false (take k bs) ≡ false)
      → 0 < cond t 0 (closed_at quote false (suc n) bs) → cond t 0 (closed_at quote false (suc n) bs) ≤ n + m → is_left_open quote true (take m (b ∷ bs)) ≡ false
  by m true is grows rest some le = absurd (omega (arith, some))
  by zero false is grows rest some le =
      absurd (⊎_elim (λ (none : closed_at quote false (suc n) bs ≡ 0). omega (arith, none, some)) (λ (more : suc n < closed_at quote false (suc n) bs). omega (arith, more, le)) grows)
  by (suc k) false is grows rest some le = and_right (not (b == 10)) _ (rest k some (omega (arith, le)))
left_open-closed quote false n (b ∷ bs) m some le =
    by m (b == quote) (b == 10) refl refl (closed_grows quote (b == 92) (suc n) bs) (left_open-closed quote (b == 92) (suc n) bs) some le
  where
    by : (m : ℕ) (s t : Bool) → (b == quote) ≡ s → (b == 10) ≡ t → Grows (suc n) (closed_at quote (b == 92) (suc n) bs)
        → ((k : ℕ) → 0 < closed_at quote (b == 92) (suc n) bs → closed_at quote (b == 92) (suc n) bs ≤ suc n + k → is_left_open quote (b == 92) (take k bs) ≡ false)
        → 0 < cond s (suc n) (cond t 0 (closed_at quote (b == 92) (suc n) bs)) → cond s (suc n) (cond t 0 (closed_at quote (b == 92) (suc n) bs)) ≤ n + m
        → is_left_open quote false (take m (b ∷ bs)) ≡ false
    by zero true t here line grows rest some le = absurd (omega (arith, le))
    by (suc k) true t here line grows rest some le = and_left (not ((b == quote) || (b == 10))) _ (ap (λ x. not (x || (b == 10))) here)
    by m false true here line grows rest some le = absurd (omega (arith, some))
    by zero false false here line grows rest some le =
        absurd (⊎_elim (λ (none : closed_at quote (b == 92) (suc n) bs ≡ 0). omega (arith, none, some)) (λ (more : suc n < closed_at quote (b == 92) (suc n) bs). omega (arith, more, le)) grows)
    by (suc k) false false here line grows rest some le = and_right (not ((b == quote) || (b == 10))) _ (rest k some (omega (arith, le)))

-- where nothing closes them all of the line are
left_open-all : (quote : ℕ) (escaped : Bool) (n : ℕ) (text : List ℕ) → closed_at quote escaped n text ≡ 0 → is_left_open quote escaped (take (line_len text) text) ≡ true
left_open-all quote escaped n [] none = refl
left_open-all quote true n (b ∷ bs) none = by (b == 10) refl (left_open-all quote false (suc n) bs) none where
  by : (t : Bool) → (b == 10) ≡ t → (closed_at quote false (suc n) bs ≡ 0 → is_left_open quote false (take (line_len bs) bs) ≡ true)
      → cond t 0 (closed_at quote false (suc n) bs) ≡ 0 → is_left_open quote true (take (cond (not t) (1 + line_len bs) 0) (b ∷ bs)) ≡ true
  by true is rest none = refl
  by false is rest none =
      let e : 1 + line_len bs ≡ suc (line_len bs) = omega arith in
      ap (λ k. is_left_open quote true (take k (b ∷ bs))) e ∙ and_from (not (b == 10)) _ (ap not is) (rest none)
left_open-all quote false n (b ∷ bs) none = by (b == quote) (b == 10) refl refl (left_open-all quote (b == 92) (suc n) bs) none where
  by : (s t : Bool) → (b == quote) ≡ s → (b == 10) ≡ t → (closed_at quote (b == 92) (suc n) bs ≡ 0 → is_left_open quote (b == 92) (take (line_len bs) bs) ≡ true)
      → cond s (suc n) (cond t 0 (closed_at quote (b == 92) (suc n) bs)) ≡ 0 → is_left_open quote false (take (cond (not t) (1 + line_len bs) 0) (b ∷ bs)) ≡ true
  by true t here line rest none = absurd (omega (arith, none))
  by false true here line rest none = refl
  by false false here line rest none =
      let e : 1 + line_len bs ≡ suc (line_len bs) = omega arith in
      ap (λ k. is_left_open quote false (take k (b ∷ bs))) e ∙ and_from (not ((b == quote) || (b == 10))) _ (ap not (or_from (b == quote) (b == 10) here line)) (rest none)

-- a quote and items

unclosed-line : (quote : ℕ) (text : List ℕ) (m : ℕ) → (quote == 10) ≡ false → line_len text < m → m ≤ length text → is_unclosed quote (take m text) ≡ false
unclosed-line quote [] m plain above below = absurd (omega (arith, above, below))
unclosed-line quote (b ∷ bs) zero plain above below = refl
unclosed-line quote (b ∷ bs) (suc m) plain above below = by (b == 10) (b == quote) refl refl above where
  by : (t s : Bool) → (b == 10) ≡ t → (b == quote) ≡ s → cond (not t) (1 + line_len bs) 0 < suc m → ((b == quote) && is_left_open quote false (take m bs)) ≡ false
  by t false is here over = and_left (b == quote) _ here
  by false true is here over = and_right (b == quote) _ (left_open-line quote false bs m (omega (arith, over)) (omega (arith, below)))
  by true true is here over = let clash : true ≡ false = sym is ∙ ap (λ x. x == 10) (eqb-true b quote here) ∙ plain in cc

unclosed-closed : (quote n : ℕ) (text : List ℕ) (m : ℕ) → 0 < quoted_len quote n text → quoted_len quote n text ≤ n + m → is_unclosed quote (take m text) ≡ false
unclosed-closed quote n [] m some le = absurd (omega (arith, some))
unclosed-closed quote n (b ∷ bs) zero some le = refl
unclosed-closed quote n (b ∷ bs) (suc m) some le = by (b == quote) refl some le where
  by : (s : Bool) → (b == quote) ≡ s → 0 < cond s (closed_at quote false (suc n) bs) 0 → cond s (closed_at quote false (suc n) bs) 0 ≤ n + suc m
      → ((b == quote) && is_left_open quote false (take m bs)) ≡ false
  by false here some le = and_left (b == quote) _ here
  by true here some le = and_right (b == quote) _ (left_open-closed quote false (suc n) bs m some (omega (arith, le)))

unclosed-other : (quote : ℕ) (text : List ℕ) (m : ℕ) → begins_with_byte quote text ≡ false → is_unclosed quote (take m text) ≡ false
unclosed-other quote text zero other = refl
unclosed-other quote [] (suc m) other = refl
unclosed-other quote (b ∷ bs) (suc m) other = and_left (b == quote) _ other

unclosed-all : (quote n b : ℕ) (bs : List ℕ) → (b == 10) ≡ false → (b == quote) ≡ true → quoted_len quote n (b ∷ bs) ≡ 0
    → is_unclosed quote (take (line_len (b ∷ bs)) (b ∷ bs)) ≡ true
unclosed-all quote n b bs line here none =
    let size : line_len (b ∷ bs) ≡ suc (line_len bs) = cond-true (not (b == 10)) (1 + line_len bs) 0 (ap not line) ∙ (let e : 1 + line_len bs ≡ suc (line_len bs) = omega arith in e) in
    let open_ : closed_at quote false (suc n) bs ≡ 0 = sym (cond-true (b == quote) (closed_at quote false (suc n) bs) 0 here) ∙ none in
    ap (λ k. is_unclosed quote (take k (b ∷ bs))) size ∙ and_from (b == quote) _ here (left_open-all quote false (suc n) bs open_)

-- by the first byte

-- what may follow a u in a lone quote
abbrev narrow : List ℕ → Bool
narrow xs = is_prefixed (56 ∷ []) (is_unclosed 34) xs

-- no prefix
lone_plain : (b : ℕ) (xs : List ℕ) → is_wide b ≡ false → is_lone (b ∷ xs) ≡ (is_unclosed 39 (b ∷ xs) || is_unclosed 34 (b ∷ xs))
lone_plain b xs plain =
    let turned : ((117 == b) || (85 == b) || (76 == b)) ≡ false = is_wide-turned b ∙ plain in
    let u : (117 == b) ≡ false = (or_parts (117 == b) (85 == b) (or_parts ((117 == b) || (85 == b)) (76 == b) turned).0).0 in
    let single = is_unclosed 39 (b ∷ xs) in
    let double = is_unclosed 34 (b ∷ xs) in
    let behind = is_unclosed 34 xs in
    ap (λ t. (single || t) || (double || (((117 == b) && narrow xs) || (((117 == b) && behind) || (((85 == b) && behind) || (((76 == b) && behind) || false))))))
    (no_prefix (117 == b) (85 == b) (76 == b) (is_unclosed 39 xs) turned)
    ∙ ap (λ t. (single || false) || (double || (((117 == b) && narrow xs) || t))) (no_prefix (117 == b) (85 == b) (76 == b) behind turned)
    ∙ ap (λ t. (single || false) || (double || (t || false))) (and_left (117 == b) (narrow xs) u)
    ∙ ap (λ t. t || (double || false)) (or_false single) ∙ ap (λ t. single || t) (or_false double)

-- u, U or L
lone_wide : (b : ℕ) (xs : List ℕ) → is_wide b ≡ true → is_lone (b ∷ xs) ≡ (is_unclosed 39 xs || (((117 == b) && narrow xs) || is_unclosed 34 xs))
lone_wide b xs wide =
    let turned : ((117 == b) || (85 == b) || (76 == b)) ≡ true = is_wide-turned b ∙ wide in
    let behind = is_unclosed 34 xs in
    let rest = ((117 == b) && narrow xs) || (((117 == b) && behind) || (((85 == b) && behind) || (((76 == b) && behind) || false))) in
    ap (λ t. (t || (((117 == b) && is_unclosed 39 xs) || (((85 == b) && is_unclosed 39 xs) || (((76 == b) && is_unclosed 39 xs) || false)))) || (is_unclosed 34 (b ∷ xs) || rest))
    (and_left (b == 39) (is_left_open 39 false xs) (differs is_wide 39 b refl wide))
    ∙ ap (λ t. t || (is_unclosed 34 (b ∷ xs) || rest)) (any_prefix (117 == b) (85 == b) (76 == b) (is_unclosed 39 xs) turned)
    ∙ ap (λ t. is_unclosed 39 xs || (t || rest)) (and_left (b == 34) (is_left_open 34 false xs) (differs is_wide 34 b refl wide))
    ∙ ap (λ t. is_unclosed 39 xs || (((117 == b) && narrow xs) || t)) (any_prefix (117 == b) (85 == b) (76 == b) behind turned)

-- a quote that is at the front where its literal closes
pub quoted_byte : (quote n : ℕ) (text : List ℕ) → 0 < quoted_len quote n text → begins_with_byte quote text ≡ true
quoted_byte quote n [] some = absurd (omega (arith, some))
quoted_byte quote n (b ∷ bs) some =
    cond_both (b == quote) (closed_at quote false (suc n) bs) 0 (λ r. 0 < r → (b == quote) ≡ true) (λ is _. is) (λ _ none. absurd (omega (arith, none))) some

other_byte : (quote k : ℕ) (text : List ℕ) → (k == quote) ≡ false → begins_with_byte quote text ≡ true → begins_with_byte k text ≡ false
other_byte quote k [] apart is = refl
other_byte quote k (b ∷ bs) apart is = differs (λ x. x == quote) k b apart is

narrow_first : (quote : ℕ) (text : List ℕ) (k : ℕ) → (56 == quote) ≡ false → begins_with_byte quote text ≡ true → narrow (take k text) ≡ false
narrow_first quote text zero apart is = refl
narrow_first quote [] (suc k) apart is = refl
narrow_first quote (b ∷ bs) (suc k) apart is = and_left (56 == b) _ (flip b 56 ∙ differs (λ x. x == quote) 56 b apart is)

narrow_all : (c : ℕ) (cs : List ℕ) → (c == 56) ≡ true → begins_with_byte 34 cs ≡ true → quoted_len 34 2 cs ≡ 0 → narrow (take (line_len (c ∷ cs)) (c ∷ cs)) ≡ true
narrow_all c [] eight quote none = cc
narrow_all c (d ∷ ds) eight quote none =
    let line : (c == 10) ≡ false = differs (λ x. x == 56) 10 c refl eight in
    let size : line_len (c ∷ d ∷ ds) ≡ suc (line_len (d ∷ ds)) =
    cond-true (not (c == 10)) (1 + line_len (d ∷ ds)) 0 (ap not line) ∙ (let e : 1 + line_len (d ∷ ds) ≡ suc (line_len (d ∷ ds)) = omega arith in e) in
    ap (λ k. narrow (take k (c ∷ d ∷ ds))) size
    ∙ and_from (56 == c) _ (flip c 56 ∙ eight) (unclosed-all 34 2 d ds (differs (λ x. x == 34) 10 d refl quote) quote none)

-- none of three
none_of_three : (language : Language) (x y z : Bool) {t : Bool} → t ≡ (x || (y || z)) → x ≡ false → y ≡ false → z ≡ false → (t && is_gnu language) ≡ false
none_of_three language x y z is a b c = and_left _ (is_gnu language) (is ∙ or_from x (y || z) a (or_from y z b c))

none_of_two : (language : Language) (x y : Bool) {t : Bool} → t ≡ (x || y) → x ≡ false → y ≡ false → (t && is_gnu language) ≡ false
none_of_two language x y is a b = and_left _ (is_gnu language) (is ∙ or_from x y a b)

pub none_other : (language : Language) (text : List ℕ) (n : ℕ) → is_gnu language ≡ false → NoLone language text n
none_other language text n other m above below = and_right (is_lone (take m text)) (is_gnu language) other

module _ (language : Language) (b : ℕ) (bs : List ℕ) where
  module _ (plain : is_wide b ≡ false) where
    pub none_plain : (n : ℕ) → (b == 39) ≡ false → (b == 34) ≡ false → NoLone language (b ∷ bs) n
    none_plain n single double zero above below = absurd (omega (arith, above))
    none_plain n single double (suc m) above below =
        none_of_two language _ _ (lone_plain b (take m bs) plain) (and_left (b == 39) _ single) (and_left (b == 34) _ double)

    pub none_double : (b == 34) ≡ true → 0 < closed_at 34 false 1 bs → NoLone language (b ∷ bs) (closed_at 34 false 1 bs)
    none_double here some zero above below = absurd (omega (arith, above))
    none_double here some (suc m) above below =
        let is : quoted_len 34 0 (b ∷ bs) ≡ closed_at 34 false 1 bs = cond-true (b == 34) (closed_at 34 false 1 bs) 0 here in
        none_of_two language _ _ (lone_plain b (take m bs) plain) (and_left (b == 39) _ (differs (λ x. x == 34) 39 b refl here))
        (unclosed-closed 34 0 (b ∷ bs) (suc m) (omega (arith, is, some)) (omega (arith, is, above)))

    pub none_single : (b == 39) ≡ true → 0 < closed_at 39 false 1 bs → NoLone language (b ∷ bs) (closed_at 39 false 1 bs)
    none_single here some zero above below = absurd (omega (arith, above))
    none_single here some (suc m) above below =
        let is : quoted_len 39 0 (b ∷ bs) ≡ closed_at 39 false 1 bs = cond-true (b == 39) (closed_at 39 false 1 bs) 0 here in
        none_of_two language _ _ (lone_plain b (take m bs) plain) (unclosed-closed 39 0 (b ∷ bs) (suc m) (omega (arith, is, some)) (omega (arith, is, above)))
        (and_left (b == 34) _ (differs (λ x. x == 39) 34 b refl here))

    pub none_on_line : NoLone language (b ∷ bs) (line_len (b ∷ bs))
    none_on_line zero above below = absurd (omega (arith, above))
    none_on_line (suc m) above below =
        none_of_two language _ _ (lone_plain b (take m bs) plain) (unclosed-line 39 (b ∷ bs) (suc m) refl above below)
        (unclosed-line 34 (b ∷ bs) (suc m) refl above below)

    line_taken : (b == 10) ≡ false → take (line_len (b ∷ bs)) (b ∷ bs) ≡ b ∷ take (line_len bs) bs
    line_taken line = ap (λ k. take k (b ∷ bs)) (cond-true (not (b == 10)) (1 + line_len bs) 0 (ap not line) ∙ (let e : 1 + line_len bs ≡ suc (line_len bs) = omega arith in e))

    pub lone_double : (b == 34) ≡ true → closed_at 34 false 1 bs ≡ 0 → is_lone (take (line_len (b ∷ bs)) (b ∷ bs)) ≡ true
    lone_double here none =
        let line : (b == 10) ≡ false = differs (λ x. x == 34) 10 b refl here in
        let is = unclosed-all 34 0 b bs line here (cond-true (b == 34) (closed_at 34 false 1 bs) 0 here ∙ none) in
        ap is_lone (line_taken line) ∙ lone_plain b (take (line_len bs) bs) plain
        ∙ or_right (is_unclosed 39 (b ∷ take (line_len bs) bs)) _ (ap (is_unclosed 34) (sym (line_taken line)) ∙ is)

    pub lone_single : (b == 39) ≡ true → closed_at 39 false 1 bs ≡ 0 → is_lone (take (line_len (b ∷ bs)) (b ∷ bs)) ≡ true
    lone_single here none =
        let line : (b == 10) ≡ false = differs (λ x. x == 39) 10 b refl here in
        let is = unclosed-all 39 0 b bs line here (cond-true (b == 39) (closed_at 39 false 1 bs) 0 here ∙ none) in
        ap is_lone (line_taken line) ∙ lone_plain b (take (line_len bs) bs) plain
        ∙ ap (λ t. t || is_unclosed 34 (b ∷ take (line_len bs) bs)) (ap (is_unclosed 39) (sym (line_taken line)) ∙ is)

  module _ (wide : is_wide b ≡ true) where
    pub none_word : (n : ℕ) → begins_quoted b bs ≡ false → NoLone language (b ∷ bs) n
    none_word n other zero above below = absurd (omega (arith, above))
    none_word n other (suc m) above below =
        let parts = or_parts (begins_with_byte 39 bs) _ other in
        let later = or_parts (begins_with_byte 34 bs) _ parts.1 in
        none_of_three language _ _ _ (lone_wide b (take m bs) wide) (unclosed-other 39 bs m parts.0) (narrow_other bs m later.1) (unclosed-other 34 bs m later.0)
      where
        narrow_other : (text : List ℕ) (k : ℕ) → ((b == 117) && (begins_with_byte 56 text && begins_with_byte 34 (drop 1 text))) ≡ false → ((117 == b) && narrow (take k text)) ≡ false
        narrow_other text zero h = and_right (117 == b) false refl
        narrow_other [] (suc k) h = and_right (117 == b) false refl
        narrow_other (c ∷ cs) (suc k) h =
            ⊎_elim (λ (u : (b == 117) ≡ false). and_left (117 == b) _ (flip b 117 ∙ u))
            (λ (rest : ((c == 56) && begins_with_byte 34 cs) ≡ false).
            and_right (117 == b) _
            (⊎_elim (λ (e : (c == 56) ≡ false). and_left (56 == c) _ (flip c 56 ∙ e))
            (λ (q : begins_with_byte 34 cs ≡ false). and_right (56 == c) _ (unclosed-other 34 cs k q))
            (and_cases (c == 56) (begins_with_byte 34 cs) rest)))
            (and_cases (b == 117) ((c == 56) && begins_with_byte 34 cs) h)

    pub none_wide_line : NoLone language (b ∷ bs) (line_len (b ∷ bs))
    none_wide_line zero above below = absurd (omega (arith, above))
    none_wide_line (suc m) above below =
        let size : line_len (b ∷ bs) ≡ 1 + line_len bs = cond-true (not (b == 10)) (1 + line_len bs) 0 (ap not (differs is_wide 10 b refl wide)) in
        let over : line_len bs < m = omega (arith, size, above) in
        let within : m ≤ length bs = omega (arith, below) in
        none_of_three language _ _ _ (lone_wide b (take m bs) wide) (unclosed-line 39 bs m refl over within)
        (and_right (117 == b) _ (narrow_line bs m over within)) (unclosed-line 34 bs m refl over within)
      where
        narrow_line : (text : List ℕ) (k : ℕ) → line_len text < k → k ≤ length text → narrow (take k text) ≡ false
        narrow_line text zero above below = refl
        narrow_line [] (suc k) above below = refl
        narrow_line (c ∷ cs) (suc k) above below = by (c == 10) refl above where
          by : (t : Bool) → (c == 10) ≡ t → cond (not t) (1 + line_len cs) 0 < suc k → ((56 == c) && is_unclosed 34 (take k cs)) ≡ false
          by true is over = and_left (56 == c) _ (flip c 56 ∙ differs (λ x. x == 10) 56 c refl is)
          by false is over = and_right (56 == c) _ (unclosed-line 34 cs k refl (omega (arith, over)) (omega (arith, below)))

    -- where the character constant or the string literal closes
    pub none_wide_char : 0 < quoted_len 39 1 bs → NoLone language (b ∷ bs) (quoted_len 39 1 bs)
    none_wide_char some zero above below = absurd (omega (arith, above))
    none_wide_char some (suc m) above below =
        let here = quoted_byte 39 1 bs some in
        none_of_three language _ _ _ (lone_wide b (take m bs) wide) (unclosed-closed 39 1 bs m some (omega (arith, above)))
        (and_right (117 == b) _ (narrow_first 39 bs m refl here)) (unclosed-other 34 bs m (other_byte 39 34 bs refl here))

    pub none_wide_str : 0 < wide_str_len b bs → NoLone language (b ∷ bs) (wide_str_len b bs)
    none_wide_str some zero above below = absurd (omega (arith, above))
    none_wide_str some (suc m) above below = by bs some above where
      by : (text : List ℕ) → 0 < wide_str_len b text → wide_str_len b text < suc m → (is_lone (b ∷ take m text) && is_gnu language) ≡ false
      by [] some over = absurd (omega (arith, some))
      by (c ∷ cs) some over =
          cond_both ((b == 117) && (c == 56)) (quoted_len 34 2 cs) (quoted_len 34 1 (c ∷ cs))
          (λ r. 0 < r → r < suc m → (is_lone (b ∷ take m (c ∷ cs)) && is_gnu language) ≡ false)
          (λ is some' over'. let parts = and_parts (b == 117) (c == 56) is in
          none_of_three language _ _ _ (lone_wide b (take m (c ∷ cs)) wide) (unclosed-other 39 (c ∷ cs) m (differs (λ x. x == 56) 39 c refl parts.1))
          (and_right (117 == b) _ (narrow_closed m some' over')) (unclosed-other 34 (c ∷ cs) m (differs (λ x. x == 56) 34 c refl parts.1)))
          (λ _ some' over'. let here = quoted_byte 34 1 (c ∷ cs) some' in
          none_of_three language _ _ _ (lone_wide b (take m (c ∷ cs)) wide) (unclosed-other 39 (c ∷ cs) m (other_byte 34 39 (c ∷ cs) refl here))
          (and_right (117 == b) _ (narrow_first 34 (c ∷ cs) m refl here)) (unclosed-closed 34 1 (c ∷ cs) m some' (omega (arith, over'))))
          some over
        where
          narrow_closed : (k : ℕ) → 0 < quoted_len 34 2 cs → quoted_len 34 2 cs < suc k → narrow (take k (c ∷ cs)) ≡ false
          narrow_closed zero some over = refl
          narrow_closed (suc k) some over = and_right (56 == c) _ (unclosed-closed 34 2 cs k some (omega (arith, over)))

    -- where neither does the line is lone
    pub lone_prefixed : begins_quoted b bs ≡ true → quoted_len 39 1 bs ≡ 0 → wide_str_len b bs ≡ 0 → is_lone (take (line_len (b ∷ bs)) (b ∷ bs)) ≡ true
    lone_prefixed begins char str =
        let line : (b == 10) ≡ false = differs is_wide 10 b refl wide in
        let size : line_len (b ∷ bs) ≡ suc (line_len bs) = cond-true (not (b == 10)) (1 + line_len bs) 0 (ap not line) ∙ (let e : 1 + line_len bs ≡ suc (line_len bs) = omega arith in e) in
        ap (λ k. is_lone (take k (b ∷ bs))) size ∙ lone_wide b (take (line_len bs) bs) wide ∙ by bs begins char str
      where
        by : (text : List ℕ) → begins_quoted b text ≡ true → quoted_len 39 1 text ≡ 0 → wide_str_len b text ≡ 0
            → (is_unclosed 39 (take (line_len text) text) || (((117 == b) && narrow (take (line_len text) text)) || is_unclosed 34 (take (line_len text) text))) ≡ true
        by [] begins char str = absurd (true≢false (sym begins ∙ and_right (b == 117) false refl))
        by (c ∷ cs) begins char str =
            let single = is_unclosed 39 (take (line_len (c ∷ cs)) (c ∷ cs)) in
            let double = is_unclosed 34 (take (line_len (c ∷ cs)) (c ∷ cs)) in
            let second = (117 == b) && narrow (take (line_len (c ∷ cs)) (c ∷ cs)) in
            ⊎_elim
            (λ (is : (c == 39) ≡ true). ap (λ t. t || (second || double)) (unclosed-all 39 1 c cs (differs (λ x. x == 39) 10 c refl is) is char))
            (λ (rest : ((c == 34) || ((b == 117) && ((c == 56) && begins_with_byte 34 cs))) ≡ true).
            or_right single _ (⊎_elim
            (λ (is : (c == 34) ≡ true).
            let plain : ((b == 117) && (c == 56)) ≡ false = and_right (b == 117) (c == 56) (differs (λ x. x == 34) 56 c refl is) in
            or_right second _ (unclosed-all 34 1 c cs (differs (λ x. x == 34) 10 c refl is) is
            (sym (cond-false ((b == 117) && (c == 56)) (quoted_len 34 2 cs) (quoted_len 34 1 (c ∷ cs)) plain) ∙ str)))
            (λ (third : ((b == 117) && ((c == 56) && begins_with_byte 34 cs)) ≡ true).
            let u = and_parts (b == 117) ((c == 56) && begins_with_byte 34 cs) third in
            let eight = and_parts (c == 56) (begins_with_byte 34 cs) u.1 in
            let none : quoted_len 34 2 cs ≡ 0 = sym (cond-true ((b == 117) && (c == 56)) (quoted_len 34 2 cs) (quoted_len 34 1 (c ∷ cs)) (and_from (b == 117) (c == 56) u.0 eight.0)) ∙ str in
            ap (λ t. t || double) (and_from (117 == b) _ (flip b 117 ∙ u.0) (narrow_all c cs eight.0 eight.1 none)))
            (or_cases (c == 34) ((b == 117) && ((c == 56) && begins_with_byte 34 cs)) rest)))
            (or_cases (c == 39) ((c == 34) || ((b == 117) && ((c == 56) && begins_with_byte 34 cs))) begins)

-- a text that goes on after its first line is not
pub lone-on_line : (b : ℕ) (bs : List ℕ) → line_len (b ∷ bs) < length (b ∷ bs) → is_lone (b ∷ bs) ≡ false
lone-on_line b bs lt =
    let text = b ∷ bs in
    let none : NoLone Gnu text (line_len text) = ⊎_elim (λ (wide : is_wide b ≡ true). none_wide_line Gnu b bs wide) (λ (plain : is_wide b ≡ false). none_on_line Gnu b bs plain) (cases_Bool (is_wide b)) in
    ⊎_elim (λ (other : is_lone (take (length text) text) ≡ false). subst (λ t. is_lone t ≡ false) (take-length text) other) (λ (clash : true ≡ false). absurd (true≢false clash))
    (and_cases (is_lone (take (length text) text)) true (none (length text) lt (omega arith)))

-- a word, where no quote can be behind its first letter

plain_prefix : (language : Language) (a word : ℕ) (behind : List ℕ) → may_quote behind ≡ false
    → wide_token (quoted_len 39 1 behind) (wide_str_len a behind) (wide_lone_len language (a ∷ behind)) word ≡ Lexeme Identifier word
plain_prefix language a word [] none =
    ap (λ t. cond (nat_lt 0 (cond (t && is_gnu language) (line_len (a ∷ [])) 0)) (Lexeme Other (cond (t && is_gnu language) (line_len (a ∷ [])) 0)) (Lexeme Identifier word))
    (and_right (a == 117) false refl)
plain_prefix language a word (b ∷ bs) none =
    let double = or_parts (b == 34) _ none in
    let single = or_parts (b == 39) (b == 56) double.1 in
    rw (double.0, single.0, single.1, and_right (a == 117) false refl) refl

pub plain_word : (language : Language) (text : List ℕ) (at word : ℕ) → at < length text → may_quote (drop (at + 1) text) ≡ false
    → wide_token (quoted_len 39 1 (drop (at + 1) text)) (wide_str_len (get_or text at 0) (drop (at + 1) text)) (wide_lone_len language (drop at text)) word ≡ Lexeme Identifier word
plain_word language text at word lt none =
    subst (λ xs. wide_token (quoted_len 39 1 (drop (at + 1) text)) (wide_str_len (get_or text at 0) (drop (at + 1) text)) (wide_lone_len language xs) word ≡ Lexeme Identifier word)
    (sym (drop_more text at 0 lt)) (plain_prefix language (get_or text at 0) word (drop (at + 1) text) none)
