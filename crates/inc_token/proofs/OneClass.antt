-- No text lies in two classes.
use Rattle.std.proofs.Common.{◌≡◌, ◌≢◌, ◌⊎◌, inl, inr, ℕ, ◌≤◌, ◌==◌, Bool, true, false, not, ◌&&◌, ◌||◌, List, [], ◌∷◌, Some, None, refl, sym, ap, ◌∙◌, subst, arith, bytes_eq, nat_lt, nat_le, IsTrue}
use Rattle.std.specs.List.{list_any, list_all}
use Rattle.std.proofs.lemmas.Bool.{eqb-true, leb-true}
use Rattle.std.proofs.lemmas.Slice.Eq.{bytes_eq-Decides}
use Rattle.inc_token.specs.Spellings.{class_of, is_within, is_digit, is_letter, is_one_above, is_identifier, is_number, is_char, is_str, is_punct, is_other, is_quoted, is_prefixed, is_spelling, punctuators, universal_len, is_dollar, nonletter_len, nondigit_len, begins_number, begins_with_hex}
use Rattle.inc_token.specs.declared.kinds.Kind.{Kind}
use Rattle.inc_token.specs.declared.kinds.Kind.TheVariants.{HeaderName, Identifier, Number, Char, Str, Punct, Other}
use Rattle.inc_text.specs.Languages.{is_gnu}
use Rattle.inc_token.proofs.Cells.{if_true}
use Rattle.inc_token.proofs.PieceBounds.{if_by, and_left, and_right}
use Rattle.inc_token.proofs.TextParts.{if_false}
use Rattle.inc_text.specs.declared.languages.Language.{Language}

or_by : (s t : Bool) (P : Type 0) → (s ≡ true → P) → (t ≡ true → P) → (s || t) ≡ true → P
or_by true t P f g h = f refl
or_by false t P f g h = g h

or_false : (s t : Bool) → (s || t) ≡ false → (s ≡ false) × (t ≡ false)
or_false true t h = cc
or_false false t h = (refl, h)

not_both : (s : Bool) → (s ≡ true → ⊥) → s ≡ false
not_both true f = absurd (f refl)
not_both false f = refl

-- an identifier begins above the digits or with a $, and a number with a digit or .
within_low : (low high b : ℕ) → is_within low high b ≡ true → low ≤ b
within_low low high b h = leb-true low b (and_left (nat_le low b) (nat_le b high) h)

within_high : (low high b : ℕ) → is_within low high b ≡ true → b ≤ high
within_high low high b h = leb-true b high (and_right (nat_le low b) (nat_le b high) h)

letter_above : (b : ℕ) → is_letter b ≡ true → 65 ≤ b
letter_above b =
    or_by _ (is_within 128 255 b) (65 ≤ b)
    (or_by _ (b == 95) (65 ≤ b)
    (or_by (is_within 97 122 b) (is_within 65 90 b) (65 ≤ b)
    (λ h. omega (arith, within_low 97 122 b h))
    (λ h. omega (arith, within_low 65 90 b h)))
    (λ h. omega (arith, eqb-true b 95 h)))
    (λ h. omega (arith, within_low 128 255 b h))

universal_above : (a : ℕ) (bs : List ℕ) → nat_lt 0 (universal_len (a ∷ bs)) ≡ true → 65 ≤ a
universal_above a [] = λ h. cc
universal_above a (b ∷ bs) =
    if_by (λ n. nat_lt 0 n ≡ true → 65 ≤ a) ((a == 92) && (b == 117) && begins_with_hex 4 bs) 6 _
    (λ h _. omega (arith, eqb-true a 92 (and_left (a == 92) (b == 117) (and_left ((a == 92) && (b == 117)) (begins_with_hex 4 bs) h))))
    (λ _. if_by (λ n. nat_lt 0 n ≡ true → 65 ≤ a) ((a == 92) && (b == 85) && begins_with_hex 8 bs) 10 0
    (λ h _. omega (arith, eqb-true a 92 (and_left (a == 92) (b == 85) (and_left ((a == 92) && (b == 85)) (begins_with_hex 8 bs) h))))
    (λ _ h. cc))

nonletter_apart : (language : Language) (b : ℕ) (bs : List ℕ) → nat_lt 0 (nonletter_len language (b ∷ bs)) ≡ true → (65 ≤ b) ⊎ (b ≡ 36)
nonletter_apart language b bs =
    if_by (λ n. nat_lt 0 n ≡ true → (65 ≤ b) ⊎ (b ≡ 36)) (is_dollar language b) 1 (universal_len (b ∷ bs))
    (λ d _. inr (eqb-true b 36 (and_left (b == 36) (is_gnu language) d))) (λ _ h. inl (universal_above b bs h))

-- or with a $
identifier_apart : (language : Language) (b : ℕ) (bs : List ℕ) → is_identifier language (b ∷ bs) ≡ true → (65 ≤ b) ⊎ (b ≡ 36)
identifier_apart language b bs h =
    if_by (λ n. nat_lt 0 n ≡ true → (65 ≤ b) ⊎ (b ≡ 36)) (is_letter b) 1 (nonletter_len language (b ∷ bs)) (λ l _. inl (letter_above b l))
    (λ _. nonletter_apart language b bs) (and_left (nat_lt 0 (nondigit_len language (b ∷ bs))) _ h)

begins_below : (b : ℕ) (bs : List ℕ) → begins_number (b ∷ bs) ≡ true → (46 ≤ b) × (b ≤ 57)
begins_below b [] h = (omega (arith, within_low 48 57 b h), within_high 48 57 b h)
begins_below b (d ∷ ds) h =
    or_by (is_digit b) ((b == 46) && is_digit d) ((46 ≤ b) × (b ≤ 57)) (λ digit. (omega (arith, within_low 48 57 b digit), within_high 48 57 b digit))
    (λ dot. let is = eqb-true b 46 (and_left (b == 46) (is_digit d) dot) in (omega (arith, is), omega (arith, is))) h

identifier_or_number : (language : Language) (text : List ℕ) → is_identifier language text ≡ true → is_number language text ≡ true → ⊥
identifier_or_number language [] i n = cc
identifier_or_number language (b ∷ bs) i n = by (identifier_apart language b bs i) (begins_below b bs (and_left (begins_number (b ∷ bs)) _ n)) where
  by : (65 ≤ b) ⊎ (b ≡ 36) → (46 ≤ b) × (b ≤ 57) → ⊥
  by (inl above) below = omega (arith, above, below.1)
  by (inr is) below = omega (arith, is, below.0)

-- the forms of a literal
quoted_form : (q : ℕ) (P : List ℕ → Type 0) → ((bs : List ℕ) → P (q ∷ bs)) → (text : List ℕ) → is_quoted q text ≡ true → P text
quoted_form q P f [] h = cc
quoted_form q P f (b ∷ bs) h = subst (λ x. P (x ∷ bs)) (sym (eqb-true b q (and_left (b == q) _ h))) (f bs)

prefixed_form : (p q : ℕ) (P : List ℕ → Type 0) → ((bs : List ℕ) → P (p ∷ q ∷ bs)) → (text : List ℕ) → is_prefixed (p ∷ []) (is_quoted q) text ≡ true → P text
prefixed_form p q P f [] h = cc
prefixed_form p q P f (b ∷ bs) h =
    subst (λ x. P (x ∷ bs)) (eqb-true p b (and_left (p == b) (is_quoted q bs) h)) (quoted_form q (λ t. P (p ∷ t)) f bs (and_right (p == b) (is_quoted q bs) h))

prefixed_twice_form : (o p q : ℕ) (P : List ℕ → Type 0) → ((bs : List ℕ) → P (o ∷ p ∷ q ∷ bs)) → (text : List ℕ) → is_prefixed (o ∷ p ∷ []) (is_quoted q) text ≡ true → P text
prefixed_twice_form o p q P f [] h = cc
prefixed_twice_form o p q P f (b ∷ bs) h =
    let inner : is_prefixed (p ∷ []) (is_quoted q) bs ≡ true = and_right (o == b) (is_prefixed (p ∷ []) (is_quoted q) bs) h in
    subst (λ x. P (x ∷ bs)) (eqb-true o b (and_left (o == b) (is_prefixed (p ∷ []) (is_quoted q) bs) h)) (prefixed_form p q (λ t. P (o ∷ t)) f bs inner)

char_form : (P : List ℕ → Type 0) → ((bs : List ℕ) → P (39 ∷ bs)) → ((bs : List ℕ) → P (117 ∷ 39 ∷ bs)) → ((bs : List ℕ) → P (85 ∷ 39 ∷ bs)) → ((bs : List ℕ) → P (76 ∷ 39 ∷ bs))
    → (text : List ℕ) → is_char text ≡ true → P text
char_form P e u v l text =
    or_by (is_quoted 39 text) _ (P text) (quoted_form 39 P e text)
    (or_by (is_prefixed (117 ∷ []) (is_quoted 39) text) _ (P text) (prefixed_form 117 39 P u text)
    (or_by (is_prefixed (85 ∷ []) (is_quoted 39) text) _ (P text) (prefixed_form 85 39 P v text)
    (or_by (is_prefixed (76 ∷ []) (is_quoted 39) text) false (P text) (prefixed_form 76 39 P l text) (λ h. cc))))

str_form : (P : List ℕ → Type 0) → ((bs : List ℕ) → P (34 ∷ bs)) → ((bs : List ℕ) → P (117 ∷ 56 ∷ 34 ∷ bs)) → ((bs : List ℕ) → P (117 ∷ 34 ∷ bs)) → ((bs : List ℕ) → P (85 ∷ 34 ∷ bs)) → ((bs : List ℕ) → P (76 ∷ 34 ∷ bs))
    → (text : List ℕ) → is_str text ≡ true → P text
str_form P e w u v l text =
    or_by (is_quoted 34 text) _ (P text) (quoted_form 34 P e text)
    (or_by (is_prefixed (117 ∷ 56 ∷ []) (is_quoted 34) text) _ (P text) (prefixed_twice_form 117 56 34 P w text)
    (or_by (is_prefixed (117 ∷ []) (is_quoted 34) text) _ (P text) (prefixed_form 117 34 P u text)
    (or_by (is_prefixed (85 ∷ []) (is_quoted 34) text) _ (P text) (prefixed_form 85 34 P v text)
    (or_by (is_prefixed (76 ∷ []) (is_quoted 34) text) false (P text) (prefixed_form 76 34 P l text) (λ h. cc)))))

-- a character constant is no identifier and no number
char_plain : (language : Language) (bs : List ℕ) → (is_identifier language (39 ∷ bs) || is_number language (39 ∷ bs)) ≡ false
char_plain language [] = refl
char_plain language (d ∷ ds) = refl

char_u : (language : Language) (bs : List ℕ) → (is_identifier language (117 ∷ 39 ∷ bs) || is_number language (117 ∷ 39 ∷ bs)) ≡ false
char_u language [] = refl
char_u language (d ∷ ds) = refl

char_U : (language : Language) (bs : List ℕ) → (is_identifier language (85 ∷ 39 ∷ bs) || is_number language (85 ∷ 39 ∷ bs)) ≡ false
char_U language [] = refl
char_U language (d ∷ ds) = refl

char_L : (language : Language) (bs : List ℕ) → (is_identifier language (76 ∷ 39 ∷ bs) || is_number language (76 ∷ 39 ∷ bs)) ≡ false
char_L language [] = refl
char_L language (d ∷ ds) = refl

char_alone : (language : Language) (text : List ℕ) → is_char text ≡ true → (is_identifier language text || is_number language text) ≡ false
char_alone language text h = char_form (λ t. (is_identifier language t || is_number language t) ≡ false) (char_plain language) (char_u language) (char_U language) (char_L language) text h

-- a string literal is none of these
str_plain : (language : Language) (bs : List ℕ) → (is_identifier language (34 ∷ bs) || is_number language (34 ∷ bs) || is_char (34 ∷ bs)) ≡ false
str_plain language [] = refl
str_plain language (d ∷ ds) = refl

str_u8 : (language : Language) (bs : List ℕ) → (is_identifier language (117 ∷ 56 ∷ 34 ∷ bs) || is_number language (117 ∷ 56 ∷ 34 ∷ bs) || is_char (117 ∷ 56 ∷ 34 ∷ bs)) ≡ false
str_u8 language [] = refl
str_u8 language (d ∷ ds) = refl

str_u : (language : Language) (bs : List ℕ) → (is_identifier language (117 ∷ 34 ∷ bs) || is_number language (117 ∷ 34 ∷ bs) || is_char (117 ∷ 34 ∷ bs)) ≡ false
str_u language [] = refl
str_u language (d ∷ ds) = refl

str_U : (language : Language) (bs : List ℕ) → (is_identifier language (85 ∷ 34 ∷ bs) || is_number language (85 ∷ 34 ∷ bs) || is_char (85 ∷ 34 ∷ bs)) ≡ false
str_U language [] = refl
str_U language (d ∷ ds) = refl

str_L : (language : Language) (bs : List ℕ) → (is_identifier language (76 ∷ 34 ∷ bs) || is_number language (76 ∷ 34 ∷ bs) || is_char (76 ∷ 34 ∷ bs)) ≡ false
str_L language [] = refl
str_L language (d ∷ ds) = refl

str_alone : (language : Language) (text : List ℕ) → is_str text ≡ true → (is_identifier language text || is_number language text || is_char text) ≡ false
str_alone language text h = str_form (λ t. (is_identifier language t || is_number language t || is_char t) ≡ false) (str_plain language) (str_u8 language) (str_u language) (str_U language) (str_L language) text h

-- no punctuator is one of these
fails : (b : Bool) → not b ≡ true → b ≡ false
fails true h = cc
fails false h = refl

pub none_of : (test : List ℕ → Bool) (text : List ℕ) (ps : List (List ℕ)) → list_all (λ p. not (test p)) ps ≡ true → list_any (bytes_eq text) ps ≡ true → test text ≡ false
none_of test text [] a h = cc
none_of test text (p ∷ ps) a h =
    or_by (bytes_eq text p) (list_any (bytes_eq text) ps) (test text ≡ false)
    (λ e. ap test ((bytes_eq-Decides text p).0 e) ∙ fails (test p) (and_left (not (test p)) (list_all (λ q. not (test q)) ps) a))
    (none_of test text ps (and_right (not (test p)) (list_all (λ q. not (test q)) ps) a))
    h

punct_alone : (language : Language) (text : List ℕ) → is_punct text ≡ true → (is_identifier language text || is_number language text || is_char text || is_str text) ≡ false
punct_alone language text h = none_of (λ t. is_identifier language t || is_number language t || is_char t || is_str t) text punctuators refl h

-- the class that is found is the one in which the text lies
class_of-is : (language : Language) (kind : Kind) (text : List ℕ) → kind ≢ HeaderName → is_spelling language kind text ≡ true → class_of language text ≡ Some kind
class_of-is language HeaderName text other h = absurd (other refl)
class_of-is language Identifier text other h = if_true (is_identifier language text) (Some Identifier) _ h
class_of-is language Number text other h =
    if_false (is_identifier language text) _ _ (not_both (is_identifier language text) (λ i. identifier_or_number language text i h)) ∙ if_true (is_number language text) (Some Number) _ h
class_of-is language Char text other h =
    let a = or_false (is_identifier language text) (is_number language text) (char_alone language text h) in
    if_false (is_identifier language text) _ _ a.0 ∙ if_false (is_number language text) _ _ a.1 ∙ if_true (is_char text) (Some Char) _ h
class_of-is language Str text other h =
    let b = or_false (is_identifier language text || is_number language text) (is_char text) (str_alone language text h) in
    let a = or_false (is_identifier language text) (is_number language text) b.0 in
    if_false (is_identifier language text) _ _ a.0 ∙ if_false (is_number language text) _ _ a.1 ∙ if_false (is_char text) _ _ b.1 ∙ if_true (is_str text) (Some Str) _ h
class_of-is language Punct text other h =
    let d = or_false (is_identifier language text || is_number language text || is_char text) (is_str text) (punct_alone language text h) in
    let b = or_false (is_identifier language text || is_number language text) (is_char text) d.0 in
    let a = or_false (is_identifier language text) (is_number language text) b.0 in
    if_false (is_identifier language text) _ _ a.0 ∙ if_false (is_number language text) _ _ a.1 ∙ if_false (is_char text) _ _ b.1 ∙ if_false (is_str text) _ _ d.1 ∙ if_true (is_punct text) (Some Punct) _ h
class_of-is language Other text other h =
    let above = fails (is_one_above language text) (and_left (not (is_one_above language text)) _ h) in
    let e = or_false (is_identifier language text || is_number language text || is_char text || is_str text) (is_punct text) above in
    let d = or_false (is_identifier language text || is_number language text || is_char text) (is_str text) e.0 in
    let b = or_false (is_identifier language text || is_number language text) (is_char text) d.0 in
    let a = or_false (is_identifier language text) (is_number language text) b.0 in
    if_false (is_identifier language text) _ _ a.0 ∙ if_false (is_number language text) _ _ a.1 ∙ if_false (is_char text) _ _ b.1 ∙ if_false (is_str text) _ _ d.1 ∙ if_false (is_punct text) _ _ e.1
    ∙ if_true (is_other language text) (Some Other) None h

pub one_class : (language : Language) (a b : Kind) (text : List ℕ) → a ≢ HeaderName → b ≢ HeaderName → IsTrue (is_spelling language a text) → IsTrue (is_spelling language b text) → a ≡ b
one_class language a b text p q h k = let e : Some a ≡ Some b = sym (class_of-is language a text p h) ∙ class_of-is language b text q k in cc
