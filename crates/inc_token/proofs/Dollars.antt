-- A token of C17 of two bytes or more lies in its class in every language.
use Rattle.std.proofs.Common.{◌≡◌, ℕ, zero, suc, ◌-◌, ◌<◌, ◌≤◌, Bool, true, false, not, ◌&&◌, List, [], ◌∷◌, length, cond, nat_lt, ◌==◌, refl, sym, ap, ◌∙◌, subst, arith}
use Rattle.std.proofs.lemmas.Bool.{and_from, and_parts, and_right, ltb-true, true≢false}
use Rattle.inc_text.specs.declared.languages.Language.{Language}
use Rattle.inc_text.specs.declared.languages.Language.TheVariants.{C17, Extended, Gnu}
use Rattle.inc_token.specs.declared.kinds.Kind.{Kind}
use Rattle.inc_token.specs.declared.kinds.Kind.TheVariants.{HeaderName, Identifier, Number, Char, Str, Punct, Other}
use Rattle.inc_token.specs.Spellings.{is_digit, is_letter, is_exponent_letter, is_row, begins_number, universal_len, nondigit_len, identifier_part, number_part, is_identifier, is_lone, is_number, is_one_above, is_spelling}
use Rattle.inc_token.specs.Scanning.{begins_with_sign}
use Rattle.inc_token.proofs.Rows.{differs}
use Rattle.inc_token.proofs.Words.{universal_other}

-- a row of parts is one of other parts too, where these are the same at each place that has one
grown : (p q : List ℕ → ℕ) → ((text : List ℕ) → 0 < p text → q text ≡ p text) → (left : ℕ) (text : List ℕ) → is_row p left text ≡ true → is_row q left text ≡ true
grown p q same left [] h = h
grown p q same (suc left) (b ∷ bs) h = grown p q same left bs h
grown p q same zero (b ∷ bs) h =
    let parts = and_parts (nat_lt 0 (p (b ∷ bs))) (is_row p (p (b ∷ bs) - 1) bs) h in
    let is = same (b ∷ bs) (ltb-true 0 (p (b ∷ bs)) parts.0) in
    subst (λ n. (nat_lt 0 n && is_row q (n - 1) bs) ≡ true) (sym is)
    (and_from (nat_lt 0 (p (b ∷ bs))) (is_row q (p (b ∷ bs) - 1) bs) parts.0 (grown p q same (p (b ∷ bs) - 1) bs parts.1))

-- a $ begins no universal character name
no_name : (b : ℕ) (bs : List ℕ) → (b == 36) ≡ true → universal_len (b ∷ bs) ≡ 0
no_name b bs is = universal_other b bs (differs (λ x. x == 36) 92 b refl is)

nondigit_by : (l t : Bool) (u : ℕ) → (t ≡ true → u ≡ 0) → 0 < cond l 1 (cond (t && false) 1 u) → cond l 1 (cond (t && true) 1 u) ≡ cond l 1 (cond (t && false) 1 u)
nondigit_by true t u none some = refl
nondigit_by false true u none some = absurd (omega (arith, some, none refl))
nondigit_by false false u none some = refl

same_nondigit : (text : List ℕ) → 0 < nondigit_len C17 text → nondigit_len Gnu text ≡ nondigit_len C17 text
same_nondigit [] some = refl
same_nondigit (b ∷ bs) some = nondigit_by (is_letter b) (b == 36) (universal_len (b ∷ bs)) (no_name b bs) some

part_by : (d : Bool) (x y : ℕ) → (0 < x → y ≡ x) → 0 < cond d 1 x → cond d 1 y ≡ cond d 1 x
part_by true x y f some = refl
part_by false x y f some = f some

same_part : (text : List ℕ) → 0 < identifier_part C17 text → identifier_part Gnu text ≡ identifier_part C17 text
same_part [] some = refl
same_part (b ∷ bs) some = part_by (is_digit b) (nondigit_len C17 (b ∷ bs)) (nondigit_len Gnu (b ∷ bs)) (same_nondigit (b ∷ bs)) some

number_by : (e t : Bool) (x y : ℕ) → (0 < x → y ≡ x) → 0 < cond e 2 (cond t 1 x) → cond e 2 (cond t 1 y) ≡ cond e 2 (cond t 1 x)
number_by true t x y f some = refl
number_by false true x y f some = refl
number_by false false x y f some = f some

same_number : (text : List ℕ) → 0 < number_part C17 text → number_part Gnu text ≡ number_part C17 text
same_number [] some = refl
same_number (b ∷ []) some = part_by (b == 46) (identifier_part C17 (b ∷ [])) (identifier_part Gnu (b ∷ [])) (same_part (b ∷ [])) some
same_number (a ∷ b ∷ bs) some =
    number_by (is_exponent_letter a && begins_with_sign (b ∷ bs)) (a == 46) (identifier_part C17 (a ∷ b ∷ bs)) (identifier_part Gnu (a ∷ b ∷ bs)) (same_part (a ∷ b ∷ bs)) some

gnu_identifier : (text : List ℕ) → is_identifier C17 text ≡ true → is_identifier Gnu text ≡ true
gnu_identifier text h =
    let parts = and_parts (nat_lt 0 (nondigit_len C17 text)) (is_row (identifier_part C17) 0 text) h in
    and_from (nat_lt 0 (nondigit_len Gnu text)) (is_row (identifier_part Gnu) 0 text)
    (ap (λ n. nat_lt 0 n) (same_nondigit text (ltb-true 0 (nondigit_len C17 text) parts.0)) ∙ parts.0)
    (grown (identifier_part C17) (identifier_part Gnu) same_part 0 text parts.1)

gnu_number : (text : List ℕ) → is_number C17 text ≡ true → is_number Gnu text ≡ true
gnu_number text h =
    let parts = and_parts (begins_number text) (is_row (number_part C17) 0 text) h in
    and_from (begins_number text) (is_row (number_part Gnu) 0 text) parts.0 (grown (number_part C17) (number_part Gnu) same_number 0 text parts.1)

gnu_spelling : (kind : Kind) (text : List ℕ) → 2 ≤ length text → is_spelling C17 kind text ≡ true → is_spelling Gnu kind text ≡ true
gnu_spelling HeaderName text some h = h
gnu_spelling Identifier text some h = gnu_identifier text h
gnu_spelling Number text some h = gnu_number text h
gnu_spelling Char text some h = h
gnu_spelling Str text some h = h
gnu_spelling Punct text some h = h
gnu_spelling Other [] some h = absurd (omega (arith, some))
gnu_spelling Other (a ∷ []) some h = absurd (omega (arith, some))
gnu_spelling Other (a ∷ b ∷ bs) some h = absurd (true≢false (sym h ∙ and_right (not (is_one_above C17 (a ∷ b ∷ bs))) _ (and_right (is_lone (a ∷ b ∷ bs)) false refl)))

extended_spelling : (kind : Kind) (text : List ℕ) → is_spelling C17 kind text ≡ true → is_spelling Extended kind text ≡ true
extended_spelling HeaderName text h = h
extended_spelling Identifier text h = h
extended_spelling Number text h = h
extended_spelling Char text h = h
extended_spelling Str text h = h
extended_spelling Punct text h = h
extended_spelling Other text h = h

pub spelled_anywhere : (language : Language) (kind : Kind) (text : List ℕ) → 2 ≤ length text → is_spelling C17 kind text ≡ true → is_spelling language kind text ≡ true
spelled_anywhere C17 kind text some h = h
spelled_anywhere Extended kind text some h = extended_spelling kind text h
spelled_anywhere Gnu kind text some h = gnu_spelling kind text some h

-- no class has the empty text
pub spelled_some : (language : Language) (kind : Kind) (text : List ℕ) → is_spelling language kind text ≡ true → 1 ≤ length text
spelled_some language kind (b ∷ bs) h = omega arith
spelled_some language HeaderName [] h = cc
spelled_some language Identifier [] h = cc
spelled_some language Number [] h = cc
spelled_some language Char [] h = cc
spelled_some language Str [] h = cc
spelled_some language Punct [] h = cc
spelled_some language Other [] h = cc
