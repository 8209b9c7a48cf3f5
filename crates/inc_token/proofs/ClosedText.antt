-- Text that does not end in what a splice of lines may begin with: `\`, and white space that may be in a splice.
use Rattle.std.proofs.Common.{◌≡◌, ◌≢◌, ℕ, zero, suc, ◌+◌, ◌==◌, ◌&&◌, ◌||◌, Bool, true, false, cond, List, [], ◌∷◌, ◌++◌, Option, Some, None, length, drop, option_map, nat_eq, codes, bytes_eq, eqb, refl, sym, ap, ◌∙◌, subst, arith}
use Rattle.std.specs.List.{starts_with}
use Rattle.std.specs.Option.{option_map_or}
use Rattle.std.proofs.lemmas.Bool.{cond-false, eqb-true}
use Rattle.inc_text.specs.PhaseText.{is_passed}
use Rattle.inc_text.specs.declared.languages.Language.{Language}
use Rattle.inc_text.specs.declared.languages.Language.TheVariants.{C17, Extended, Gnu}
use Rattle.inc_token.specs.Spellings.{is_blank}
use Rattle.inc_token.specs.TokenLines.{block_comment, comment_rest, line_comment, line_part, piece_at, piece_len, token_at}
use Rattle.inc_token.specs.declared.pieces.Piece.{Piece}
use Rattle.inc_token.specs.declared.pieces.Piece.TheVariants.{Blank, NewLine, Lexeme, Unclosed}
use Rattle.inc_token.specs.declared.pieces.Progress.{Progress}
use Rattle.inc_token.proofs.SamePieces.{IsToken, ends_there, goes_on, has_lf, token_is}

-- these bytes are white space that may be in a splice
abbrev pub ArePassed : Language → List ℕ → Type 0
ArePassed language [] = Unit {0}
ArePassed language (b ∷ bs) = (is_passed language b ≡ true) × ArePassed language bs

-- the bytes do not end in `\` and such white space
abbrev pub AreClosed : Language → List ℕ → Type 0
AreClosed language [] = Unit {0}
AreClosed language (b ∷ bs) = (b ≡ 92 → ArePassed language bs → ⊥) × AreClosed language bs

-- no such white space is one of these
pub passed_other : (language : Language) (k b : ℕ) → is_passed Gnu k ≡ false → is_passed language b ≡ true → b ≡ k → ⊥
passed_other C17 k b fails passes is = cc
passed_other Extended k b fails passes is = cc
passed_other Gnu k b fails passes is = let clash : false ≡ true = sym fails ∙ ap (is_passed Gnu) (sym is) ∙ passes in cc

passed_left : (language : Language) (xs ys : List ℕ) → ArePassed language (xs ++ ys) → ArePassed language xs
passed_left language [] ys h = tt
passed_left language (x ∷ xs) ys h = (h.0, passed_left language xs ys h.1)

passed_right : (language : Language) (xs ys : List ℕ) → ArePassed language (xs ++ ys) → ArePassed language ys
passed_right language [] ys h = h
passed_right language (x ∷ xs) ys h = passed_right language xs ys h.1

pub closed_both : (language : Language) (xs ys : List ℕ) → AreClosed language xs → AreClosed language ys → AreClosed language (xs ++ ys)
closed_both language [] ys h k = k
closed_both language (x ∷ xs) ys h k =
    ((λ is all. h.0 is (passed_left language xs ys all)), closed_both language xs ys h.1 k)

no_lf : (language : Language) (ys : List ℕ) → ArePassed language ys → has_lf ys ≡ true → ⊥
no_lf language [] h lf = cc
no_lf language (y ∷ ys) h lf = by (y == 10) refl (no_lf language ys h.1) lf where
  by : (t : Bool) {u : Bool} → (y == 10) ≡ t → (u ≡ true → ⊥) → (t || u) ≡ true → ⊥
  by true is rest held = passed_other language 10 y refl h.0 (eqb-true y 10 is)
  by false is rest held = rest held

-- behind any text stands one with an LF
pub closed_lf : (language : Language) (xs ys : List ℕ) → has_lf ys ≡ true → AreClosed language ys → AreClosed language (xs ++ ys)
closed_lf language [] ys lf h = h
closed_lf language (x ∷ xs) ys lf h =
    ((λ is all. no_lf language ys (passed_right language xs ys all) lf), closed_lf language xs ys lf h)

---- white space and comments

abbrev found : Option ℕ → ℕ
found None = 0
found (Some n) = n

no_end : (bs : List ℕ) → comment_rest bs ≡ Some 0 → ⊥
no_end [] is = cc
no_end (a ∷ []) is = cc
no_end (a ∷ b ∷ bs) is = by (bytes_eq (a ∷ b ∷ []) (codes "*/")) (comment_rest (b ∷ bs)) is where
  by : (t : Bool) (o : Option ℕ) → cond t (Some 2) (option_map (λ n. 1 + n) o) ≡ Some 0 → ⊥
  by true o is = cc
  by false None is = cc
  by false (Some n) is = let e : 1 + n ≡ 0 = ap found is in omega (arith, e)

both_bytes : (a b : ℕ) (s t : Bool) → (b == 47) ≡ t → (s && (t && true)) ≡ true → b ≡ 47
both_bytes a b true true is h = eqb-true b 47 is
both_bytes a b true false is h = cc
both_bytes a b false t is h = cc

-- bytes that do not end in `\` and such white space, nor are such white space
abbrev AreEnded : Language → List ℕ → Type 0
AreEnded language xs = (ArePassed language xs → ⊥) × AreClosed language xs

no_slash : (b : ℕ) → b ≡ 47 → b ≡ 92 → ⊥
no_slash b slash back = let clash : false ≡ true = ap (λ n. eqb n 92) (sym slash ∙ back) in cc

slash_passed : (language : Language) (b : ℕ) → b ≡ 47 → is_passed language b ≡ true → ⊥
slash_passed language b slash passes = passed_other language 47 b refl passes slash

two_ended : (language : Language) (a b : ℕ) → (is_passed language b ≡ true → ⊥) → (b ≡ 92 → ⊥) → AreEnded language (a ∷ b ∷ [])
two_ended language a b off other = ((λ h. off h.1.0), ((λ e h. off h.0), ((λ e h. other e), tt)))

end_two : (language : Language) (a b : ℕ) (front : List ℕ) → b ≡ 47 → length (a ∷ b ∷ front) ≡ 2 → AreEnded language (a ∷ b ∷ front)
end_two language a b (c ∷ cs) last size = absurd (omega (arith, size))
end_two language a b [] last size = two_ended language a b (slash_passed language b last) (no_slash b last)

end_later : (language : Language) (a : ℕ) (xs : List ℕ) → AreEnded language xs → AreEnded language (a ∷ xs)
end_later language a xs r = ((λ h. r.0 h.1), ((λ e h. r.0 h), r.1))

end_by : (language : Language) (a b : ℕ) (front : List ℕ) (t : Bool) (o : Option ℕ) → (t ≡ true → b ≡ 47)
    → (o ≡ Some (length (b ∷ front)) → AreEnded language (b ∷ front))
    → cond t (Some 2) (option_map (λ n. 1 + n) o) ≡ Some (length (a ∷ b ∷ front)) → AreEnded language (a ∷ b ∷ front)
end_by language a b front true o last rest is =
    let size : 2 ≡ length (a ∷ b ∷ front) = ap found is in end_two language a b front (last refl) (sym size)
end_by language a b front false None last rest is = cc
end_by language a b front false (Some n) last rest is =
    let size : 1 + n ≡ length (a ∷ b ∷ front) = ap found is in
    let one : n ≡ length (b ∷ front) = omega (arith, size) in end_later language a (b ∷ front) (rest (ap Some one))

one_end : (t : Bool) (o : Option ℕ) → (o ≡ Some 0 → ⊥) → cond t (Some 2) (option_map (λ n. 1 + n) o) ≡ Some 1 → ⊥
one_end true o none is = let e : 2 ≡ 1 = ap found is in omega (arith, e)
one_end false None none is = let e : 0 ≡ 1 = ap found is in omega (arith, e)
one_end false (Some zero) none is = none refl
one_end false (Some (suc n)) none is = let e : 1 + suc n ≡ 1 = ap found is in omega (arith, e)

-- what a comment ends with
ends : (language : Language) (a : ℕ) (front old : List ℕ) → comment_rest (a ∷ (front ++ old)) ≡ Some (length (a ∷ front))
    → AreEnded language (a ∷ front)
ends language a [] [] is = cc
ends language a [] (b ∷ bs) is =
    absurd (one_end (bytes_eq (a ∷ b ∷ []) (codes "*/")) (comment_rest (b ∷ bs)) (no_end (b ∷ bs)) is)
ends language a (b ∷ front) old is =
    end_by language a b front (bytes_eq (a ∷ b ∷ []) (codes "*/")) (comment_rest (b ∷ (front ++ old)))
    (both_bytes a b (a == 42) (b == 47) refl) (ends language b front old) is

-- white space or a comment that a piece of its line follows
pub gap_closed : (language : Language) (progress : Progress) (b : ℕ) (front old : List ℕ) → goes_on old ≡ true
    → piece_at language progress (b ∷ (front ++ old)) ≡ Blank (length (b ∷ front)) → AreClosed language (b ∷ front)
gap_closed language progress b front old on is =
    by (is_blank b) (starts_with nat_eq (b ∷ (front ++ old)) (codes "/*")) (starts_with nat_eq (b ∷ (front ++ old)) (codes "//")) (b == 10)
    refl refl (token_at language progress (line_part (b ∷ (front ++ old)))) (token_is language progress (line_part (b ∷ (front ++ old)))) is
  where
    blank_alone : (front : List ℕ) → is_blank b ≡ true → Blank 1 ≡ Blank (length (b ∷ front)) → AreClosed language (b ∷ front)
    blank_alone [] white e = ((λ at h. let clash : false ≡ true = ap is_blank (sym at) ∙ white in cc), tt)
    blank_alone (c ∷ cs) white e = cc

    rest_of : (bs : List ℕ) (n : ℕ) (o : Option ℕ) → o ≡ comment_rest bs → option_map_or (λ k. Blank (2 + k)) o Unclosed ≡ Blank (suc (suc n))
        → comment_rest bs ≡ Some n
    rest_of bs n None at e = cc
    rest_of bs n (Some k) at e = let same : 2 + k ≡ suc (suc n) = ap piece_len e in
        let one : k ≡ n = omega (arith, same) in sym at ∙ ap Some one

    short : (o : Option ℕ) → option_map_or (λ k. Blank (2 + k)) o Unclosed ≡ Blank 1 → ⊥
    short None e = cc
    short (Some k) e = let same : 2 + k ≡ 1 = ap piece_len e in omega (arith, same)

    inside : (front : List ℕ) → comment_rest (front ++ old) ≡ Some (length front) → AreClosed language front
    inside [] e = tt
    inside (c ∷ cs) e = (ends language c cs old e).1

    second : (c : ℕ) (s t : Bool) → (42 == c) ≡ t → (s && (t && true)) ≡ true → 42 ≡ c
    second c true true at h = eqb-true 42 c at
    second c true false at h = cc
    second c false t at h = cc

    star : (front : List ℕ) → starts_with nat_eq (b ∷ (front ++ old)) (codes "/*") ≡ true
        → block_comment (b ∷ (front ++ old)) ≡ Blank (length (b ∷ front)) → AreClosed language (b ∷ front)
    star [] begins e = absurd (short (comment_rest (drop 1 old)) e)
    star (c ∷ cs) begins e =
        let rest = inside cs (rest_of (cs ++ old) (length cs) (comment_rest (cs ++ old)) refl e) in
        let at : 42 ≡ c = second c (47 == b) (42 == c) refl begins in (
          (λ back h. let clash : starts_with nat_eq (92 ∷ c ∷ (cs ++ old)) (codes "/*") ≡ true =
              subst (λ x. starts_with nat_eq (x ∷ c ∷ (cs ++ old)) (codes "/*") ≡ true) back begins in cc),
          ((λ back h. let clash : false ≡ true = ap (λ n. eqb n 92) (at ∙ back) in cc), rest),
        )

    by : (s t u v : Bool) → is_blank b ≡ s → starts_with nat_eq (b ∷ (front ++ old)) (codes "/*") ≡ t → (x : Piece) → IsToken x
        → cond s (Blank 1) (cond t (block_comment (b ∷ (front ++ old))) (cond u (line_comment (b ∷ (front ++ old))) (cond v NewLine x)))
        ≡ Blank (length (b ∷ front)) → AreClosed language (b ∷ front)
    by true t u v white begins x token e = blank_alone front white e
    by false true u v white begins x token e = star front begins e
    by false false true v white begins x token e = absurd (ends_there (b ∷ front) old on (ap piece_len e))
    by false false false true white begins x token e = cc
    by false false false false white begins x token e = absurd (subst IsToken e token)
