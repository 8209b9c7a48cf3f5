-- Strings that `#` makes, token by token.
use Rattle.std.proofs.Common.{◌≡◌, ℕ, zero, suc, ◌+◌, ◌<◌, ◌≤◌, Bool, true, false, ◌&&◌, ◌||◌, ◌==◌, if◌then◌else◌, nat_lt, List, [], ◌∷◌, ◌++◌, length, drop, get_or, refl, sym, ap, ap₂, ◌∙◌, subst, arith, append_assoc, length-append, Result, Ok, Err, lt-ltb, le-ltb}
use Rattle.std.proofs.lemmas.List.{append-nil, drop_all}
use Rattle.std.proofs.lemmas.Bool.{cond-true, cond-false}
use Rattle.inc_text.specs.Ascii.{quotation_mark, backslash, blank}
use Rattle.inc_expand.specs.declared.carried.Carried.{Carried}
use Rattle.inc_expand.specs.declared.faults.ExpandFault.{ExpandFault}
use Rattle.inc_expand.specs.declared.faults.ExpandFault.TheVariants.{TokenTooLong, BadString}
use Rattle.std.proofs.Math.Path.{fun_ext}
use Rattle.inc_macro.specs.Results.{◌>>=◌}
use Rattle.inc_token.specs.Spellings.{class_of}
use Rattle.inc_token.specs.declared.kinds.Kind.TheVariants.{Str}
use Rattle.inc_expand.specs.Sets.{Sets}
use Rattle.inc_expand.specs.Expansion.{Carrier, is_literal, escaped, spelled_token, spelled, spaced, in_quotes, fits, longest_made, is_str, string_of, no_names, Names}
use Rattle.inc_expand.specs.Carriers.{carrier, carriers}
use Rattle.inc_expand.proofs.CallSteps.{drop-at}
use Rattle.inc_text.specs.declared.languages.Language.TheVariants.{C17}

pub escaped-cons : (b : ℕ) (bs : List ℕ) → escaped (b ∷ bs) ≡ escaped (b ∷ []) ++ escaped bs
escaped-cons b bs = by ((b == quotation_mark) || (b == backslash))
  where
    by : (t : Bool) → (if t then backslash ∷ b ∷ escaped bs else b ∷ escaped bs) ≡ (if t then backslash ∷ b ∷ [] else b ∷ []) ++ escaped bs
    by true = refl
    by false = refl

-- one more byte
pub escaped-more : (text bytes old new : List ℕ) (i : ℕ) → i < length bytes → old ++ escaped (drop i bytes) ≡ text ++ escaped bytes →
    new ≡ old ++ escaped (get_or bytes i 0 ∷ []) → new ++ escaped (drop (i + 1) bytes) ≡ text ++ escaped bytes
escaped-more text bytes old new i l so_far e =
    ap (λ t. t ++ escaped (drop (i + 1) bytes)) e ∙ append_assoc old (escaped (get_or bytes i 0 ∷ [])) (escaped (drop (i + 1) bytes))
    ∙ ap (λ t. old ++ t) (sym (escaped-cons (get_or bytes i 0) (drop (i + 1) bytes)) ∙ ap escaped (sym (drop-at bytes i 0 l)))
    ∙ so_far

pub escaped-all : (text bytes new : List ℕ) (i : ℕ) → length bytes ≤ i → new ++ escaped (drop i bytes) ≡ text ++ escaped bytes → new ≡ text ++ escaped bytes
escaped-all text bytes new i l e = sym (append-nil new) ∙ ap (λ t. new ++ escaped t) (sym (drop_all i bytes l)) ∙ e

pub escaped-length : (bs : List ℕ) → length bs ≤ length (escaped bs)
escaped-length [] = omega arith
escaped-length (b ∷ bs) = by ((b == quotation_mark) || (b == backslash)) (escaped-length bs)
  where
    by : (t : Bool) → length bs ≤ length (escaped bs) → length (b ∷ bs) ≤ length (if t then backslash ∷ b ∷ escaped bs else b ∷ escaped bs)
    by true h = omega arith
    by false h = omega arith

pub spelled-length : (t : Carrier) → length t.spelling ≤ length (spelled_token t)
spelled-length t = by (is_literal t.kind)
  where
    by : (b : Bool) → length t.spelling ≤ length (if b then escaped t.spelling else t.spelling)
    by true = escaped-length t.spelling
    by false = omega arith

-- what is left of the string at a token
abbrev pub string_rest : Sets → ℕ → List Carried → List ℕ
string_rest s zero all = spelled (spaced false (carriers s all))
string_rest s (suc i) all = spelled (carriers s (drop (suc i) all))

-- what a token adds
abbrev pub added_by : Sets → ℕ → Carried → List ℕ
added_by s i t = (if t.space && nat_lt 0 i then blank ∷ [] else []) ++ spelled_token (carrier s t)

pub string-step : (s : Sets) (all : List Carried) (i : ℕ) (d : Carried) → i < length all →
    string_rest s i all ≡ added_by s i (get_or all i d) ++ string_rest s (i + 1) all
string-step s [] zero d l = absurd (omega arith)
string-step s (t ∷ ts) zero d l = ap (λ b. ((if b then blank ∷ [] else []) ++ spelled_token (carrier s t)) ++ spelled (carriers s ts)) (sym (both t.space))
  where
    both : (b : Bool) → (b && false) ≡ false
    both true = refl
    both false = refl
string-step s all (suc i) d l =
    ap (λ ts. spelled (carriers s ts)) (drop-at all (suc i) d l)
    ∙ ap (λ b. ((if b then blank ∷ [] else []) ++ spelled_token (carrier s (get_or all (suc i) d))) ++ spelled (carriers s (drop (suc i + 1) all))) (sym (both (get_or all (suc i) d).space (nat_lt 0 (suc i)) (lt-ltb 0 (suc i) (omega arith))))
    ∙ ap (λ r. added_by s (suc i) (get_or all (suc i) d) ++ r) (rest (suc i + 1) (i + 1) (omega arith))
  where
    both : (a b : Bool) → b ≡ true → (a && b) ≡ a
    both true b e = e
    both false b e = refl

    rest : (m n : ℕ) → m ≡ suc n → spelled (carriers s (drop m all)) ≡ string_rest s m all
    rest m n e = ap (λ k. spelled (carriers s (drop k all))) e ∙ ap (λ k. string_rest s k all) (sym e)

-- the string so far and what is left of it
abbrev pub IsBegun : List Carried → ℕ → List ℕ → Type 0
IsBegun all i text = (s : Sets) → quotation_mark ∷ string_rest s 0 all ≡ text ++ string_rest s i all

pub begun-more : (all : List Carried) (i : ℕ) (d : Carried) (text new : List ℕ) → i < length all → IsBegun all i text →
    (shown : Bool) → shown ≡ ((get_or all i d).space && nat_lt 0 i) →
    ((s : Sets) → new ≡ text ++ ((if shown then blank ∷ [] else []) ++ spelled_token (carrier s (get_or all i d)))) → IsBegun all (i + 1) new
begun-more all i d text new l b shown is e s =
    b s ∙ ap (λ r. text ++ r) (string-step s all i d l) ∙ sym (append_assoc text (added_by s i (get_or all i d)) (string_rest s (i + 1) all))
    ∙ ap (λ t. t ++ string_rest s (i + 1) all) (sym (e s ∙ ap (λ w. text ++ ((if w then blank ∷ [] else []) ++ spelled_token (carrier s (get_or all i d)))) is))

whole-length : (s : Sets) (all : List Carried) (text rest : List ℕ) → quotation_mark ∷ string_rest s 0 all ≡ text ++ rest →
    length (in_quotes (spelled (spaced false (carriers s all)))) ≡ length text + length rest + 1
whole-length s all text rest e =
    length-append (quotation_mark ∷ string_rest s 0 all) (quotation_mark ∷ []) ∙ ap (λ t. length t + 1) e ∙ ap (λ n. n + 1) (length-append text rest)

pub too-long : (s : Sets) (all : List Carried) (i : ℕ) (text : List ℕ) → IsBegun all i text → longest_made ≤ length text →
    fits (in_quotes (spelled (spaced false (carriers s all)))) ≡ Err TokenTooLong
too-long s all i text b l =
    let n = whole-length s all text (string_rest s i all) (b s) in
    cond-true {A = Result (List ℕ) ExpandFault} _ _ _ (lt-ltb longest_made (length (in_quotes (spelled (spaced false (carriers s all))))) (omega (arith, n, l)))

pub token-too-long : (s : Sets) (all : List Carried) (i : ℕ) (d : Carried) (text : List ℕ) → i < length all → IsBegun all i text →
    longest_made < length (spelled_token (carrier s (get_or all i d))) → fits (in_quotes (spelled (spaced false (carriers s all)))) ≡ Err TokenTooLong
token-too-long s all i d text l b more =
    let n = whole-length s all text (string_rest s i all) (b s) in
    let m = ap length (string-step s all i d l) in
    let k = length-append (added_by s i (get_or all i d)) (string_rest s (i + 1) all) in
    let j = length-append (if (get_or all i d).space && nat_lt 0 i then blank ∷ [] else []) (spelled_token (carrier s (get_or all i d))) in
    cond-true {A = Result (List ℕ) ExpandFault} _ _ _ (lt-ltb longest_made (length (in_quotes (spelled (spaced false (carriers s all))))) (omega (arith, n, m, k, j, more)))

pub whole : (s : Sets) (all : List Carried) (i : ℕ) (text new : List ℕ) → length all ≤ i → IsBegun all i text → length text < longest_made →
    new ≡ text ++ quotation_mark ∷ [] → fits (in_quotes (spelled (spaced false (carriers s all)))) ≡ Ok new
whole s all i text new l b few e =
    let n = whole-length s all text (string_rest s i all) (b s) in
    let z : length (string_rest s i all) ≡ 0 = ap length none in
    cond-false {A = Result (List ℕ) ExpandFault} _ _ _ (le-ltb longest_made (length (in_quotes (spelled (spaced false (carriers s all))))) (subst (λ k. k ≤ longest_made) (sym n) (omega (arith, z, few))))
    ∙ ap (λ t. Ok (t ++ quotation_mark ∷ [])) (b s ∙ ap (λ r. text ++ r) none ∙ append-nil text) ∙ ap Ok (sym e)
  where
    none : string_rest s i all ≡ []
    none = by i l
      where
        first : (ts : List Carried) → length ts ≤ 0 → spelled (spaced false (carriers s ts)) ≡ []
        first [] k = refl
        first (t ∷ ts) k = absurd (omega arith)

        by : (j : ℕ) → length all ≤ j → string_rest s j all ≡ []
        by zero k = first all k
        by (suc j) k = ap (λ ts. spelled (carriers s ts)) (drop_all (suc j) all k)

-- the string as a token
pub string-is : (written : List Carrier) (space : Bool) (text bytes : List ℕ) (hidden : Names) →
    fits (in_quotes (spelled (spaced false written))) ≡ Ok text → is_str (class_of C17 text) ≡ true → bytes ≡ text → ((n : List ℕ) → hidden n ≡ false) →
    string_of space written ≡ Ok (record { kind = Str; spelling = bytes; line = 0; space = space; hidden = hidden })
string-is written space text bytes hidden e k same none =
    ap (λ r. r >>= made) e ∙ cond-true {A = Result Carrier ExpandFault} (is_str (class_of C17 text)) (Ok (token text no_names)) (Err BadString) k
    ∙ ap₂ (λ (t : List ℕ) (h : Names). Ok (token t h)) (sym same) (fun_ext λ n. sym (none n))
  where
    token : List ℕ → Names → Carrier
    token t h = record { kind = Str; spelling = t; line = 0; space = space; hidden = h }

    made : List ℕ → Result Carrier ExpandFault
    made t = if is_str (class_of C17 t) then Ok (token t no_names) else Err BadString

---- the same of the token that was read there

pub begun-with : (all : List Carried) (i : ℕ) (t : Carried) (text new : List ℕ) → get_or all i t ≡ t → i < length all → IsBegun all i text →
    (shown : Bool) → shown ≡ (t.space && nat_lt 0 i) →
    ((s : Sets) → new ≡ text ++ ((if shown then blank ∷ [] else []) ++ spelled_token (carrier s t))) → IsBegun all (i + 1) new
begun-with all i t text new there l b shown is e =
    begun-more all i t text new l b shown (is ∙ ap (λ (u : Carried). u.space && nat_lt 0 i) (sym there))
    (λ s. e s ∙ ap (λ u. text ++ ((if shown then blank ∷ [] else []) ++ spelled_token (carrier s u))) (sym there))

pub too-long-with : (s : Sets) (all : List Carried) (i : ℕ) (t : Carried) (text : List ℕ) → get_or all i t ≡ t → i < length all → IsBegun all i text →
    longest_made < length (spelled_token (carrier s t)) → fits (in_quotes (spelled (spaced false (carriers s all)))) ≡ Err TokenTooLong
too-long-with s all i t text there l b more =
    token-too-long s all i t text l b (subst (λ u. longest_made < length (spelled_token (carrier s u))) (sym there) more)
