-- Decimal digits, one by one.
use Rattle.std.proofs.Common.{◌≡◌, ℕ, ◌+◌, ◌*◌, ◌<◌, ◌≤◌, Bool, true, false, ◌&&◌, List, [], ◌∷◌, Some, None, length, drop, get_or, nat_le, cond, refl, sym, ap, ◌∙◌, arith}
use Rattle.std.specs.List.{list_all}
use Rattle.std.proofs.lemmas.Bool.{lt-leb, leb-false}
use Rattle.inc_token.specs.Spellings.{is_digit}
use Rattle.inc_cond.specs.Constants.{digit_of}
use Rattle.inc_expand.proofs.CallSteps.{drop-at}
use Rattle.inc_pp.proofs.Decimals.{behind, if_within, decimal_from}

-- digits only make a number greater
grows : (n most : ℕ) (bs : List ℕ) → most ≤ n → most ≤ behind n bs
grows n most [] h = h
grows n most (b ∷ bs) h = grows (n * 10 + digit_of b) most bs (omega arith)

-- a number that is too large is none
over : (most : ℕ) (digits : Bool) (n : ℕ) → most < n → if_within most digits n ≡ None
over most digits n h = rw (lt-leb n most h) (by digits)
  where
    by : (d : Bool) → cond (d && false) (Some n) None ≡ None
    by true = refl
    by false = refl

-- the byte is no digit, or the number is too large with it
refused : (most n b : ℕ) (bs : List ℕ) (x y : Bool) → is_digit b ≡ x → nat_le (n * 10 + digit_of b) most ≡ y →
    cond (x && y) (Some (n * 10 + digit_of b)) None ≡ None → decimal_from most n (b ∷ bs) ≡ None
refused most n b bs false y is le e = rw is refl
refused most n b bs true false is le e =
    let low : most < n * 10 + digit_of b = leb-false (n * 10 + digit_of b) most le in
    over most (list_all is_digit (b ∷ bs)) (behind (n * 10 + digit_of b) bs)
    (let more = grows (n * 10 + digit_of b) (most + 1) bs (omega (arith, low)) in omega (arith, more))
refused most n b bs true true is le e = cc

-- what is left of a text
pub refused-at : (most : ℕ) (text : List ℕ) (i n : ℕ) → i < length text → decimal_from most n (drop i text) ≡ decimal_from most 0 text →
    cond (is_digit (get_or text i 0) && nat_le (n * 10 + digit_of (get_or text i 0)) most) (Some (n * 10 + digit_of (get_or text i 0))) None ≡ None →
    decimal_from most 0 text ≡ None
refused-at most text i n l so_far e =
    let b = get_or text i 0 in
    sym so_far ∙ ap (decimal_from most n) (drop-at text i 0 l)
    ∙ refused most n b (drop (i + 1) text) (is_digit b) (nat_le (n * 10 + digit_of b) most) refl refl e
