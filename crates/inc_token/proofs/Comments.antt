-- A comment, as a loop over its bytes reads it.
use Rattle.std.proofs.Common.{◌≡◌, ℕ, ◌+◌, ◌<◌, ◌≤◌, Bool, true, false, ◌&&◌, List, [], ◌∷◌, Option, Some, None, length, drop, get_or, ◌==◌, refl, sym, ap, ◌∙◌, arith, length-drop}
use Rattle.std.specs.Option.{option_map, option_map_or}
use Rattle.std.proofs.lemmas.Bool.{cond-true, cond-false}
use Rattle.std.proofs.lemmas.List.{drop_more}
use Rattle.inc_token.specs.declared.pieces.Piece.TheVariants.{Blank, Unclosed}
use Rattle.inc_token.proofs.FrontPieces.{comment_of}
use Rattle.inc_token.specs.TokenLines.{comment_rest, block_comment}

comment_of-rest : (r : Option ℕ) → option_map_or (λ n. Blank (2 + n)) r Unclosed ≡ comment_of 2 r
comment_of-rest None = refl
comment_of-rest (Some n) = refl

and_with_true : (s t : Bool) → (s && t) ≡ false → (s && (t && true)) ≡ false
and_with_true false t e = refl
and_with_true true false e = refl
and_with_true true true e = e

pub block_comment-is : (text : List ℕ) → block_comment text ≡ comment_of 2 (comment_rest (drop 2 text))
block_comment-is text = comment_of-rest (comment_rest (drop 2 text))

comment_of-more : (n : ℕ) (r : Option ℕ) → comment_of n (option_map (λ k. 1 + k) r) ≡ comment_of (n + 1) r
comment_of-more n None = refl
comment_of-more n (Some k) = ap Blank (omega arith)

-- the two bytes at a place do not end the comment
pub comment_goes_on : (text : List ℕ) (i n : ℕ) → i + 1 < length text
    → ((get_or text i 0 == 42) && (get_or text (i + 1) 0 == 47)) ≡ false
    → comment_of n (comment_rest (drop i text)) ≡ comment_of (n + 1) (comment_rest (drop (i + 1) text))
comment_goes_on text i n lt others =
    let lt0 : i < length text = omega arith in
    let a = get_or text i 0 in
    let b = get_or text (i + 1) 0 in
    let bs = drop (i + 1 + 1) text in
    let head = drop_more text i 0 lt0 in
    let next = drop_more text (i + 1) 0 lt in
    let test : ((a == 42) && ((b == 47) && true)) ≡ false = and_with_true (a == 42) (b == 47) others in
    ap (λ xs. comment_of n (comment_rest xs)) (head ∙ ap (λ xs. a ∷ xs) next)
    ∙ ap (comment_of n) (cond-false ((a == 42) && ((b == 47) && true)) (Some 2) (option_map (λ k. 1 + k) (comment_rest (b ∷ bs))) test)
    ∙ comment_of-more n (comment_rest (b ∷ bs))
    ∙ ap (λ xs. comment_of (n + 1) (comment_rest xs)) (sym next)

-- the two bytes at a place end it
pub comment_ends : (text : List ℕ) (i n : ℕ) → i + 1 < length text → get_or text i 0 ≡ 42 → get_or text (i + 1) 0 ≡ 47
    → comment_of n (comment_rest (drop i text)) ≡ Blank (n + 2)
comment_ends text i n lt star slash =
    let lt0 : i < length text = omega arith in
    let a = get_or text i 0 in
    let b = get_or text (i + 1) 0 in
    let bs = drop (i + 1 + 1) text in
    let head = drop_more text i 0 lt0 in
    let next = drop_more text (i + 1) 0 lt in
    let test : ((a == 42) && ((b == 47) && true)) ≡ true = rw (star, slash) refl in
    ap (λ xs. comment_of n (comment_rest xs)) (head ∙ ap (λ xs. a ∷ xs) next)
    ∙ ap (comment_of n) (cond-true ((a == 42) && ((b == 47) && true)) (Some 2) (option_map (λ k. 1 + k) (comment_rest (b ∷ bs))) test)

none_short : (text : List ℕ) → length text ≤ 1 → comment_rest text ≡ None
none_short [] le = refl
none_short (a ∷ []) le = refl
none_short (a ∷ b ∷ bs) le = absurd (omega arith)

-- fewer than two bytes are left
pub comment_open : (text : List ℕ) (i n : ℕ) → length text ≤ i + 1 → comment_of n (comment_rest (drop i text)) ≡ Unclosed
comment_open text i n le = ap (comment_of n) (none_short (drop i text) (omega (arith, length-drop i text)))
