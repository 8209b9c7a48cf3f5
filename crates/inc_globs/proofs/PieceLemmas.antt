-- The pieces of a pattern, one by one, and paths that begin otherwise.
use Rattle.std.proofs.Common.{◌≡◌, ◌≢◌, ℕ, zero, suc, ◌+◌, ◌-◌, ◌<◌, ◌≤◌, Bool, false, List, [], ◌∷◌, ◌++◌, length, drop, get_or, refl, sym, ap, ◌∙◌, arith, Option, Some, None, option_map, map, take}
use Rattle.std.specs.Prelude.{option_and_then}
use Rattle.std.proofs.lemmas.Bool.{ne_eqb, eq-eqb}
use Rattle.std.specs.List.{drop-map}
use Rattle.std.proofs.lemmas.List.{append_assoc, drop_all, drop-drop, drop_more, length-drop, map-append, take_all}
use Rattle.inc_globs.specs.declared.globs.Piece.{Piece as PieceValue}
use Rattle.inc_globs.specs.declared.globs.Piece.TheVariants as value
use Rattle.inc_globs.specs.Views.{seen_piece}
use Rattle.inc_globs.specs.Globs.{Piece, Byte, ends_component, fits, piece_at, pieces_from}

-- the pieces from a place on, by the first of them
pub front_is : (vs : List PieceValue) (i : ℕ) (v : PieceValue) → i < length vs → get_or vs i v ≡ v → drop i (map seen_piece vs) ≡ seen_piece v ∷ drop (i + 1) (map seen_piece vs)
front_is vs i v low is =
    drop-map seen_piece i vs ∙ ap (map seen_piece) (drop_more vs i v low) ∙ ap (λ p. p ∷ map seen_piece (drop (i + 1) vs)) (ap seen_piece is)
    ∙ ap (λ ps. seen_piece v ∷ ps) (sym (drop-map seen_piece (i + 1) vs))

-- the bytes of a piece are passed
pub pieces_skip : (n : ℕ) (first : Bool) (text : List ℕ) → pieces_from n first text ≡ pieces_from 0 first (drop n text)
pieces_skip n first [] = nothing n
  where
    nothing : (n : ℕ) → pieces_from n first [] ≡ pieces_from 0 first (drop n [])
    nothing zero = refl
    nothing (suc n) = refl
pieces_skip zero first (b ∷ bs) = refl
pieces_skip (suc n) first (b ∷ bs) = pieces_skip n first bs

-- the piece that a text begins with, and those of the rest
pub pieces_first : (first : Bool) (text : List ℕ) (x : Piece × ℕ) → 0 < length text → 1 ≤ x.1 → piece_at first text ≡ Some x
    → pieces_from 0 first text ≡ option_map (λ ps. x.0 ∷ ps) (pieces_from 0 (ends_component x.0) (drop x.1 text))
pieces_first first [] x some long is = absurd (omega (arith, some))
pieces_first first (b ∷ bs) (p, zero) some long is = absurd (omega (arith, long))
pieces_first first (b ∷ bs) (p, suc n) some long is =
    ap (λ o. option_and_then (λ (y : Piece × ℕ). option_map (λ ps. y.0 ∷ ps) (pieces_from (y.1 - 1) (ends_component y.0) bs)) o) is
    ∙ ap (λ m. option_map (λ ps. p ∷ ps) (pieces_from m (ends_component p) bs)) less
    ∙ ap (λ o. option_map (λ ps. p ∷ ps) o) (pieces_skip n (ends_component p) bs)
  where
    less : suc n - 1 ≡ n
    less = omega arith

-- one piece more after those so far
pub pieces_more : (done : List Piece) (first : Bool) (text : List ℕ) (x : Piece × ℕ) → 0 < length text → 1 ≤ x.1 → piece_at first text ≡ Some x
    → option_map (λ ps. done ++ ps) (pieces_from 0 first text)
    ≡ option_map (λ ps. (done ++ x.0 ∷ []) ++ ps) (pieces_from 0 (ends_component x.0) (drop x.1 text))
pieces_more done first text x some long is =
    ap (λ o. option_map (λ ps. done ++ ps) o) (pieces_first first text x some long is) ∙ shifted (pieces_from 0 (ends_component x.0) (drop x.1 text))
  where
    shifted : (found : Option (List Piece)) → option_map (λ ps. done ++ ps) (option_map (λ ps. x.0 ∷ ps) found) ≡ option_map (λ ps. (done ++ x.0 ∷ []) ++ ps) found
    shifted None = refl
    shifted (Some ps) = ap (λ qs. Some qs) (sym (append_assoc done (x.0 ∷ []) ps))

-- a text that begins with no piece has none
pub pieces_none : (first : Bool) (text : List ℕ) → 0 < length text → piece_at first text ≡ None → pieces_from 0 first text ≡ None
pieces_none first [] some is = absurd (omega (arith, some))
pieces_none first (b ∷ bs) some is =
    ap (λ o. option_and_then (λ (y : Piece × ℕ). option_map (λ ps. y.0 ∷ ps) (pieces_from (y.1 - 1) (ends_component y.0) bs)) o) is

---- a byte that stands for itself

pub byte_same : (x b : ℕ) (ps : List Piece) (bs : List ℕ) → x ≡ b → fits (Byte x ∷ ps) (b ∷ bs) ≡ fits ps bs
byte_same x b ps bs same = rw (eq-eqb x b same) refl

pub byte_other : (x b : ℕ) (ps : List Piece) (bs : List ℕ) → b ≢ x → fits (Byte x ∷ ps) (b ∷ bs) ≡ false
byte_other x b ps bs other = rw (ne_eqb x b (λ e. other (sym e))) refl

-- what a pattern and a path go on with
module _ (vs : List PieceValue) (ps : List Piece) (seen : ps ≡ map seen_piece vs) (i : ℕ) (v : PieceValue) (x : ℕ) (path : List ℕ) (low : i < length vs) (is : get_or vs i v ≡ v) (byte : v ≡ value.Byte x)
    (so_far : fits ps path ≡ fits (drop i ps) (drop i path)) where
  front : drop i ps ≡ Byte x ∷ drop (i + 1) ps
  front =
      ap (drop i) seen ∙ front_is vs i v low is ∙ ap (λ w. seen_piece w ∷ drop (i + 1) (map seen_piece vs)) byte
      ∙ ap (λ qs. Byte x ∷ drop (i + 1) qs) (sym seen)

  here : fits ps path ≡ fits (Byte x ∷ drop (i + 1) ps) (drop i path)
  here = so_far ∙ ap (λ qs. fits qs (drop i path)) front

  pub ends_before : length path ≤ i → fits ps path ≡ false
  ends_before end = here ∙ ap (fits (Byte x ∷ drop (i + 1) ps)) (drop_all i path end)

  pub goes_on : i < length path → get_or path i 0 ≡ x → fits ps path ≡ fits (drop (i + 1) ps) (drop (i + 1) path)
  goes_on more same =
      here ∙ ap (fits (Byte x ∷ drop (i + 1) ps)) (drop_more path i 0 more) ∙ byte_same x (get_or path i 0) (drop (i + 1) ps) (drop (i + 1) path) (sym same)

  pub differs_here : i < length path → get_or path i 0 ≢ x → fits ps path ≡ false
  differs_here more other =
      here ∙ ap (fits (Byte x ∷ drop (i + 1) ps)) (drop_more path i 0 more) ∙ byte_other x (get_or path i 0) (drop (i + 1) ps) (drop (i + 1) path) other

---- a pattern that is gone through

pub pieces_kept : (all : Option (List Piece)) (vs ws : List PieceValue) (v : PieceValue) (first next : Bool) (pattern : List ℕ) (at len : ℕ)
    → piece_at first (take (length pattern - at) (drop at pattern)) ≡ Some (seen_piece v, len) → at < length pattern → 1 ≤ len → ws ≡ vs ++ v ∷ [] → next ≡ ends_component (seen_piece v)
    → option_map (λ ps. map seen_piece vs ++ ps) (pieces_from 0 first (drop at pattern)) ≡ all
    → option_map (λ ps. map seen_piece ws ++ ps) (pieces_from 0 next (drop (at + len) pattern)) ≡ all
pieces_kept all vs ws v first next pattern at len found low some pushed then so_far =
    let whole = take_all (length pattern - at) (drop at pattern) (omega (arith, length-drop at pattern)) in
    let is = ap (piece_at first) (sym whole) ∙ found in
    let left : 0 < length (drop at pattern) = omega (arith, low, length-drop at pattern) in
    let values : map seen_piece ws ≡ map seen_piece vs ++ seen_piece v ∷ [] = ap (map seen_piece) pushed ∙ map-append seen_piece vs (v ∷ []) in
    ap (λ qs. option_map (λ ps. qs ++ ps) (pieces_from 0 next (drop (at + len) pattern))) values
    ∙ ap (λ b. option_map (λ ps. (map seen_piece vs ++ seen_piece v ∷ []) ++ ps) (pieces_from 0 b (drop (at + len) pattern))) then
    ∙ ap (λ text. option_map (λ ps. (map seen_piece vs ++ seen_piece v ∷ []) ++ ps) (pieces_from 0 (ends_component (seen_piece v)) text)) (sym (dropped at len pattern))
    ∙ sym (pieces_more (map seen_piece vs) first (drop at pattern) (seen_piece v, len) left some is) ∙ so_far
  where
    dropped : (m n : ℕ) (xs : List ℕ) → drop n (drop m xs) ≡ drop (m + n) xs
    dropped m n xs = drop-drop n m xs ∙ ap (λ k. drop k xs) (omega arith)
