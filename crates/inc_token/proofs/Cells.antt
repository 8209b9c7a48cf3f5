-- A walk over the cells of a text: what `lines_from` gives at a place, from what is there.
use Rattle.inc_text.specs.declared.languages.Language.{Language}
use Rattle.std.proofs.Common.{◌≡◌, ℕ, zero, suc, ◌+◌, ◌-◌, ◌<◌, ◌≤◌, Bool, true, false, cond, List, [], ◌∷◌, Some, Result, Ok, Err, length, drop, refl, sym, ap, ◌∙◌, arith, slice_get}
use Rattle.std.specs.Bool.{if◌then◌else◌}
use Rattle.std.specs.List.{prefix_len}
use Rattle.std.proofs.lemmas.List.{drop-map, drop-drop}
use Rattle.inc_text.specs.PhaseText.{Cell, bytes_of}
use Rattle.inc_token.specs.Spellings.{is_blank}
use Rattle.inc_token.specs.TokenLines.{TokenLine, lines_from, with_piece, piece_at, piece_len, progress_after, is_space, range_end}
use Rattle.inc_token.specs.declared.pieces.Piece.{Piece}
use Rattle.inc_token.specs.declared.pieces.Piece.TheVariants.{Blank, Unclosed}
use Rattle.inc_token.specs.declared.pieces.Progress.{Progress}
use Rattle.inc_token.specs.declared.lines.LexFault.{LexFault}
use Rattle.inc_token.specs.declared.lines.LexFault.TheVariants.{OpenComment}

-- cells that belong to a piece that began before are skipped
lines_from-skip : (language : Language) (n : ℕ) (progress : Progress) (space : Bool) (cells : List Cell) → lines_from language n progress space cells ≡ lines_from language 0 progress space (drop n cells)
lines_from-skip language zero progress space cells = refl
lines_from-skip language (suc n) progress space [] = refl
lines_from-skip language (suc n) progress space (c ∷ cs) = lines_from-skip language n progress space cs

pub drop-pos : (n : ℕ) (c : Cell) (cs : List Cell) → 1 ≤ n → drop (n - 1) cs ≡ drop n (c ∷ cs)
drop-pos zero c cs h = absurd (omega arith)
drop-pos (suc n) c cs h = let e : suc n - 1 ≡ n = omega arith in ap (λ k. drop k cs) e

-- one piece
pub lines_from-piece : (language : Language) (progress : Progress) (space : Bool) (c : Cell) (cs : List Cell) (piece : Piece) → piece_at language progress (bytes_of (c ∷ cs)) ≡ piece → 1 ≤ piece_len piece
    → lines_from language 0 progress space (c ∷ cs)
    ≡ with_piece space piece c cs (lines_from language 0 (progress_after language progress piece (bytes_of (c ∷ cs))) (is_space piece) (drop (piece_len piece) (c ∷ cs)))
lines_from-piece language progress space c cs piece is pos =
    let text : List ℕ = bytes_of (c ∷ cs) in
    let P : Piece → Result (List TokenLine) LexFault =
    λ p. with_piece space p c cs (lines_from language (piece_len p - 1) (progress_after language progress p text) (is_space p) cs) in
    let next : Progress = progress_after language progress piece text in
    ap P is
    ∙ ap (with_piece space piece c cs) (lines_from-skip language (piece_len piece - 1) next (is_space piece) cs)
    ∙ ap (λ (rest : List Cell). with_piece space piece c cs (lines_from language 0 next (is_space piece) rest)) (drop-pos (piece_len piece) c cs pos)

-- white space of one byte
pub if_true : {A : Type 0} (t : Bool) (x y : A) → t ≡ true → (if t then x else y) ≡ x
if_true true x y is = refl
if_true false x y is = cc

piece_at-blank : (language : Language) (progress : Progress) (b : ℕ) (bs : List ℕ) → is_blank b ≡ true → piece_at language progress (b ∷ bs) ≡ Blank 1
piece_at-blank language progress b bs is = if_true (is_blank b) (Blank 1) _ is

pub with_piece-blank : (space : Bool) (n : ℕ) (c : Cell) (cs : List Cell) (rest : Result (List TokenLine) LexFault) → with_piece space (Blank n) c cs rest ≡ rest
with_piece-blank space n c cs (Ok lines) = refl
with_piece-blank space n c cs (Err fault) = refl

pub with_piece-open : (space : Bool) (c : Cell) (cs : List Cell) (rest : Result (List TokenLine) LexFault) → with_piece space Unclosed c cs rest ≡ Err (OpenComment c.line)
with_piece-open space c cs (Ok lines) = refl
with_piece-open space c cs (Err fault) = refl

pub one_space : (language : Language) (progress : Progress) (space : Bool) (c : Cell) (cs : List Cell) → is_blank c.byte ≡ true → lines_from language 0 progress space (c ∷ cs) ≡ lines_from language 0 progress true cs
one_space language progress space c cs is =
    lines_from-piece language progress space c cs (Blank 1) (piece_at-blank language progress c.byte (bytes_of cs) is) (omega arith)
    ∙ with_piece-blank space 1 c cs (lines_from language 0 progress true cs)

-- a run of it
pub drop-one : {X : Type 0} (n : ℕ) (x : X) (xs : List X) → drop n xs ≡ drop (1 + n) (x ∷ xs)
drop-one n x xs = let e : suc n ≡ 1 + n = omega arith in ap (λ k. drop k (x ∷ xs)) e

spaces-at : (language : Language) (progress : Progress) (space : Bool) (c : Cell) (cs : List Cell) → is_blank c.byte ≡ true
    → lines_from language 0 progress true cs ≡ lines_from language 0 progress true (drop (prefix_len is_blank (bytes_of cs)) cs)
    → lines_from language 0 progress space (c ∷ cs) ≡ lines_from language 0 progress true (drop (1 + prefix_len is_blank (bytes_of cs)) (c ∷ cs))
spaces-at language progress space c cs is rest =
    one_space language progress space c cs is ∙ rest ∙ ap (lines_from language 0 progress true) (drop-one (prefix_len is_blank (bytes_of cs)) c cs)

spaces-by : (language : Language) (progress : Progress) (c : Cell) (cs : List Cell) (blank : Bool) → is_blank c.byte ≡ blank
    → lines_from language 0 progress true cs ≡ lines_from language 0 progress true (drop (prefix_len is_blank (bytes_of cs)) cs)
    → lines_from language 0 progress true (c ∷ cs) ≡ lines_from language 0 progress true (drop (cond blank (1 + prefix_len is_blank (bytes_of cs)) 0) (c ∷ cs))
spaces-by language progress c cs true is rest = spaces-at language progress true c cs is rest
spaces-by language progress c cs false is rest = refl

spaces : (language : Language) (progress : Progress) (cells : List Cell) → lines_from language 0 progress true cells ≡ lines_from language 0 progress true (drop (prefix_len is_blank (bytes_of cells)) cells)
spaces language progress [] = refl
spaces language progress (c ∷ cs) = spaces-by language progress c cs (is_blank c.byte) refl (spaces language progress cs)

lines_from-by : (language : Language) (progress : Progress) (space : Bool) (c : Cell) (cs : List Cell) (blank : Bool) → is_blank c.byte ≡ blank
    → 1 ≤ cond blank (1 + prefix_len is_blank (bytes_of cs)) 0
    → lines_from language 0 progress space (c ∷ cs) ≡ lines_from language 0 progress true (drop (cond blank (1 + prefix_len is_blank (bytes_of cs)) 0) (c ∷ cs))
lines_from-by language progress space c cs true is pos = spaces-at language progress space c cs is (spaces language progress cs)
lines_from-by language progress space c cs false is pos = absurd (omega arith)

pub lines_from-spaces : (language : Language) (progress : Progress) (space : Bool) (cells : List Cell) → 1 ≤ prefix_len is_blank (bytes_of cells)
    → lines_from language 0 progress space cells ≡ lines_from language 0 progress true (drop (prefix_len is_blank (bytes_of cells)) cells)
lines_from-spaces language progress space [] pos = refl
lines_from-spaces language progress space (c ∷ cs) pos = lines_from-by language progress space c cs (is_blank c.byte) refl pos

-- the bytes from a place on
pub bytes_of-drop : (n : ℕ) (cells : List Cell) → drop n (bytes_of cells) ≡ bytes_of (drop n cells)
bytes_of-drop n cells = drop-map (λ (c : Cell). c.byte) n cells

-- the cell at a place
pub slice_get-drop : (cells : List Cell) (at n : ℕ) → slice_get (drop at cells) n ≡ slice_get cells (at + n)
slice_get-drop cells zero n = let e : n ≡ 0 + n = omega arith in ap (slice_get cells) e
slice_get-drop [] (suc at) n = refl
slice_get-drop (c ∷ cs) (suc at) n =
    let e : suc (at + n) ≡ suc at + n = omega arith in
    slice_get-drop cs at n ∙ ap (slice_get (c ∷ cs)) e

-- a place within the text has a cell
pub cell_at : (cells : List Cell) (at : ℕ) → at < length cells → (c : Cell) × (cs : List Cell) × (drop at cells ≡ c ∷ cs) × (slice_get cells at ≡ Some c)
cell_at [] at h = absurd (omega arith)
cell_at (c ∷ cs) zero h = (c, cs, refl, refl)
cell_at (c ∷ cs) (suc at) h = cell_at cs at (omega arith)

-- the source bytes of n cells end where those of the last do
pub range_end-is : (n : ℕ) (c : Cell) (cs : List Cell) (d : Cell) → slice_get (c ∷ cs) n ≡ Some d → range_end n c cs ≡ d.last
range_end-is zero c cs d is = let e : c ≡ d = cc in ap (λ (x : Cell). x.last) e
range_end-is (suc n) c [] d is = cc
range_end-is (suc n) c (b ∷ cs) d is = range_end-is n b cs d is

-- what is left at a place, from what is there
pub at_place : (language : Language) (cells : List Cell) (at : ℕ) (progress : Progress) (space : Bool) (piece : Piece) (c : Cell) (cs : List Cell) → drop at cells ≡ c ∷ cs
    → piece_at language progress (drop at (bytes_of cells)) ≡ piece → 1 ≤ piece_len piece
    → lines_from language 0 progress space (drop at cells)
    ≡ with_piece space piece c cs (lines_from language 0 (progress_after language progress piece (drop at (bytes_of cells))) (is_space piece) (drop (at + piece_len piece) cells))
at_place language cells at progress space piece c cs here is pos =
    let text : drop at (bytes_of cells) ≡ bytes_of (c ∷ cs) = bytes_of-drop at cells ∙ ap bytes_of here in
    let rest : drop (piece_len piece) (c ∷ cs) ≡ drop (at + piece_len piece) cells = ap (drop (piece_len piece)) (sym here) ∙ drop-drop (piece_len piece) at cells in
    let N : List ℕ → List Cell → Result (List TokenLine) LexFault =
    λ t r. with_piece space piece c cs (lines_from language 0 (progress_after language progress piece t) (is_space piece) r) in
    ap (lines_from language 0 progress space) here
    ∙ lines_from-piece language progress space c cs piece (ap (piece_at language progress) (sym text) ∙ is) pos
    ∙ ap (λ r. N (bytes_of (c ∷ cs)) r) rest
    ∙ ap (λ t. N t (drop (at + piece_len piece) cells)) (sym text)
