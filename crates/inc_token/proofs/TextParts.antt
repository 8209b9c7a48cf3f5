-- A text is its tokens in order, with nothing but white space, comments and LFs between them.
use Rattle.inc_text.specs.declared.languages.Language.{Language}
use Rattle.std.proofs.Common.{◌≡◌, ℕ, zero, suc, ◌+◌, ◌-◌, ◌≤◌, ◌==◌, Bool, true, false, not, cond, ◌&&◌, List, [], ◌∷◌, ◌++◌, Option, Some, None, Result, Ok, Err, take, drop, refl, sym, ap, ◌∙◌, subst, arith, codes, bytes_eq, nat_lt, nat_eq, option_map, IfOk}
use Rattle.std.specs.Bool.{if◌then◌else◌}
use Rattle.std.specs.Option.{option_map_or}
use Rattle.std.specs.List.{list_all, flat_map, starts_with, prefix_len}
use Rattle.std.proofs.lemmas.Bool.{eqb-true}
use Rattle.std.proofs.lemmas.List.{take-append-drop, take-map}
use Rattle.inc_text.specs.PhaseText.{Cell, bytes_of}
use Rattle.inc_token.specs.Spellings.{is_blank, is_header_name, is_spelling}
use Rattle.inc_token.specs.TokenLaws.{is_closed_comment, is_gap, Part, Gap, LineFeed, Word, cells_in, is_part, last_of, token_from, AreParts}
use Rattle.inc_token.specs.TokenLines.{Tok, TokenLine, longest, longest_token, token_at, comment_rest, block_comment, line_comment, line_part, piece_at, piece_len, lines_from, token_lines, with_piece, token_of, with_token, progress_after, is_space, range_end}
use Rattle.inc_token.specs.declared.kinds.Kind.{Kind}
use Rattle.inc_token.specs.declared.kinds.Kind.TheVariants.{HeaderName}
use Rattle.inc_token.specs.declared.pieces.Piece.{Piece}
use Rattle.inc_token.specs.declared.pieces.Piece.TheVariants.{Blank, NewLine, Lexeme, Unclosed}
use Rattle.inc_token.specs.declared.pieces.Progress.{Progress}
use Rattle.inc_token.specs.declared.pieces.Progress.TheVariants.{AtStart, AfterHash, AfterInclude, Elsewhere}
use Rattle.inc_token.specs.declared.lines.LexFault.{LexFault}
use Rattle.inc_token.proofs.Cells.{if_true, drop-pos}
use Rattle.inc_token.proofs.PieceBounds.{if_by, and_left, and_right, piece_at-within}
use Rattle.inc_token.proofs.Spelled.{IsSpelled, piece_at-spelled}

pub if_false : {A : Type 0} (t : Bool) (x y : A) → t ≡ false → (if t then x else y) ≡ y
if_false true x y is = cc
if_false false x y is = refl

-- the length up to */ takes the text up to the first */
longer : (rest : Option ℕ) (n : ℕ) → option_map (λ m. 1 + m) rest ≡ Some n → (m : ℕ) × (rest ≡ Some m) × (n ≡ 1 + m)
longer None n is = cc
longer (Some m) n is = (m, refl, cc)

closed_behind : (a b : ℕ) (bs : List ℕ) (n m : ℕ) → bytes_eq (a ∷ b ∷ []) (codes "*/") ≡ false → n ≡ 1 + m → is_closed_comment (take m (b ∷ bs)) ≡ true → is_closed_comment (take n (a ∷ b ∷ bs)) ≡ true
closed_behind a b bs n zero open_ is h = cc
closed_behind a b bs n (suc k) open_ is h =
    let e : n ≡ suc (suc k) = omega arith in
    ap (λ i. is_closed_comment (take i (a ∷ b ∷ bs))) e ∙ if_false (bytes_eq (a ∷ b ∷ []) (codes "*/")) _ (is_closed_comment (b ∷ take k bs)) open_ ∙ h

closed_by : (closes : Bool) (a b : ℕ) (bs : List ℕ) (n : ℕ) → bytes_eq (a ∷ b ∷ []) (codes "*/") ≡ closes
    → (if closes then Some 2 else option_map (λ m. 1 + m) (comment_rest (b ∷ bs))) ≡ Some n
    → ((m : ℕ) → comment_rest (b ∷ bs) ≡ Some m → is_closed_comment (take m (b ∷ bs)) ≡ true)
    → is_closed_comment (take n (a ∷ b ∷ bs)) ≡ true
closed_by true a b bs n h is rest =
    let e : n ≡ 2 = cc in
    ap (λ i. is_closed_comment (take i (a ∷ b ∷ bs))) e ∙ if_true (bytes_eq (a ∷ b ∷ []) (codes "*/")) true _ h
closed_by false a b bs n h is rest =
    let l = longer (comment_rest (b ∷ bs)) n is in
    closed_behind a b bs n l.0 h l.2 (rest l.0 l.1)

comment_rest-closes : (text : List ℕ) (n : ℕ) → comment_rest text ≡ Some n → is_closed_comment (take n text) ≡ true
comment_rest-closes [] n is = cc
comment_rest-closes (a ∷ []) n is = cc
comment_rest-closes (a ∷ b ∷ bs) n is = closed_by (bytes_eq (a ∷ b ∷ []) (codes "*/")) a b bs n refl is (comment_rest-closes (b ∷ bs))

-- the bytes before the first that fails
prefix_by : (p : ℕ → Bool) (x : ℕ) (xs : List ℕ) (passes : Bool) → p x ≡ passes → list_all p (take (prefix_len p xs) xs) ≡ true → list_all p (take (cond passes (1 + prefix_len p xs) 0) (x ∷ xs)) ≡ true
prefix_by p x xs false is h = refl
prefix_by p x xs true is h =
    let e : 1 + prefix_len p xs ≡ suc (prefix_len p xs) = omega arith in
    let both : (s t : Bool) → s ≡ true → t ≡ true → (s && t) ≡ true = λ s t a b. ap (λ u. u && t) a ∙ b in
    ap (λ i. list_all p (take i (x ∷ xs))) e ∙ both (p x) (list_all p (take (prefix_len p xs) xs)) is h

prefix_all : (p : ℕ → Bool) (xs : List ℕ) → list_all p (take (prefix_len p xs) xs) ≡ true
prefix_all p [] = refl
prefix_all p (x ∷ xs) = prefix_by p x xs (p x) refl (prefix_all p xs)

abbrev is_lf : List ℕ → Bool
is_lf [] = false
is_lf (b ∷ bs) = b == 10

-- a piece that, if it is white space or the end of a line, has such bytes
abbrev GapOf : List ℕ → Piece → Type 0
GapOf text (Blank n) = is_gap (take n text) ≡ true
GapOf text NewLine = is_lf text ≡ true
GapOf text _ = Unit {0}

block_gap : (ds : List ℕ) (rest : Option ℕ) → comment_rest ds ≡ rest → GapOf (47 ∷ 42 ∷ ds) (option_map_or (λ n. Blank (2 + n)) rest Unclosed)
block_gap ds None is = tt
block_gap ds (Some n) is =
    let e : 2 + n ≡ suc (suc n) = omega arith in
    ap (λ i. is_gap (take i (47 ∷ 42 ∷ ds))) e ∙ comment_rest-closes ds n is

line_gap : (ds : List ℕ) → GapOf (47 ∷ 47 ∷ ds) (line_comment (47 ∷ 47 ∷ ds))
line_gap ds =
    let p : ℕ → Bool = λ b. not (b == 10) in
    let e : 1 + (1 + prefix_len p ds) ≡ suc (suc (prefix_len p ds)) = omega arith in
    ap (λ i. is_gap (take i (47 ∷ 47 ∷ ds))) e ∙ prefix_all p ds

block_comment-gap : (b : ℕ) (bs : List ℕ) → starts_with nat_eq (b ∷ bs) (codes "/*") ≡ true → GapOf (b ∷ bs) (block_comment (b ∷ bs))
block_comment-gap b [] h = let clash : false ≡ true = and_right (nat_eq 47 b) false h in cc
block_comment-gap b (d ∷ ds) h =
    let first : 47 ≡ b = eqb-true 47 b (and_left (nat_eq 47 b) _ h) in
    let second : 42 ≡ d = eqb-true 42 d (and_left (nat_eq 42 d) true (and_right (nat_eq 47 b) _ h)) in
    subst (λ x. GapOf (x ∷ d ∷ ds) (block_comment (x ∷ d ∷ ds))) first
    (subst (λ y. GapOf (47 ∷ y ∷ ds) (block_comment (47 ∷ y ∷ ds))) second (block_gap ds (comment_rest ds) refl))

line_comment-gap : (b : ℕ) (bs : List ℕ) → starts_with nat_eq (b ∷ bs) (codes "//") ≡ true → GapOf (b ∷ bs) (line_comment (b ∷ bs))
line_comment-gap b [] h = let clash : false ≡ true = and_right (nat_eq 47 b) false h in cc
line_comment-gap b (d ∷ ds) h =
    let first : 47 ≡ b = eqb-true 47 b (and_left (nat_eq 47 b) _ h) in
    let second : 47 ≡ d = eqb-true 47 d (and_left (nat_eq 47 d) true (and_right (nat_eq 47 b) _ h)) in
    subst (λ x. GapOf (x ∷ d ∷ ds) (line_comment (x ∷ d ∷ ds))) first
    (subst (λ y. GapOf (47 ∷ y ∷ ds) (line_comment (47 ∷ y ∷ ds))) second (line_gap ds))

token_at-gap : (language : Language) (text : List ℕ) (progress : Progress) (part : List ℕ) → GapOf text (token_at language progress part)
token_at-gap language text AtStart part = tt
token_at-gap language text AfterHash part = tt
token_at-gap language text Elsewhere part = tt
token_at-gap language text AfterInclude part = if_by (GapOf text) (nat_lt 0 (longest is_header_name part)) (Lexeme HeaderName (longest is_header_name part)) (longest_token language part) (λ _. tt) (λ _. tt)

piece_at-gap : (language : Language) (progress : Progress) (b : ℕ) (bs : List ℕ) → GapOf (b ∷ bs) (piece_at language progress (b ∷ bs))
piece_at-gap language progress b bs =
    let text : List ℕ = b ∷ bs in
    let token : Piece = token_at language progress (line_part text) in
    if_by (GapOf text) (is_blank b) (Blank 1) _ (λ h. h) (λ _.
    if_by (GapOf text) (starts_with nat_eq text (codes "/*")) (block_comment text) _ (block_comment-gap b bs) (λ _.
    if_by (GapOf text) (starts_with nat_eq text (codes "//")) (line_comment text) _ (line_comment-gap b bs) (λ _.
    if_by (GapOf text) (b == 10) NewLine token (λ h. h) (λ _. token_at-gap language text progress (line_part text)))))

-- the cells of a piece and those after it
whole : (n : ℕ) (c : Cell) (cs rest : List Cell) → 1 ≤ n → rest ≡ drop (n - 1) cs → take n (c ∷ cs) ++ rest ≡ c ∷ cs
whole n c cs rest pos is =
    let behind : rest ≡ drop n (c ∷ cs) = is ∙ drop-pos n c cs pos in
    ap (λ r. take n (c ∷ cs) ++ r) behind ∙ take-append-drop n (c ∷ cs)

take-pos : (n : ℕ) (c : Cell) (cs : List Cell) → 1 ≤ n → take n (c ∷ cs) ≡ c ∷ take (n - 1) cs
take-pos zero c cs h = absurd (omega arith)
take-pos (suc n) c cs h = let e : n ≡ suc n - 1 = omega arith in ap (λ k. c ∷ take k cs) e

bytes_of-take : (n : ℕ) (c : Cell) (cs : List Cell) → 1 ≤ n → bytes_of (c ∷ take (n - 1) cs) ≡ take n (bytes_of (c ∷ cs))
bytes_of-take n c cs pos = ap bytes_of (sym (take-pos n c cs pos)) ∙ sym (take-map (λ (x : Cell). x.byte) n (c ∷ cs))

last_of-take : (n : ℕ) (c : Cell) (cs : List Cell) → last_of c (take n cs) ≡ range_end n c cs
last_of-take zero c cs = refl
last_of-take (suc n) c [] = refl
last_of-take (suc n) c (d ∷ ds) = last_of-take n d ds

token_from-is : (space : Bool) (kind : Kind) (n : ℕ) (c : Cell) (cs : List Cell) → 1 ≤ n → token_from space kind c (take (n - 1) cs) ≡ token_of space kind n c cs
token_from-is space kind n c cs pos =
    let make : List ℕ → ℕ → Tok = λ bytes last. record { kind = kind; spelling = bytes; first = c.first; last = last; line = c.line; space = space } in
    ap (λ bytes. make bytes (last_of c (take (n - 1) cs))) (bytes_of-take n c cs pos) ∙ ap (make (take n (bytes_of (c ∷ cs)))) (last_of-take (n - 1) c cs)

both : (s t : Bool) → s ≡ true → t ≡ true → (s && t) ≡ true
both s t a b = ap (λ u. u && t) a ∙ b

with_piece-parts : (language : Language) (space : Bool) (piece : Piece) (c : Cell) (cs : List Cell) (rest : Result (List TokenLine) LexFault) → 1 ≤ piece_len piece
    → IsSpelled language (bytes_of (c ∷ cs)) piece → GapOf (bytes_of (c ∷ cs)) piece
    → IfOk rest (λ lines. (parts : List Part) × AreParts language (drop (piece_len piece - 1) cs) (is_space piece) lines parts)
    → IfOk (with_piece space piece c cs rest) (λ lines. (parts : List Part) × AreParts language (c ∷ cs) space lines parts)
with_piece-parts language space Unclosed c cs (Err fault) pos s g h = tt
with_piece-parts language space Unclosed c cs (Ok lines) pos s g h = tt
with_piece-parts language space (Blank n) c cs (Err fault) pos s g h = tt
with_piece-parts language space (Blank n) c cs (Ok lines) pos s g h =
    let here : List Cell = take n (c ∷ cs) in
    let gap : is_gap (bytes_of here) ≡ true = ap is_gap (sym (take-map (λ (x : Cell). x.byte) n (c ∷ cs))) ∙ g in (
      Gap here ∷ h.0,
      record {
        each = both (is_gap (bytes_of here)) (list_all (is_part language) h.0) gap h.1.each;
        all = whole n c cs (flat_map cells_in h.0) pos h.1.all;
        lines = h.1.lines;
      },
    )
with_piece-parts language space NewLine c cs (Err fault) pos s g h = tt
with_piece-parts language space NewLine c cs (Ok lines) pos s g h = (
  LineFeed c ∷ h.0,
  record {
    each = both (c.byte == 10) (list_all (is_part language) h.0) g h.1.each;
    all = whole 1 c cs (flat_map cells_in h.0) pos h.1.all;
    lines = ap (λ (ls : List TokenLine). record { tokens = []; last_line = c.line } ∷ ls) h.1.lines;
  },
)
with_piece-parts language space (Lexeme kind n) c cs (Err fault) pos s g h = tt
with_piece-parts language space (Lexeme kind n) c cs (Ok lines) pos s g h =
    let more : List Cell = take (n - 1) cs in
    let spelled : is_spelling language kind (bytes_of (c ∷ more)) ≡ true = ap (is_spelling language kind) (bytes_of-take n c cs pos) ∙ s in (
      Word kind c more ∷ h.0,
      record {
        each = both (is_spelling language kind (bytes_of (c ∷ more))) (list_all (is_part language) h.0) spelled h.1.each;
        all = ap (λ (l : List Cell). l ++ flat_map cells_in h.0) (sym (take-pos n c cs pos)) ∙ whole n c cs (flat_map cells_in h.0) pos h.1.all;
        lines = ap (with_token (token_from space kind c more)) h.1.lines ∙ ap (λ (t : Tok). with_token t lines) (token_from-is space kind n c cs pos);
      },
    )

lines_from-parts : (language : Language) (left : ℕ) (progress : Progress) (space : Bool) (cells : List Cell) → IfOk (lines_from language left progress space cells) (λ lines. (parts : List Part) × AreParts language (drop left cells) space lines parts)
lines_from-parts language zero progress space [] = ([], record { each = refl; all = refl; lines = refl })
lines_from-parts language (suc left) progress space [] = ([], record { each = refl; all = refl; lines = refl })
lines_from-parts language (suc left) progress space (c ∷ cs) = lines_from-parts language left progress space cs
lines_from-parts language zero progress space (c ∷ cs) =
    let text : List ℕ = bytes_of (c ∷ cs) in
    let piece : Piece = piece_at language progress text in
    with_piece-parts language space piece c cs _ (piece_at-within language progress text (omega arith)).0 (piece_at-spelled language progress text) (piece_at-gap language progress c.byte (bytes_of cs))
    (lines_from-parts language (piece_len piece - 1) (progress_after language progress piece text) (is_space piece) cs)

pub token_lines-parts : (language : Language) (cells : List Cell) → IfOk (token_lines language cells) (λ lines. (parts : List Part) × AreParts language cells false lines parts)
token_lines-parts language cells = lines_from-parts language 0 AtStart false cells
