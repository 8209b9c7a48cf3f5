-- The lexer's walk over a text, piece by piece, with the lines that it gives.
use Rattle.inc_text.specs.declared.languages.Language.{Language}
use Rattle.std.proofs.Common.{◌≡◌, ℕ, zero, suc, ◌-◌, ◌≤◌, Bool, true, false, List, [], ◌∷◌, ◌++◌, Result, Ok, Err, length, take, drop, refl, sym, ap, ◌∙◌, subst, arith}
use Rattle.std.proofs.lemmas.List.{take-append-drop, length-map, length-drop, length-take-le}
use Rattle.inc_text.specs.PhaseText.{Cell, bytes_of}
use Rattle.inc_token.specs.TokenLaws.{last_of, token_from}
use Rattle.inc_token.specs.TokenLines.{Tok, TokenLine, is_space, lines_from, piece_at, piece_len, progress_after, progress_with, range_end, with_piece, with_token, token_of}
use Rattle.inc_token.specs.declared.kinds.Kind.{Kind}
use Rattle.inc_token.specs.declared.pieces.Piece.{Piece}
use Rattle.inc_token.specs.declared.pieces.Piece.TheVariants.{Blank, NewLine, Lexeme, Unclosed}
use Rattle.inc_token.specs.declared.pieces.Progress.{Progress}
use Rattle.inc_token.specs.declared.pieces.Progress.TheVariants.{AtStart}
use Rattle.inc_token.specs.declared.lines.LexFault.{LexFault}
use Rattle.inc_token.proofs.Cells.{lines_from-piece}
use Rattle.inc_token.proofs.PieceBounds.{piece_at-within}

-- white space or a comment, the end of a line, or a token, and the walk over what follows
pub data Walk (language : Language) : Progress → Bool → List Cell → List TokenLine → Type 0 where
  at_end : {progress : Progress} {space : Bool} → Walk language progress space [] []
  over_gap : {progress : Progress} {space : Bool} {ls : List TokenLine} (c : Cell) (cs rest : List Cell)
      → piece_at language progress (bytes_of (c ∷ (cs ++ rest))) ≡ Blank (length (c ∷ cs))
      → Walk language progress true rest ls → (cells : List Cell) → cells ≡ c ∷ (cs ++ rest) → Walk language progress space cells ls
  over_end : {progress : Progress} {space : Bool} {ls : List TokenLine} (c : Cell) (rest : List Cell)
      → piece_at language progress (bytes_of (c ∷ rest)) ≡ NewLine
      → Walk language AtStart false rest ls → Walk language progress space (c ∷ rest) (record { tokens = []; last_line = c.line } ∷ ls)
  over_token : {progress : Progress} {space : Bool} {ls : List TokenLine} (kind : Kind) (c : Cell)
      (cs rest : List Cell)
      → piece_at language progress (bytes_of (c ∷ (cs ++ rest))) ≡ Lexeme kind (length (c ∷ cs))
      → Walk language (progress_with language progress (bytes_of (c ∷ cs))) false rest ls
      → (cells : List Cell) → cells ≡ c ∷ (cs ++ rest)
      → Walk language progress space cells (with_token (token_from space kind c cs) ls)

---- a walk gives the lines

with_gap : (space : Bool) (n : ℕ) (c : Cell) (cs : List Cell) (r : Result (List TokenLine) LexFault)
    (ls : List TokenLine)
    → r ≡ Ok ls → with_piece space (Blank n) c cs r ≡ Ok ls
with_gap space n c cs (Ok ms) ls is = is
with_gap space n c cs (Err fault) ls is = cc

with_end : (space : Bool) (c : Cell) (cs : List Cell) (r : Result (List TokenLine) LexFault) (ls : List TokenLine)
    → r ≡ Ok ls → with_piece space NewLine c cs r ≡ Ok (record { tokens = []; last_line = c.line } ∷ ls)
with_end space c cs (Ok ms) ls is = let e : ms ≡ ls =
    cc in ap (λ x. Ok (record { tokens = []; last_line = c.line } ∷ x)) e
with_end space c cs (Err fault) ls is = cc

with_lexeme : (space : Bool) (kind : Kind) (n : ℕ) (c : Cell) (cs : List Cell) (r : Result (List TokenLine) LexFault)
    (ls : List TokenLine)
    → r ≡ Ok ls → with_piece space (Lexeme kind n) c cs r ≡ Ok (with_token (token_of space kind n c cs) ls)
with_lexeme space kind n c cs (Ok ms) ls is = let e : ms ≡ ls =
    cc in ap (λ x. Ok (with_token (token_of space kind n c cs) x)) e
with_lexeme space kind n c cs (Err fault) ls is = cc

drop_front : (cs rest : List Cell) (c : Cell) → drop (length (c ∷ cs)) (c ∷ (cs ++ rest)) ≡ rest
drop_front [] rest c = refl
drop_front (d ∷ ds) rest c = drop_front ds rest d

take_bytes : (c : Cell) (cs rest : List Cell) → take (length (c ∷ cs)) (bytes_of (c ∷ (cs ++ rest)))
    ≡ bytes_of (c ∷ cs)
take_bytes c [] rest = refl
take_bytes c (d ∷ ds) rest = ap (λ xs. c.byte ∷ xs) (take_bytes d ds rest)

end_front : (c : Cell) (cs rest : List Cell) → range_end (length cs) c (cs ++ rest) ≡ last_of c cs
end_front c [] rest = refl
end_front c (d ∷ ds) rest = end_front d ds rest

token_is : (language : Language) (space : Bool) (kind : Kind) (c : Cell) (cs rest : List Cell)
    → token_of space kind (length (c ∷ cs)) c (cs ++ rest) ≡ token_from space kind c cs
token_is language space kind c cs rest =
    let one : length (c ∷ cs) - 1 ≡ length cs = omega arith in
    let make : List ℕ → ℕ → Tok = λ bytes last. record {
      kind = kind;
      spelling = bytes;
      first = c.first;
      last =
          last;
      line = c.line;
      space = space;
    } in
    ap (λ bytes. make bytes (range_end (length (c ∷ cs) - 1) c (cs ++ rest))) (take_bytes c cs rest)
    ∙ ap (make (bytes_of (c ∷ cs))) (ap (λ n. range_end n c (cs ++ rest)) one ∙ end_front c cs rest)

pub walk_lines : (language : Language) {progress : Progress} {space : Bool} {cells : List Cell} {ls : List TokenLine}
    → Walk language progress space cells ls → lines_from language 0 progress space cells ≡ Ok ls
walk_lines language at_end = refl
walk_lines language {progress} {space} (over_gap {ls = ls} c cs rest piece more cells is) =
    let n : ℕ = length (c ∷ cs) in
    ap (lines_from language 0 progress space) is
    ∙ lines_from-piece language progress space c (cs ++ rest) (Blank n) piece (omega arith)
    ∙ with_gap space n c (cs ++ rest) _ ls (ap (lines_from language 0 progress true) (drop_front cs rest c) ∙ walk_lines language more)
walk_lines language {progress} {space} (over_end {ls = ls} c rest piece more) =
    lines_from-piece language progress space c rest NewLine piece (omega arith)
    ∙ with_end space c rest _ ls (walk_lines language more)
walk_lines language {progress} {space} (over_token {ls = ls} kind c cs rest piece more cells is) =
    let n : ℕ = length (c ∷ cs) in
    ap (lines_from language 0 progress space) is
    ∙ lines_from-piece language progress space c (cs ++ rest) (Lexeme kind n) piece (omega arith)
    ∙ with_lexeme space kind n c (cs ++ rest) _ ls
    (ap (λ t. lines_from language 0 (progress_with language progress t) false (drop n (c ∷ (cs ++ rest)))) (take_bytes c cs rest)
    ∙ ap (lines_from language 0 (progress_with language progress (bytes_of (c ∷ cs))) false) (drop_front cs rest c) ∙ walk_lines language more)
    ∙ ap (λ t. Ok (with_token t ls)) (token_is language space kind c cs rest)

---- the lines come by a walk

-- a cell and those after it, the first n of all apart
split_at : (n : ℕ) (c : Cell) (cs : List Cell) → 1 ≤ n → n ≤ length (c ∷ cs)
    → (us rest : List Cell) × (c ∷ cs ≡ c ∷ (us ++ rest)) × (length (c ∷ us) ≡ n) × (rest ≡ drop n (c ∷ cs))
split_at zero c cs some le = absurd (omega (arith, some))
split_at (suc n) c cs some le = (
  take n cs,
  drop n cs,
  ap (λ xs. c ∷ xs) (sym (take-append-drop n cs)),
  ap suc
      (length-take-le n cs (omega (arith, le))),
  refl,
)

gap_lines : (space : Bool) (n : ℕ) (c : Cell) (cs : List Cell) (r : Result (List TokenLine) LexFault)
    (ls : List TokenLine)
    → with_piece space (Blank n) c cs r ≡ Ok ls → r ≡ Ok ls
gap_lines space n c cs (Ok ms) ls is = is
gap_lines space n c cs (Err fault) ls is = cc

end_lines : (space : Bool) (c : Cell) (cs : List Cell) (r : Result (List TokenLine) LexFault) (ls : List TokenLine)
    → with_piece space NewLine c cs r ≡ Ok ls → (ms : List TokenLine) × (r ≡ Ok ms) ×
    (ls ≡ record { tokens = []; last_line = c.line } ∷ ms)
end_lines space c cs (Ok ms) ls is = (ms, refl, cc)
end_lines space c cs (Err fault) ls is = cc

token_lines_of : (space : Bool) (kind : Kind) (n : ℕ) (c : Cell) (cs : List Cell)
    (r : Result (List TokenLine) LexFault) (ls : List TokenLine)
    → with_piece space (Lexeme kind n) c cs r ≡ Ok ls
    → (ms : List TokenLine) × (r ≡ Ok ms) × (ls ≡ with_token (token_of space kind n c cs) ms)
token_lines_of space kind n c cs (Ok ms) ls is = (ms, refl, cc)
token_lines_of space kind n c cs (Err fault) ls is = cc

no_fault : (space : Bool) (c : Cell) (cs : List Cell) (r : Result (List TokenLine) LexFault) (ls : List TokenLine)
    → with_piece space Unclosed c cs r ≡ Ok ls → ⊥
no_fault space c cs (Ok ms) ls is = cc
no_fault space c cs (Err fault) ls is = cc

-- the walk over what is left after a piece
abbrev Rest : (language : Language) → ℕ → Type 0
Rest language fuel = (progress : Progress) (space : Bool) (cells : List Cell) (ls : List TokenLine) → length cells ≤ fuel
    → lines_from language 0 progress space cells ≡ Ok ls → Walk language progress space cells ls

abbrev next : (language : Language) → Progress → Piece → Cell → List Cell → Result (List TokenLine) LexFault
next language progress piece c cs =
    lines_from language 0 (progress_after language progress piece (bytes_of (c ∷ cs))) (is_space piece)
    (drop (piece_len piece) (c ∷ cs))

by_piece : (language : Language) (fuel : ℕ) (progress : Progress) (space : Bool) (c : Cell) (cs : List Cell) (ls : List TokenLine)
    (piece : Piece)
    → piece_at language progress (bytes_of (c ∷ cs)) ≡ piece → 1 ≤ piece_len piece → piece_len piece ≤ length (c ∷ cs)
    → length cs ≤ fuel
    → Rest language fuel → lines_from language 0 progress space (c ∷ cs) ≡ Ok ls → Walk language progress space (c ∷ cs) ls
by_piece language fuel progress space c cs ls Unclosed is some le short again lines =
    absurd (no_fault space c cs (next language progress Unclosed c cs) ls
    (sym (lines_from-piece language progress space c cs Unclosed is some) ∙ lines))
by_piece language fuel progress space c cs ls NewLine is some le short again lines =
    let r = end_lines space c cs (next language progress NewLine c cs) ls
    (sym (lines_from-piece language progress space c cs NewLine is some) ∙ lines) in
    subst (Walk language progress space (c ∷ cs)) (sym r.2) (over_end c cs is (again AtStart false cs r.0 short r.1))
by_piece language fuel progress space c cs ls (Blank n) is some le short again lines =
    let s = split_at n c cs some le in
    let r = gap_lines space n c cs (next language progress (Blank n) c cs) ls
    (sym (lines_from-piece language progress space c cs (Blank n) is some) ∙ lines) in
    let size : length s.1 ≤ fuel = omega (arith, some, short, ap length s.4, length-drop n (c ∷ cs)) in
    over_gap c s.0 s.1 (ap (λ xs. piece_at language progress (bytes_of xs)) (sym s.2) ∙ is ∙ ap Blank (sym s.3))
    (again progress true s.1 ls size (ap (lines_from language 0 progress true) s.4 ∙ r)) (c ∷ cs) s.2
by_piece language fuel progress space c cs ls (Lexeme kind n) is some le short again lines =
    let s = split_at n c cs some le in
    let r = token_lines_of space kind n c cs (next language progress (Lexeme kind n) c cs) ls
    (sym (lines_from-piece language progress space c cs (Lexeme kind n) is some) ∙ lines) in
    let size : length s.1 ≤ fuel = omega (arith, some, short, ap length s.4, length-drop n (c ∷ cs)) in
    let same : token_of space kind n c cs ≡ token_from space kind c s.0 =
    ap (λ k. token_of space kind k c cs) (sym s.3) ∙ of_cells (length (c ∷ s.0)) cs (s.0 ++ s.1) s.2
    ∙ token_is language space kind c s.0 s.1 in
    let spelled : take n (bytes_of (c ∷ cs)) ≡ bytes_of (c ∷ s.0) =
    ap (λ k. take k (bytes_of (c ∷ cs))) (sym s.3) ∙ ap (λ xs. take (length (c ∷ s.0)) (bytes_of xs)) s.2
    ∙ take_bytes c s.0 s.1 in
    subst (Walk language progress space (c ∷ cs)) (ap (λ t. with_token t r.0) (sym same) ∙ sym r.2)
    (over_token kind c s.0 s.1 (ap (λ xs. piece_at language progress (bytes_of xs)) (sym s.2) ∙ is
    ∙ ap (Lexeme kind) (sym s.3))
    (again (progress_with language progress (bytes_of (c ∷ s.0))) false s.1 r.0 size
    (ap (lines_from language 0 (progress_with language progress (bytes_of (c ∷ s.0))) false) s.4
    ∙ ap (λ t. lines_from language 0 (progress_with language progress t) false (drop n (c ∷ cs))) (sym spelled) ∙ r.1)) (c ∷ cs) s.2)
  where
    of_cells : (k : ℕ) (xs ys : List Cell) → c ∷ xs ≡ c ∷ ys → token_of space kind k c xs ≡ token_of space kind k c ys
    of_cells k xs ys same = let tail : xs ≡ ys = cc in ap (token_of space kind k c) tail

walk_by : (language : Language) (fuel : ℕ) → Rest language fuel
walk_by language fuel progress space [] ls short is = let e : ls ≡ [] = cc in subst (Walk language progress space []) (sym e) at_end
walk_by language zero progress space (c ∷ cs) ls short is = absurd (omega (arith, short))
walk_by language (suc fuel) progress space (c ∷ cs) ls short is =
    let text : List ℕ = bytes_of (c ∷ cs) in
    let bound = piece_at-within language progress text (omega arith) in
    let size : length text ≡ length (c ∷ cs) = length-map (c ∷ cs) (λ (d : Cell). d.byte) in
    by_piece language fuel progress space c cs ls (piece_at language progress text) refl bound.0 (omega (arith, bound.1, size))
    (omega (arith, short)) (walk_by language fuel) is

pub lines_walk : (language : Language) (progress : Progress) (space : Bool) (cells : List Cell) (ls : List TokenLine)
    → lines_from language 0 progress space cells ≡ Ok ls → Walk language progress space cells ls
lines_walk language progress space cells ls is = walk_by language (length cells) progress space cells ls (omega arith) is
