-- The answer for a text before and after what is at a place is taken.
use Rattle.inc_text.specs.declared.languages.Language.{Language}
use Rattle.std.proofs.Common.{◌≡◌, ℕ, ◌+◌, ◌-◌, ◌<◌, ◌≤◌, Bool, true, false, List, [], ◌∷◌, ◌++◌, Some, Result, Err, length, take, drop, get_or, sym, ap, ◌∙◌, arith, slice_get, slice_range, option_map}
use Rattle.std.specs.List.{prefix_len}
use Rattle.std.proofs.lemmas.List.{drop-drop, get_or-drop, length-drop}
use Rattle.std.proofs.lemmas.List.Sums.{prefix_len_stops}
use Rattle.inc_text.specs.PhaseText.{Cell, bytes_of, range_and_line}
use Rattle.inc_token.specs.LineEnds.{answer_with}
use Rattle.inc_token.specs.Spellings.{is_blank}
use Rattle.inc_token.specs.TokenLines.{Tok, TokenLine, lines_from, piece_at, piece_len, progress_with, range_end, token_of, with_piece}
use Rattle.inc_token.specs.declared.kinds.Kind.{Kind}
use Rattle.inc_token.specs.declared.pieces.Piece.{Piece}
use Rattle.inc_token.specs.declared.pieces.Piece.TheVariants.{Blank, NewLine, Lexeme, Unclosed}
use Rattle.inc_token.specs.declared.pieces.Progress.{Progress}
use Rattle.inc_token.specs.declared.pieces.Progress.TheVariants.{AtStart}
use Rattle.inc_token.specs.declared.lines.LexFault.{LexFault}
use Rattle.inc_token.specs.declared.lines.LexFault.TheVariants.{OpenComment}
use Rattle.inc_token.proofs.Cells.{lines_from-spaces, bytes_of-drop, slice_get-drop, cell_at, range_end-is, at_place, with_piece-blank, with_piece-open}
use Rattle.inc_token.proofs.PieceBounds.{piece_at-within}
use Rattle.inc_token.proofs.KeptLines.{answer_with-token, answer_with-end}

-- a run of white space of one byte each
pub spaces_at : (language : Language) (bytes : List ℕ) (cells : List Cell) (at behind : ℕ) (progress : Progress) (space : Bool) → bytes ≡ bytes_of cells
    → behind ≡ at + prefix_len is_blank (drop at bytes) → at < behind
    → lines_from language 0 progress true (drop behind cells) ≡ lines_from language 0 progress space (drop at cells)
spaces_at language bytes cells at behind progress space text is less =
    let here : drop at bytes ≡ bytes_of (drop at cells) = ap (drop at) text ∙ bytes_of-drop at cells in
    let n : ℕ = prefix_len is_blank (bytes_of (drop at cells)) in
    let same : prefix_len is_blank (drop at bytes) ≡ n = ap (prefix_len is_blank) here in
    let sum : at + n ≡ behind = omega arith in
    sym (lines_from-spaces language progress space (drop at cells) (omega arith) ∙ ap (lines_from language 0 progress true) (drop-drop n at cells ∙ ap (λ k. drop k cells) sum))

-- no white space is after it
pub bare_behind : (bytes : List ℕ) (at behind : ℕ) → behind ≡ at + prefix_len is_blank (drop at bytes) → behind < length bytes → is_blank (get_or bytes behind 0) ≡ false
bare_behind bytes at behind is within =
    let n = prefix_len is_blank (drop at bytes) in
    let less : n < length (drop at bytes) = omega (arith, is, within, length-drop at bytes) in
    ap (λ k. is_blank (get_or bytes k 0)) is ∙ ap is_blank (sym (get_or-drop at bytes n 0)) ∙ prefix_len_stops is_blank (drop at bytes) 0 less

-- a comment, or one byte of white space
pub blank_at : (language : Language) (bytes : List ℕ) (cells : List Cell) (at n : ℕ) (progress : Progress) (space : Bool) → bytes ≡ bytes_of cells → at < length cells
    → Blank n ≡ piece_at language progress (drop at bytes) → 1 ≤ n
    → lines_from language 0 progress true (drop (at + n) cells) ≡ lines_from language 0 progress space (drop at cells)
blank_at language bytes cells at n progress space text within is pos =
    let cell = cell_at cells at within in
    let piece : piece_at language progress (drop at (bytes_of cells)) ≡ Blank n = ap (λ t. piece_at language progress (drop at t)) (sym text) ∙ sym is in
    sym (at_place language cells at progress space (Blank n) cell.0 cell.1 cell.2 piece pos ∙ with_piece-blank space n cell.0 cell.1 (lines_from language 0 progress true (drop (at + n) cells)))

-- where the cell at a place comes from
pub line_at : (cells : List Cell) (at : ℕ) (c : Cell) (first last line : ℕ) → slice_get cells at ≡ Some c
    → option_map range_and_line (slice_get cells at) ≡ Some (first, last, line) → range_and_line c ≡ (first, last, line)
line_at cells at c first last line is place =
    let e : Some (range_and_line c) ≡ Some (first, last, line) = ap (option_map range_and_line) (sym is) ∙ place in cc

-- an unterminated comment
pub open_at : (language : Language) (bytes : List ℕ) (cells : List Cell) (at : ℕ) (progress : Progress) (space : Bool) (first last line : ℕ)
    → bytes ≡ bytes_of cells → at < length cells → Unclosed ≡ piece_at language progress (drop at bytes)
    → option_map range_and_line (slice_get cells at) ≡ Some (first, last, line)
    → lines_from language 0 progress space (drop at cells) ≡ Err (OpenComment line)
open_at language bytes cells at progress space first last line text within is place =
    let cell = cell_at cells at within in
    let piece : piece_at language progress (drop at (bytes_of cells)) ≡ Unclosed = ap (λ t. piece_at language progress (drop at t)) (sym text) ∙ sym is in
    let from = line_at cells at cell.0 first last line cell.3 place in
    let on : cell.0.line ≡ line = ap (λ (x : ℕ × ℕ × ℕ). x.2) from in
    at_place language cells at progress space Unclosed cell.0 cell.1 cell.2 piece (omega arith)
    ∙ with_piece-open space cell.0 cell.1 (lines_from language 0 AtStart false (drop (at + 1) cells)) ∙ ap (λ n. Err (OpenComment n)) on

-- the LF that ends a line
pub new_line_at : (language : Language) (bytes : List ℕ) (cells : List Cell) (at : ℕ) (progress : Progress) (space : Bool) (done : List TokenLine) (begun : List Tok) (first last line : ℕ)
    → bytes ≡ bytes_of cells → at < length cells → piece_at language progress (drop at bytes) ≡ NewLine
    → option_map range_and_line (slice_get cells at) ≡ Some (first, last, line)
    → answer_with (done ++ record { tokens = begun; last_line = line } ∷ []) [] (lines_from language 0 AtStart false (drop (at + 1) cells))
    ≡ answer_with done begun (lines_from language 0 progress space (drop at cells))
new_line_at language bytes cells at progress space done begun first last line text within is place =
    let cell = cell_at cells at within in
    let piece : piece_at language progress (drop at (bytes_of cells)) ≡ NewLine = ap (λ t. piece_at language progress (drop at t)) (sym text) ∙ is in
    let from = line_at cells at cell.0 first last line cell.3 place in
    let on : line ≡ cell.0.line = sym (ap (λ (x : ℕ × ℕ × ℕ). x.2) from) in
    let rest : Result (List TokenLine) LexFault = lines_from language 0 AtStart false (drop (at + 1) cells) in
    ap (λ n. answer_with (done ++ record { tokens = begun; last_line = n } ∷ []) [] rest) on
    ∙ answer_with-end done begun rest space cell.0 cell.1
    ∙ sym (ap (answer_with done begun) (at_place language cells at progress space NewLine cell.0 cell.1 cell.2 piece (omega arith)))

-- a token
last_at : (cells : List Cell) (at n : ℕ) (c : Cell) (cs : List Cell) (first last line : ℕ) → drop at cells ≡ c ∷ cs → 1 ≤ n → at + n ≤ length cells
    → option_map range_and_line (slice_get cells (at + n - 1)) ≡ Some (first, last, line) → last ≡ range_end (n - 1) c cs
last_at cells at n c cs first last line here pos fits place =
    let cell = cell_at cells (at + n - 1) (omega arith) in
    let from = line_at cells (at + n - 1) cell.0 first last line cell.3 place in
    let e : at + n - 1 ≡ at + (n - 1) = omega arith in
    let d : slice_get (c ∷ cs) (n - 1) ≡ Some cell.0 = ap (λ l. slice_get l (n - 1)) (sym here) ∙ slice_get-drop cells at (n - 1) ∙ ap (slice_get cells) (sym e) ∙ cell.3 in
    sym (range_end-is (n - 1) c cs cell.0 d ∙ ap (λ (x : ℕ × ℕ × ℕ). x.1) from)

pub token_at : (language : Language) (bytes : List ℕ) (cells : List Cell) (at n : ℕ) (kind : Kind) (progress : Progress) (space : Bool) (done : List TokenLine) (begun : List Tok) (t : Tok)
    (first last line first' last' line' : ℕ) (spelling : List ℕ)
    → bytes ≡ bytes_of cells → at < length cells → piece_at language progress (drop at bytes) ≡ Lexeme kind n → 1 ≤ n → at + n ≤ length cells
    → spelling ≡ slice_range bytes at (at + n)
    → option_map range_and_line (slice_get cells at) ≡ Some (first, last, line)
    → option_map range_and_line (slice_get cells (at + n - 1)) ≡ Some (first', last', line')
    → t ≡ record { kind = kind; spelling = spelling; first = first; last = last'; line = line; space = space }
    → answer_with done (begun ++ t ∷ []) (lines_from language 0 (progress_with language progress spelling) false (drop (at + n) cells))
    ≡ answer_with done begun (lines_from language 0 progress space (drop at cells))
token_at language bytes cells at n kind progress space done begun t first last line first' last' line' spelling text within is pos fits part place place' seen =
    let cell = cell_at cells at within in
    let c : Cell = cell.0 in
    let cs : List Cell = cell.1 in
    let left : List ℕ = drop at (bytes_of cells) in
    let piece : piece_at language progress left ≡ Lexeme kind n = ap (λ b. piece_at language progress (drop at b)) (sym text) ∙ is in
    let from = line_at cells at c first last line cell.3 place in
    let first_is : first ≡ c.first = sym (ap (λ (x : ℕ × ℕ × ℕ). x.0) from) in
    let line_is : line ≡ c.line = sym (ap (λ (x : ℕ × ℕ × ℕ). x.2) from) in
    let last_is : last' ≡ range_end (n - 1) c cs = last_at cells at n c cs first' last' line' cell.2 pos fits place' in
    let len : at + n - at ≡ n = omega arith in
    let in_text : spelling ≡ take n left = part ∙ ap (λ b. slice_range b at (at + n)) text ∙ ap (λ k. take k left) len in
    let spelled : spelling ≡ take n (bytes_of (c ∷ cs)) = in_text ∙ ap (take n) (bytes_of-drop at cells ∙ ap bytes_of cell.2) in
    let make : List ℕ → ℕ → ℕ → ℕ → Tok = λ b f l k. record { kind = kind; spelling = b; first = f; last = l; line = k; space = space } in
    let token : t ≡ token_of space kind n c cs =
    seen
    ∙ ap (λ b. make b first last' line) spelled
    ∙ ap (λ f. make (take n (bytes_of (c ∷ cs))) f last' line) first_is
    ∙ ap (λ l. make (take n (bytes_of (c ∷ cs))) c.first l line) last_is
    ∙ ap (λ k. make (take n (bytes_of (c ∷ cs))) c.first (range_end (n - 1) c cs) k) line_is in
    let here : List ℕ = take n (bytes_of (c ∷ cs)) in
    let same : here ≡ take n left = sym spelled ∙ in_text in
    let rest : List ℕ → Result (List TokenLine) LexFault = λ b. lines_from language 0 (progress_with language progress b) false (drop (at + n) cells) in
    ap (λ b. answer_with done (begun ++ t ∷ []) (rest b)) spelled
    ∙ answer_with-token done begun t (rest here) space kind n c cs token
    ∙ sym (ap (answer_with done begun) (at_place language cells at progress space (Lexeme kind n) c cs cell.2 piece pos)
    ∙ ap (λ b. answer_with done begun (with_piece space (Lexeme kind n) c cs (rest b))) (sym same))

-- what is at a place lies within the text
pub piece_fits : (language : Language) (bytes : List ℕ) (at : ℕ) (progress : Progress) (piece : Piece) → at < length bytes → piece ≡ piece_at language progress (drop at bytes)
    → (1 ≤ piece_len piece) × (at + piece_len piece ≤ length bytes)
piece_fits language bytes at progress piece within is =
    let rest = length-drop at bytes in
    let fits = piece_at-within language progress (drop at bytes) (omega arith) in
    let len : piece_len piece ≡ piece_len (piece_at language progress (drop at bytes)) = ap piece_len is in
    (omega (arith, fits.0, len), omega (arith, fits.1, len, rest))
