-- No text is refused for want of memory: the definitions know none.
use Rattle.inc_text.specs.declared.languages.Language.{Language}
use Rattle.std.proofs.Common.{ℕ, zero, suc, ◌-◌, Bool, false, List, [], ◌∷◌, Result, Ok, Err}
use Rattle.std.specs.Prelude.{◌≢◌, IfErr}
use Rattle.inc_text.specs.PhaseText.{Cell, bytes_of}
use Rattle.inc_token.specs.declared.pieces.Piece.{Piece}
use Rattle.inc_token.specs.declared.pieces.Piece.TheVariants.{Blank, NewLine, Lexeme, Unclosed}
use Rattle.inc_token.specs.declared.pieces.Progress.{Progress}
use Rattle.inc_token.specs.declared.pieces.Progress.TheVariants.{AtStart}
use Rattle.inc_token.specs.TokenLines.{TokenLine, piece_at, piece_len, progress_after, is_space, with_piece, lines_from, token_lines}
use Rattle.inc_token.specs.declared.lines.LexFault.{LexFault}
use Rattle.inc_token.specs.declared.lines.LexFault.TheVariants.{NoMemory}

abbrev HasMemory : Result (List TokenLine) LexFault → Type 0
HasMemory lines = IfErr lines (λ fault. fault ≢ NoMemory)

piece_has : (space : Bool) (piece : Piece) (c : Cell) (cs : List Cell) (lines : Result (List TokenLine) LexFault) → HasMemory lines → HasMemory (with_piece space piece c cs lines)
piece_has space Unclosed c cs lines h = λ e. cc
piece_has space (Blank n) c cs (Ok ls) h = tt
piece_has space (Blank n) c cs (Err fault) h = h
piece_has space NewLine c cs (Ok ls) h = tt
piece_has space NewLine c cs (Err fault) h = h
piece_has space (Lexeme kind n) c cs (Ok ls) h = tt
piece_has space (Lexeme kind n) c cs (Err fault) h = h

lines_have : (language : Language) (left : ℕ) (progress : Progress) (space : Bool) (cells : List Cell) → HasMemory (lines_from language left progress space cells)
lines_have language left progress space [] = tt
lines_have language (suc left) progress space (c ∷ cs) = lines_have language left progress space cs
lines_have language zero progress space (c ∷ cs) =
    let text : List ℕ = bytes_of (c ∷ cs) in
    let piece : Piece = piece_at language progress text in
    piece_has space piece c cs _ (lines_have language (piece_len piece - 1) (progress_after language progress piece text) (is_space piece) cs)

pub token_lines_have : (language : Language) (cells : List Cell) → HasMemory (token_lines language cells)
token_lines_have language cells = lines_have language 0 AtStart false cells
