-- How the lines of a text are kept: all its tokens in a row, and where each line ends.

use Rattle.std.specs.Prelude.{ℕ, zero, suc, ◌≤◌, List, [], ◌∷◌, ◌++◌, Result, Ok, Err, drop, slice_range}
use Rattle.inc_token.specs.TokenLines.{Tok, TokenLine}
use Rattle.inc_token.specs.declared.lines.LexFault.{LexFault}
use Rattle.inc_token.specs.declared.lines.LineEnd.{LineEnd}

-- the lines with these ends, the first of which begins with the token at place `from`
abbrev pub lines_of : List Tok → ℕ → List LineEnd → List TokenLine
lines_of tokens from [] = []
lines_of tokens from (e ∷ ends) =
    record { tokens = slice_range tokens from e.tokens; last_line = e.last_line } ∷ lines_of tokens e.tokens ends

-- the place of the first token of line i, or after the lines where there is none
abbrev pub start_of : ℕ → List LineEnd → ℕ → ℕ
start_of from ends zero = from
start_of from [] (suc i) = from
start_of from (e ∷ ends) (suc i) = start_of e.tokens ends i

-- the place of the first token after the lines with these ends
abbrev pub last_end : ℕ → List LineEnd → ℕ
last_end from [] = from
last_end from (e ∷ ends) = last_end e.tokens ends

-- no line ends before it begins, and none after the last of `n` tokens
abbrev pub AreInOrder : ℕ → List LineEnd → ℕ → Type 0
AreInOrder from [] n = from ≤ n
AreInOrder from (e ∷ ends) n = (from ≤ e.tokens) × AreInOrder e.tokens ends n

-- the tokens of the line that has no end yet
abbrev pub tokens_behind : List Tok → List LineEnd → List Tok
tokens_behind tokens ends = drop (last_end 0 ends) tokens

-- the lines with tokens before those of the first
abbrev pub with_tokens : List Tok → List TokenLine → List TokenLine
with_tokens ts [] = []
with_tokens ts (l ∷ ls) = record { tokens = ts ++ l.tokens; last_line = l.last_line } ∷ ls

-- the answer for a text: its first lines, the tokens of the next line so far, and the answer for what is left
abbrev pub answer_with : List TokenLine → List Tok → Result (List TokenLine) LexFault → Result (List TokenLine) LexFault
answer_with done begun (Ok lines) = Ok (done ++ with_tokens begun lines)
answer_with done begun (Err fault) = Err fault
