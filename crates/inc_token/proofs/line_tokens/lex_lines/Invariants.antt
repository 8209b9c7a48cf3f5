use Rattle.std.proofs.Common.{◌-◌, List, length, map}
use Rattle.inc_token.specs.TokenLines.{Tok, TokenLine}
use Rattle.inc_token.specs.Views.{seen}
use Rattle.inc_token.proofs.LexedLines.{AreTaken}
use Rattle.inc_token.proofs.line_tokens.lex_lines.Given as goal

abbrev pub invariant-loop-left : goal.invariant-loop-left
invariant-loop-left l =
    (done : List TokenLine) × (begun : List Tok)
    × AreTaken l.fn.language l.text l.fn.at l.count l.left l.is_spaced l.is_first (map seen l.fn.tokens.items) (map seen l.tokens.items) l.lexer done begun

abbrev pub decreases-loop-left : goal.decreases-loop-left
decreases-loop-left l = length l.text - l.lexer.at
