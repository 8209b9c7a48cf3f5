use Rattle.std.proofs.Common.{◌-◌, List, length}
use Rattle.inc_token.specs.TokenLines.{Tok}
use Rattle.inc_token.proofs.LexedLines.{IsBegun}
use Rattle.inc_token.proofs.line_tokens.lex_token.Given as goal

abbrev pub invariant-steps : goal.invariant-steps
invariant-steps l = (begun : List Tok) × IsBegun l.fn.language l.text l.fn.at l.place l.left l.lexer begun

abbrev pub decreases-steps : goal.decreases-steps
decreases-steps l = length l.text - l.lexer.at
