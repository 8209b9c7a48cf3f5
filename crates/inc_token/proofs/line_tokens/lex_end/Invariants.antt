use Rattle.std.proofs.Common.{◌-◌, List, length}
use Rattle.inc_token.specs.TokenLines.{Tok}
use Rattle.inc_token.proofs.LexedLines.{IsOn}
use Rattle.inc_token.proofs.line_tokens.lex_end.Given as goal

abbrev pub invariant-steps : goal.invariant-steps
invariant-steps l = (begun : List Tok) × IsOn l.fn.language l.text l.fn.at l.lexer begun

abbrev pub decreases-steps : goal.decreases-steps
decreases-steps l = length l.text - l.lexer.at
