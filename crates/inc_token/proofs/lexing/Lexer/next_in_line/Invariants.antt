use Rattle.std.proofs.Common.{◌≡◌, ◌-◌, length}
use Rattle.inc_token.specs.Lexing.{IsOnLine, line_left}
use Rattle.inc_token.proofs.lexing.Lexer.next_in_line.Given as goal

abbrev pub invariant-steps : goal.invariant-steps
invariant-steps l = IsOnLine l.self × (line_left l.self ≡ line_left l.fn.self)

abbrev pub decreases-steps : goal.decreases-steps
decreases-steps l = length l.self.cursor - l.self.at
