use Rattle.std.proofs.Common.{◌-◌, length, map}
use Rattle.inc_token.specs.Views.{seen}
use Rattle.inc_token.proofs.Steps.{AreLexed}
use Rattle.inc_token.proofs.lexing.lex_into.Given as goal

abbrev pub invariant-steps : goal.invariant-steps
invariant-steps l = AreLexed l.fn.language l.text l.lexer (map seen l.tokens.items) l.ends.items

abbrev pub decreases-steps : goal.decreases-steps
decreases-steps l = length l.text - l.lexer.at
