-- Tokens of the program as bodies see them.
use Rattle.std.specs.Prelude.{ℕ, List, map}
use Rattle.inc_token.specs.declared.lines.Token.{Token}

-- the spellings of tokens
abbrev pub spellings_in : List Token → List (List ℕ)
spellings_in ts = map (λ (t : Token). t.spelling.now) ts
