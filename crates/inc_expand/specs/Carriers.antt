-- Tokens on the way as the definitions see them.
use Rattle.std.specs.Prelude.{ℕ, ◌<◌, List, [], ◌∷◌, map, ⊤}
use Rattle.inc_token.specs.declared.lines.Token.{Token}
use Rattle.inc_expand.specs.declared.carried.Bytes.{Bytes}
use Rattle.inc_expand.specs.declared.carried.Bytes.TheVariants.{Source, Made}
use Rattle.inc_expand.specs.declared.carried.Carried.{Carried}
use Rattle.inc_expand.specs.Expansion.{Carrier}
use Rattle.inc_expand.specs.Sets.{Sets, holds}

-- the bytes of a token
abbrev pub bytes_in : Bytes → List ℕ
bytes_in (Source b) = b.now
bytes_in (Made b) = b.now

-- a token, where the table of sets is this one
abbrev pub carrier : Sets → Carried → Carrier
carrier s t = record { kind = t.kind; spelling = bytes_in t.text; line = t.line; space = t.space; hidden = holds s t.set }

abbrev pub carriers : Sets → List Carried → List Carrier
carriers s ts = map (carrier s) ts

-- a token of a list that is handed in, on the way: it hides nothing
abbrev pub carried_of : Token → Carried
carried_of t = record { text = Source t.spelling; line = t.line; set = 0; kind = t.kind; space = t.space }

-- the set of each token is one of the first n
abbrev pub AreKnown : ℕ → List Carried → Type 0
AreKnown n [] = ⊤
AreKnown n (t ∷ ts) = (t.set < n) × AreKnown n ts
