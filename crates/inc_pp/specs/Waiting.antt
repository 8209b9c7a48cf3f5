-- Tokens that wait for the rest of a call, as the definitions see them. Their spellings lie one after the other in one list of bytes.
use Rattle.std.specs.Prelude.{ℕ, ◌≡◌, ◌≤◌, ◌-◌, List, [], ◌∷◌, drop, take}
use Rattle.inc_expand.specs.Openings.{Held}
use Rattle.inc_pp.specs.declared.waiting.Part.{Part}

abbrev pub token_of : Part → (spelling : List ℕ) → Held
token_of p spelling = record { kind = p.kind; spelling = spelling; line = p.line; space = p.space; painted = p.painted }

-- tokens, the spelling of the first of which begins at a place, and that of each other one where the one before it ends
abbrev pub tokens_in : (bytes : List ℕ) → (begin : ℕ) → List Part → List Held
tokens_in bytes begin [] = []
tokens_in bytes begin (p ∷ ps) = token_of p (take (p.end - begin) (drop begin bytes)) ∷ tokens_in bytes p.end ps

-- no spelling ends before it begins, and the last one ends where the bytes do
abbrev pub AreEnds : (begin : ℕ) → (len : ℕ) → List Part → Type 0
AreEnds begin len [] = begin ≡ len
AreEnds begin len (p ∷ ps) = (begin ≤ p.end) × AreEnds p.end len ps
