-- A walk over the parts of a replacement as the definitions see it.
use Rattle.std.specs.Prelude.{◌≡◌, ℕ, ◌<◌, Bool, List, [], ◌∷◌, ◌++◌, Option, None, Some, Result, Ok, Err, ⊤}
use Rattle.inc_expand.specs.declared.carried.Carried.{Carried}
use Rattle.inc_expand.specs.declared.faults.ExpandFault.{ExpandFault}
use Rattle.inc_expand.specs.declared.pastes.LeftSide.{LeftSide}
use Rattle.inc_expand.specs.declared.pastes.LeftSide.TheVariants.{Nothing, Whole, Made}
use Rattle.inc_expand.specs.declared.pastes.Joiner.{Joiner}
use Rattle.inc_expand.specs.declared.pastes.Segment.{Segment}
use Rattle.inc_expand.specs.declared.pastes.Segment.TheVariants.{One, Several}
use Rattle.inc_expand.specs.Sets.{Sets, holds}
use Rattle.inc_expand.specs.Expansion.{Carrier, Part, paste_from}
use Rattle.inc_expand.specs.Carriers.{carrier, carriers, AreKnown}
use Rattle.inc_expand.specs.Lent.{lent_tokens}

abbrev pub segment_tokens : Segment → List Carried
segment_tokens (One t) = t ∷ []
segment_tokens (Several ts) = lent_tokens ts

-- the tokens of segments
abbrev pub tokens_in : List Segment → List Carried
tokens_in [] = []
tokens_in (x ∷ xs) = segment_tokens x ++ tokens_in xs

-- what is before the place, where these are the bytes of a made token
abbrev pub before_of : Sets → List ℕ → LeftSide → Option Carrier
before_of s text Nothing = None
before_of s text (Whole t) = Some (carrier s t)
before_of s text (Made set kind space) = Some (record { kind = kind; spelling = text; line = 0; space = space; hidden = holds s set })

-- tokens before others
abbrev pub put_before : List Carrier → Result (List Carrier) ExpandFault → Result (List Carrier) ExpandFault
put_before front (Ok ts) = Ok (front ++ ts)
put_before front (Err fault) = Err fault

-- all tokens, where these parts are left
abbrev pub rest_of : Sets → Joiner → List Part → Result (List Carrier) ExpandFault
rest_of s j parts = put_before (carriers s (tokens_in j.done.items)) (paste_from j.rule j.joins (before_of s j.text.items j.before) parts)

abbrev pub IsKnownBefore : ℕ → LeftSide → Type 0
IsKnownBefore n Nothing = ⊤
IsKnownBefore n (Whole t) = t.set < n
IsKnownBefore n (Made set kind space) = set < n

-- the sets of all tokens are among the first n
abbrev pub IsKnown : ℕ → Joiner → Type 0
IsKnown n j = AreKnown n (tokens_in j.done.items) × IsKnownBefore n j.before

-- the set and the white space of what is before the place, whose bytes are these
abbrev pub IsOpened : Sets → List ℕ → Option Carrier → Option (ℕ × Bool) → Type 0
IsOpened s text None None = ⊤
IsOpened s text (Some a) (Some p) = (a.spelling ≡ text) × ((a.space ≡ p.1) × (a.hidden ≡ holds s p.0))
IsOpened s text _ _ = ⊥
