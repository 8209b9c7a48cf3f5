-- Replacements put before lists of the program as the definitions see them.
use Rattle.std.specs.Prelude.{◌≡◌, ◌<◌, ◌||◌, ℕ, Bool, List, [], ◌∷◌, ◌++◌, map}
use Rattle.inc_expand.specs.declared.carried.Carried.{Carried}
use Rattle.inc_expand.specs.declared.puts.Union.{Union}
use Rattle.inc_expand.specs.declared.rules.Rule.{Rule}
use Rattle.inc_expand.specs.Sets.{Sets, size, holds, Keeps}
use Rattle.inc_expand.specs.Expansion.{Carrier, Names, hidden_at}
use Rattle.inc_expand.specs.Carriers.{carriers, AreKnown}

-- a token of a replacement on this line, with these names hidden
abbrev pub moved : Rule → ℕ → Names → Carrier → Carrier
moved rule line names p = record p { line = line; hidden = hidden_at rule names p }

-- tokens of a replacement are before a list, on this line and with the names of this set; the table of sets has grown
pub record IsPut (rule : Rule) (old new : Sets) (line names : ℕ) (tokens before after : List Carried) : Type 0 where
  pub keeps : Keeps old new
  pub list : carriers new after ≡ map (moved rule line (holds old names)) (carriers old tokens) ++ carriers old before
  pub known : AreKnown (size new) after

-- what came of joining a set with these names
pub record IsUnion (s : Sets) (names : ℕ) (j : Union) : Type 0 where
  pub set : j.set < size s
  pub known : j.all < size s
  pub members : (n : List ℕ) → holds s j.all n ≡ (holds s names n || holds s j.set n)

-- the first token's white space as given
abbrev pub spaced_front : Bool → List Carried → List Carried
spaced_front space [] = []
spaced_front space (t ∷ ts) = record t { space = space } ∷ ts
