-- Rules and their faults as words on a line.
use Rattle.std.specs.Prelude.{ℕ, zero, suc, ◌+◌, List, [], ◌∷◌, ◌++◌, codes}
use Rattle.inc_rules.specs.Rules.{Fault}
use Rattle.inc_rules.specs.declared.rules.FaultKind.{FaultKind}
use Rattle.inc_rules.specs.declared.rules.FaultKind.TheVariants.{UnknownVerb, Ends, Unexpected, BadGlob}

-- what stands before a word at a place
abbrev pub space_at : ℕ → List ℕ
space_at zero = []
space_at (suc n) = codes " "

-- words from this place on, with a space between two
abbrev pub joined_from : (place : ℕ) → List (List ℕ) → List ℕ
joined_from place [] = []
joined_from place (w ∷ ws) = space_at place ++ w ++ joined_from (place + 1) ws

abbrev pub joined : List (List ℕ) → List ℕ
joined ws = joined_from 0 ws

-- words in quotes
abbrev pub quoted : List (List ℕ) → List ℕ
quoted ws = codes "'" ++ joined ws ++ codes "'"

-- what stands before the words of a fault, and after them
abbrev pub said_before : FaultKind → List ℕ
said_before UnknownVerb = codes "unknown verb "
said_before Ends = codes "nothing after "
said_before Unexpected = codes "unexpected "
said_before BadGlob = []

abbrev pub said_after : FaultKind → List ℕ
said_after BadGlob = codes " has a [ without ]"
said_after kind = []

-- what is wrong with a line
abbrev pub fault_words : Fault → List ℕ
fault_words f = said_before f.kind ++ quoted f.words ++ said_after f.kind
