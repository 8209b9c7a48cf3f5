-- The text of the tokens that a preprocessing puts out: one space between two tokens of a line, and each line ended by LF.
use Rattle.std.specs.Prelude.{ℕ, List, [], ◌∷◌, ◌++◌, if◌then◌else◌}
use Rattle.inc_text.specs.Ascii.{line_feed, blank}
use Rattle.inc_pp.specs.Tasks.{OutToken}

-- what follows a token
abbrev pub printed_after : List OutToken → List ℕ
printed_after [] = line_feed ∷ []
printed_after (t ∷ ts) = (if t.starts then line_feed else blank) ∷ t.spelling ++ printed_after ts

-- the first token begins a line whatever it says
abbrev pub printed : List OutToken → List ℕ
printed [] = []
printed (t ∷ ts) = t.spelling ++ printed_after ts
