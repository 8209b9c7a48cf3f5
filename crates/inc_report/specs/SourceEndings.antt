-- Lines that say which part of what is printed is of a source, and how its preprocessing ended.
use Rattle.std.specs.Prelude.{ℕ, List, [], ◌∷◌, ◌++◌, ◌==◌, if◌then◌else◌, codes, decimal, flat_map, length}
use Rattle.std.specs.Option.{option_map_or}
use Rattle.inc_lookup.specs.Projects.{Layout}
use Rattle.inc_check.specs.Texts.{line_text}
use Rattle.inc_pp.specs.Preprocessing.{Outcome}
use Rattle.inc_report.specs.PpText.{stop_text}

-- how an outcome ended: where it stopped, as it is printed, if it did
abbrev pub outcome_ending : Layout → Outcome → List ℕ
outcome_ending layout o = option_map_or (stop_text layout) o.stop (line_text (codes "answered"))

-- a byte of a path on its line: the one that would end the line is spelled out
abbrev pub path_byte : ℕ → List ℕ
path_byte b = if b == 10 then codes "\\x0a" else b ∷ []

-- how many bytes are printed of a source, its path, and how it ended
abbrev pub ending_text : (source printed ending : List ℕ) → List ℕ
ending_text source printed ending = decimal (length printed) ++ codes " " ++ line_text (flat_map path_byte source) ++ ending
