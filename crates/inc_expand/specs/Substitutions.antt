-- A substitution in the program's order: first each string that `#` makes, then the parts with these strings.
use Rattle.std.specs.Prelude.{List, [], ◌∷◌, ◌++◌, None, map, Result, Ok}
use Rattle.inc_macro.specs.Results.{◌>>=◌}
use Rattle.inc_expand.specs.declared.faults.ExpandFault.{ExpandFault}
use Rattle.inc_expand.specs.Elements.{Element, Word, Glue, Silent, StringOf, AsWritten, Expanded, Comma, Optional, Kept, Empty, Made}
use Rattle.inc_expand.specs.Expansion.{Carrier, Argument, Part, Paste, Piece, as_part, of_body, operand, spaced, string_of, argument_at, comma_part, made_string}

-- the strings of a body's places, from left to right
abbrev pub made_strings : List Argument → List Element → Result (List Carrier) ExpandFault
made_strings args [] = Ok []
made_strings args (StringOf space n ∷ es) =
    string_of space (argument_at args n).written >>= λ t. made_strings args es >>= λ ts. Ok (t ∷ ts)
made_strings args (e ∷ es) = made_strings args es

-- the parts of a place that is no string
abbrev pub plain_parts : List Argument → Element → List Part
plain_parts args (Word b) = as_part (of_body b) ∷ []
plain_parts args Glue = Paste ∷ []
plain_parts args Silent = []
plain_parts args (StringOf space n) = []
plain_parts args (AsWritten space n) = operand (spaced space (argument_at args n).written)
plain_parts args (Expanded space n) = map as_part (spaced space (argument_at args n).expanded)
plain_parts args (Comma b n) = comma_part (argument_at args n).given b ∷ []
plain_parts args (Optional hash n) = []
plain_parts args (Kept space n) = operand (spaced space (argument_at args n).expanded)
plain_parts args Empty = Piece None ∷ []
plain_parts args (Made space text) = as_part (made_string space text) ∷ []

-- the parts of a body's places, with these strings
abbrev pub parts_from : List Argument → List Element → List Carrier → List Part
parts_from args [] ts = []
parts_from args (StringOf space n ∷ es) [] = parts_from args es []
parts_from args (StringOf space n ∷ es) (t ∷ ts) = as_part t ∷ parts_from args es ts
parts_from args (e ∷ es) ts = plain_parts args e ++ parts_from args es ts

abbrev pub parts_with : List Argument → List Carrier → List Element → List Part
parts_with args ts es = parts_from args es ts
