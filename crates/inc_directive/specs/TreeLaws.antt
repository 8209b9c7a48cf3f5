-- The lines of a file that lead to a branch.
use Rattle.std.specs.Prelude.{ℕ, Bool, true, false, List, map}
use Rattle.std.specs.List.{filter}
use Rattle.inc_directive.specs.Groups.{FileLine, role}
use Rattle.inc_directive.specs.declared.kinds.Role.{Role}
use Rattle.inc_directive.specs.declared.kinds.Role.TheVariants.{IfGroup, ElifGroup, ElseGroup}

-- a line with this role opens a section or a branch
abbrev pub is_opening : Role → Bool
is_opening IfGroup = true
is_opening ElifGroup = true
is_opening ElseGroup = true
is_opening _ = false

-- the places of the lines that open a section or a branch, from the top
abbrev pub opening_places : List FileLine → List ℕ
opening_places lines = map (λ (l : FileLine). l.place) (filter (λ (l : FileLine). is_opening (role l.kind)) lines)
