-- The globs of a rule in pieces.
use Rattle.std.specs.Prelude.{List, Option, filter_map}
use Rattle.inc_globs.specs.Globs.{Piece, pieces}
use Rattle.inc_rules.specs.Rules.{Rule}

-- those of its left and right side and of its exceptions; a bad one fits nothing
pub record Sides : Type 0 where
  pub left : Option (List Piece)
  pub right : Option (List Piece)
  pub except : List (List Piece)

abbrev pub sides_of : Rule → Sides
sides_of r = record { left = pieces r.left; right = pieces r.right; except = filter_map pieces r.except }
