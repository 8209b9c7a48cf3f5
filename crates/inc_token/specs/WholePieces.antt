-- A text of which the whole is looked at, by the piece at its front.
use Rattle.std.specs.Prelude.{ℕ, ◌==◌, Option, Some, None, if◌then◌else◌}
use Rattle.inc_token.specs.declared.kinds.Kind.{Kind}
use Rattle.inc_token.specs.declared.pieces.Piece.{Piece}
use Rattle.inc_token.specs.declared.pieces.Piece.TheVariants.{Lexeme}

-- the class of a piece that is a token of so many bytes
abbrev pub class_of_whole : Piece → ℕ → Option Kind
class_of_whole (Lexeme kind n) size = if n == size then Some kind else None
class_of_whole _ size = None
