-- How definitions see the pieces of a glob.
use Rattle.std.specs.Prelude.{ℕ}
use Rattle.inc_globs.specs.Globs.{Piece, Byte, Any, Class, Name, Path, Directories}
use Rattle.inc_globs.specs.declared.globs.Piece.{Piece as PieceValue}
use Rattle.inc_globs.specs.declared.globs.Piece.TheVariants as value

abbrev pub seen_piece : PieceValue → Piece
seen_piece (value.Byte b) = Byte b
seen_piece value.Any = Any
seen_piece (value.Class negated members) = Class negated members.now
seen_piece value.Name = Name
seen_piece value.Path = Path
seen_piece value.Directories = Directories

-- a piece and its length
abbrev pub seen_step : PieceValue × ℕ → Piece × ℕ
seen_step x = (seen_piece x.0, x.1)
