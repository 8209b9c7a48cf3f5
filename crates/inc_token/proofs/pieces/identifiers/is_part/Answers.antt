use Rattle.std.proofs.Common.{◌≡◌, ℕ, ◌<◌, false, get_or, refl}
use Rattle.std.proofs.lemmas.Bool.{agree_below_at}
use Rattle.inc_token.specs.Scanning.{is_row_byte}
use Rattle.inc_token.specs.declared.pieces.identifiers.TheConstants.{PARTS}
use Rattle.inc_token.proofs.pieces.identifiers.is_part.Goals as goal

-- the table has each byte that the definitions name
table : (b : ℕ) → b < 256 → get_or PARTS b false ≡ is_row_byte b
table b low = agree_below_at (λ n. get_or PARTS n false) is_row_byte 256 b refl low

pub returns : goal.returns
returns c = table c.args.b c.ranges.b.fits
