-- The tests as they come give the piece of the definition.
use Rattle.std.proofs.Common.{◌∙◌}
use Rattle.inc_token.proofs.PieceTests.{piece_at-is}
use Rattle.inc_token.proofs.BehindBlanks.{behind_blanks-at}
use Rattle.inc_token.proofs.pieces.next_piece.Goals as goal

pub returns-clause-piece : goal.returns-clause-piece
returns-clause-piece c =
    c.scanned.ensures.piece
    ∙ behind_blanks-at c.args.language c.args.progress c.args.text.now c.args.at c.requires.left c.requires.bare
    ∙ piece_at-is c.args.language c.args.progress c.args.text.now c.args.at c.requires.left
