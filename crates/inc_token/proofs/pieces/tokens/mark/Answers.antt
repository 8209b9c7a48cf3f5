use Rattle.std.proofs.Common.{◌∙◌, sym}
use Rattle.inc_token.proofs.BehindBlanks.{single_mark-at}
use Rattle.inc_token.proofs.pieces.tokens.mark.Goals as goal

pub returns-then-is_single_byte-clause-piece : goal.returns-then-is_single_byte-clause-piece
returns-then-is_single_byte-clause-piece c =
    sym (single_mark-at c.args.language c.args.progress c.args.text.now c.args.at c.requires.within (sym c.is_single_byte.ensures ∙ c.if-is_single_byte.true))
