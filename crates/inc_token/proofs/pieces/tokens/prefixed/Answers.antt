use Rattle.std.proofs.Common.{ap, sym, ◌∙◌}
use Rattle.inc_token.specs.declared.kinds.Kind.TheVariants.{Identifier}
use Rattle.inc_token.specs.declared.pieces.Piece.TheVariants.{Lexeme}
use Rattle.inc_token.proofs.LoneQuotes.{plain_word}
use Rattle.inc_token.proofs.pieces.tokens.prefixed.Goals as goal

pub returns : goal.returns
returns c =
    ap (Lexeme Identifier) c.word_len.ensures
    ∙ sym (plain_word c.args.language c.args.text.now c.args.at _ c.requires (sym c.may_quote.ensures ∙ c.if-may_quote.false))
