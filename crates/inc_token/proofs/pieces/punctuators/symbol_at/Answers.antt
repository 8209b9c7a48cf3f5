use Rattle.std.proofs.Common.{◌∙◌, refl}
use Rattle.inc_token.proofs.Punctuators.{punctuator_len-at}
use Rattle.inc_token.proofs.pieces.punctuators.symbol_at.Goals as goal

pub returns : goal.returns
returns c =
    c.symbol.ensures
    ∙ punctuator_len-at c.args.text.now c.args.at _ _ _ _ refl c.byte_at.ensures c.byte_at-2.ensures c.byte_at-3.ensures
