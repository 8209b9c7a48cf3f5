use Rattle.std.proofs.Common.{◌∙◌, sym}
use Rattle.inc_macro.proofs.OptionalParts.{operand-other}
use Rattle.inc_macro.proofs.define_directives.operand_follows.Goals as goal

pub returns : goal.returns
returns c = operand-other c.args.tokens.now c.args.at c.args.params.now _ (sym c.takes_comma.ensures ∙ c.if-takes_comma.false) c.parameter_follows-2.ensures
