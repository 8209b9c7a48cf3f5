use Rattle.inc_macro.proofs.OptionalParts.{va_opt-at}
use Rattle.inc_macro.proofs.define_directives.va_opt_follows.Goals as goal

pub returns-then-at-tokens : goal.returns-then-at-tokens
returns-then-at-tokens c = va_opt-at c.args.tokens.now c.args.at c.if-at-tokens.true c.is_va_opt.result c.is_va_opt.ensures
