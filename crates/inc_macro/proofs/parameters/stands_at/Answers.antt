use Rattle.std.proofs.Common.{◌∙◌, ap, sym}
use Rattle.inc_macro.specs.Macros.{stands_first}
use Rattle.inc_macro.proofs.TokenTexts.{seen_at}
use Rattle.inc_macro.proofs.parameters.stands_at.Goals as goal

pub returns-then-at-tokens : goal.returns-then-at-tokens
returns-then-at-tokens c = c.is_spelled.ensures ∙ ap (stands_first c.args.text.now) (sym (seen_at c.args.tokens.now c.args.at _ c.if-at-tokens.true))
