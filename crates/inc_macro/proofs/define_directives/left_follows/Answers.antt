use Rattle.std.proofs.Common.{◌∙◌, ap, sym}
use Rattle.inc_macro.specs.Macros.{begins_with_left}
use Rattle.inc_macro.proofs.TokenTexts.{texts_at}
use Rattle.inc_macro.proofs.define_directives.left_follows.Goals as goal

pub returns-then-at-tokens : goal.returns-then-at-tokens
returns-then-at-tokens c = c.is_left.ensures ∙ ap begins_with_left (sym (texts_at c.args.tokens.now c.args.at _ c.if-at-tokens.true))
