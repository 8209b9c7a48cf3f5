use Rattle.std.proofs.Common.{◌∙◌, ◌+◌, ◌&&◌, ap, sym, false, not, drop}
use Rattle.inc_macro.specs.Macros.{is_closed}
use Rattle.inc_macro.specs.Views.{spellings_in}
use Rattle.inc_macro.proofs.OptionalParts.{optional-by}
use Rattle.inc_macro.proofs.define_directives.optional_follows.Goals as goal

pub returns-then-not-paste_follows : goal.returns-then-not-paste_follows
returns-then-not-paste_follows c =
    let rest = drop (c.args.at + 1) (spellings_in c.args.tokens.now) in
    optional-by c.args.tokens.now c.args.at c.left_follows.result c.paste_follows.result _ c.left_follows.ensures c.if-not-left_follows.false c.paste_follows.ensures
    (c.is_closed.ensures ∙ ap (λ b. not b && is_closed 0 false rest) (sym c.if-not-paste_follows.true))

pub returns-else-not-paste_follows : goal.returns-else-not-paste_follows
returns-else-not-paste_follows c =
    let rest = drop (c.args.at + 1) (spellings_in c.args.tokens.now) in
    optional-by c.args.tokens.now c.args.at c.left_follows.result c.paste_follows.result _ c.left_follows.ensures c.if-not-left_follows.false c.paste_follows.ensures
    (ap not c.if-not-paste_follows.false ∙ ap (λ b. not b && is_closed 0 false rest) (sym c.if-not-paste_follows.false))
