use Rattle.std.proofs.Common.{◌∙◌, ◌+◌, ◌&&◌, ap, sym, not, drop}
use Rattle.inc_macro.specs.Macros.{follows_optional}
use Rattle.inc_macro.specs.Views.{spellings_in}
use Rattle.inc_macro.proofs.OptionalParts.{bad-optional}
use Rattle.inc_macro.proofs.define_directives.bad_optional_follows.Goals as goal

pub returns-then-is_va_opt : goal.returns-then-is_va_opt
returns-then-is_va_opt c =
    let rest = drop (c.args.at + 1) (spellings_in c.args.tokens.now) in
    bad-optional c.args.tokens.now c.args.at c.is_va_opt.result _ c.requires c.is_va_opt.ensures
    (ap not c.optional_follows.ensures ∙ ap (λ b. b && not (follows_optional rest)) (sym c.if-is_va_opt.true))

pub returns-else-is_va_opt : goal.returns-else-is_va_opt
returns-else-is_va_opt c =
    let rest = drop (c.args.at + 1) (spellings_in c.args.tokens.now) in
    bad-optional c.args.tokens.now c.args.at c.is_va_opt.result _ c.requires c.is_va_opt.ensures
    (c.if-is_va_opt.false ∙ ap (λ b. b && not (follows_optional rest)) (sym c.if-is_va_opt.false))
