use Rattle.std.proofs.Common.{◌∙◌, ap, sym, is_some, bytes_eq, Some}
use Rattle.inc_macro.specs.Macros.{parameter_follows, parameter_names}
use Rattle.inc_macro.proofs.TokenTexts.{texts_at}
use Rattle.inc_macro.proofs.Positions.{is_some-position}
use Rattle.inc_macro.proofs.define_directives.parameter_follows.Goals as goal

pub returns-then-at-tokens : goal.returns-then-at-tokens
returns-then-at-tokens c =
    let names = parameter_names (Some c.args.params.now) in
    c.is_some.ensures ∙ ap is_some c.place_of.ensures ∙ is_some-position (bytes_eq _) names
    ∙ ap (parameter_follows names) (sym (texts_at c.args.tokens.now c.args.at _ c.if-at-tokens.true))
