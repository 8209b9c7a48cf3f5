use Rattle.std.proofs.Common.{◌∙◌, Some, ap, bytes_eq, is_some}
use Rattle.inc_macro.specs.Macros.{parameter_names, va_opt}
use Rattle.inc_macro.proofs.Positions.{is_some-position}
use Rattle.inc_macro.proofs.define_directives.names_optional.Goals as goal

pub returns : goal.returns
returns c = c.is_some.ensures ∙ ap is_some c.place_of.ensures ∙ is_some-position (bytes_eq va_opt) (parameter_names (Some c.args.params.now))
