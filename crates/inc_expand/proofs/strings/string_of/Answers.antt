use Rattle.std.proofs.Common.{◌∙◌, ap, sym, Ok}
use Rattle.inc_expand.specs.Expansion.{Carrier}
use Rattle.inc_expand.proofs.strings.string_of.Goals as goal

pub returns-clause-string : goal.returns-clause-string
returns-clause-string c s = c.in_ok-bytes.ensures.string c.args.space s ∙ ap (λ (t : Carrier). Ok t) (sym (c.made_string.ensures.token s))
