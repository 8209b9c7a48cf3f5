use Rattle.std.proofs.Common.{◌<◌, length}
use Rattle.inc_expand.specs.Expansion.{longest_made}
use Rattle.inc_expand.specs.Lent.{lent_tokens}
use Rattle.inc_expand.proofs.StringSteps.{IsBegun}
use Rattle.inc_expand.proofs.strings.string_text.Given as goal

abbrev pub invariant-loop-i : goal.invariant-loop-i
invariant-loop-i l = IsBegun (lent_tokens l.written) l.i l.text.items × (length l.text.items < longest_made)
