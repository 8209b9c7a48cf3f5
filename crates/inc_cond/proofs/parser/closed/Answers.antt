use Rattle.std.proofs.Common.{refl}
use Rattle.inc_cond.proofs.Turns.{behind-not, turn-unclosed}
use Rattle.inc_cond.proofs.parser.closed.Goals as goal

pub returns-else-takes : goal.returns-else-takes
returns-else-takes c fs rest none = turn-unclosed fs _ _ _ _ (behind-not _ _ rest (c.if-takes.ensures.missing refl) none)
