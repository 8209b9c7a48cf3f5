use Rattle.std.proofs.Common.{refl}
use Rattle.inc_cond.proofs.Turns.{behind-not, turn-no_colon}
use Rattle.inc_cond.proofs.parser.chosen.Goals as goal

pub returns-then-not-takes : goal.returns-then-not-takes
returns-then-not-takes c rest none = turn-no_colon _ _ _ _ _ (behind-not _ _ rest (c.if-not-takes.ensures.missing refl) none)
