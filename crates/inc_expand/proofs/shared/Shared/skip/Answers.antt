use Rattle.inc_expand.proofs.SharedSteps.{shared-skipped}
use Rattle.inc_expand.proofs.shared.Shared.skip.Goals as goal

pub returns-then-count-self : goal.returns-then-count-self
returns-then-count-self c =
    rw (← c.self.view_is) (shared-skipped c.self.inside.all.value.items c.self.inside.begin c.self.inside.end c.args.count c.if-count-self.true)
