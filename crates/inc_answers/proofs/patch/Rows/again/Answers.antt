use Rattle.std.proofs.Common.{arith}
use Rattle.inc_answers.proofs.PatchLemmas.{few_rows}
use Rattle.inc_answers.proofs.patch.Rows.again.Goals as goal

pub returns-clause-few : goal.returns-clause-few
returns-clause-few c = rw (← c.self.view_is) (omega (arith, few_rows c.self.inside.before.now c.self.inside.after.now, c.self.invariant))
