use Rattle.std.proofs.Common.{◌≡◌, ℕ, true}
use Rattle.inc_cut.specs.Descents.{IsDescent, holds, left_to_reach}
use Rattle.inc_cut.proofs.searches.descents.Descent.descend.Given as goal

-- what was reached still is, and so is the source
abbrev pub invariant-loop-self : goal.invariant-loop-self
invariant-loop-self g l =
    IsDescent l.graph (g.T.StepTest.passes l.test) l.self.reached.items l.self.looked.items l.self.steps.items l.self.file
    × ((f : ℕ) → holds l.fn.self.reached.items f ≡ true → holds l.self.reached.items f ≡ true)
    × (holds l.self.reached.items l.fn.source ≡ true)

abbrev pub decreases-loop-self : goal.decreases-loop-self
decreases-loop-self g l = left_to_reach l.self.reached.items l.self.steps.items
