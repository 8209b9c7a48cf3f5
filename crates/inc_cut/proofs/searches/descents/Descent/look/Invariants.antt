use Rattle.std.proofs.Common.{◌≡◌}
use Rattle.std.specs.Prelude.{slice_index}
use Rattle.inc_cut.specs.Descents.{AreLooked}
use Rattle.inc_cut.proofs.searches.descents.Descent.look.Given as goal

abbrev pub invariant-loop-index : goal.invariant-loop-index
invariant-loop-index g l =
    (l.self.reached.items ≡ l.initial.self.reached.items) × (l.self.looked.items ≡ l.initial.self.looked.items) × (l.self.steps.items ≡ l.initial.self.steps.items) × (l.self.file ≡ l.initial.self.file)
    × AreLooked l.graph (g.T.StepTest.passes l.test) l.initial.self.reached.items l.initial.self.file (slice_index l.initial.self.looked.items l.initial.self.file) l.index
