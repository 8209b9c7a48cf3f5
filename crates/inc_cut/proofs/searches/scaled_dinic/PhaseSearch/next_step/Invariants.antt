use Rattle.std.proofs.Common.{◌≡◌, length}
use Rattle.inc_cut.proofs.searches.scaled_dinic.PhaseSearch.next_step.Given as goal

abbrev pub invariant-loop-index : goal.invariant-loop-index
invariant-loop-index g l = (l.self.levels.items ≡ l.initial.self.levels.items) × (length l.self.tried.items ≡ l.graph.files)
