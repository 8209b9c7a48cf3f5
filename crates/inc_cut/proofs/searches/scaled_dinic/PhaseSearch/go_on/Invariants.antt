use Rattle.std.proofs.Common.{◌≡◌, length}
use Rattle.inc_cut.proofs.searches.scaled_dinic.PhaseSearch.go_on.Given as goal

abbrev pub invariant-loop-next : goal.invariant-loop-next
invariant-loop-next g l = (length l.self.levels.items ≡ l.graph.files) × (length l.self.tried.items ≡ l.graph.files)
