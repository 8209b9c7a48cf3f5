use Rattle.std.proofs.Common.{◌≡◌, length}
use Rattle.inc_cut.proofs.searches.scaled_dinic.PhaseSearch.keep.Given as goal

abbrev pub invariant-loop-visit : goal.invariant-loop-visit
invariant-loop-visit l = length l.self.levels.items ≡ l.graph.files
