use Rattle.inc_cut.proofs.searches.scaled_dinic.PhaseSearchPathSearch.search.Given as goal

abbrev pub decreases-loop-least : goal.decreases-loop-least
decreases-loop-least l = l.least
