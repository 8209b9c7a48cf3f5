use Rattle.inc_expand.proofs.shared_sets.+join_at.Given as goal

abbrev pub decreases-join_at : goal.decreases-join_at
decreases-join_at l = l.depth
