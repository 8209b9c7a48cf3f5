use Rattle.inc_expand.proofs.shared_sets.+with_at.Given as goal

abbrev pub decreases-with_at : goal.decreases-with_at
decreases-with_at l = l.depth
