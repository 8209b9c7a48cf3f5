use Rattle.inc_expand.proofs.shared_sets.+holds_at.Given as goal

abbrev pub decreases-holds_at : goal.decreases-holds_at
decreases-holds_at l = l.depth
