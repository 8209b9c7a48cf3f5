use Rattle.inc_expand.proofs.shared_sets.+meet_at.Given as goal

abbrev pub decreases-meet_at : goal.decreases-meet_at
decreases-meet_at l = l.depth
