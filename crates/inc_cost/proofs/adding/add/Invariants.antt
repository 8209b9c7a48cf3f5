use Rattle.inc_cost.proofs.AddLemmas.{AreAddedSoFar}
use Rattle.inc_cost.proofs.adding.add.Given as goal

-- the parts of the keys so far are added
abbrev pub invariant-loop-place : goal.invariant-loop-place
invariant-loop-place l = AreAddedSoFar l.place l.keys l.parts l.initial.amounts.items l.amounts.items
