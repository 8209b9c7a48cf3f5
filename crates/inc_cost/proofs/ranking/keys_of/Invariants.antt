use Rattle.inc_cost.specs.Ranking.{AreKeysOf}
use Rattle.inc_cost.proofs.ranking.keys_of.Given as goal

-- the amounts so far have their keys
abbrev pub invariant-loop-place : goal.invariant-loop-place
invariant-loop-place l = AreKeysOf l.amounts l.place l.keys.items
