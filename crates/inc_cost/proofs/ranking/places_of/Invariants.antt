use Rattle.inc_cost.specs.Ranking.{ArePlacesOf}
use Rattle.inc_cost.proofs.ranking.places_of.Given as goal

-- the keys so far have their places
abbrev pub invariant-loop-key : goal.invariant-loop-key
invariant-loop-key l = ArePlacesOf l.keys l.key-index l.places.items
