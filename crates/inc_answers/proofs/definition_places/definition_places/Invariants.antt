use Rattle.std.proofs.Common.{map}
use Rattle.inc_answers.specs.DefinitionPlaces.{ArePlaced, kept_place}
use Rattle.inc_answers.proofs.definition_places.definition_places.Given as goal

-- those of the files so far
abbrev pub invariant-loop-place : goal.invariant-loop-place
invariant-loop-place l = ArePlaced (map (λ n. n.now) l.names) (kept_place l.language l.files l.place) l.places.items
