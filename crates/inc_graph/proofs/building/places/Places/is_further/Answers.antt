use Rattle.std.proofs.Common.{List, map, subst}
use Rattle.std.specs.Prelude.{Contains}
use Rattle.inc_graph.specs.Places.{Reached, next_of, seen_place}
use Rattle.inc_graph.specs.declared.building.places.Place.{Place}
use Rattle.inc_graph.proofs.building.places.Places.is_further.Goals as goal

pub returns-in-Some-get : goal.returns-in-Some-get
returns-in-Some-get c = λ is.
    subst (λ (r : Reached). Contains r.found (record { file = c.args.file; next = next_of c.args.mark })) c.self.view_is
    (subst (λ (l : List Place). Contains (map seen_place l) (record { file = c.args.file; next = next_of c.args.mark })) c.deref-in-Some-get.ensures.value (c.is_at.ensures is))
