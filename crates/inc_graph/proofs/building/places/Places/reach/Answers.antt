use Rattle.std.proofs.Common.{List, map, subst}
use Rattle.std.specs.Prelude.{Contains}
use Rattle.inc_graph.specs.Places.{Reached, next_of, seen_place}
use Rattle.inc_graph.specs.declared.building.places.Place.{Place}
use Rattle.inc_graph.proofs.PlaceLemmas.{reaches_found, reaches_put}
use Rattle.inc_graph.proofs.building.places.Places.reach.Goals as goal

pub returns-then-is_at-clause-reached : goal.returns-then-is_at-clause-reached
returns-then-is_at-clause-reached c =
    let file = c.args.found.now.file in
    let next = next_of c.in_ok-mark.mark in
    reaches_found c.args.self.now.found c.args.found.now next c.in_ok-mark.ensures
    (subst (λ (r : Reached). Contains r.found (record { file = file; next = next })) c.self.view_is
    (subst (λ (l : List Place). Contains (map seen_place l) (record { file = file; next = next })) c.deref.ensures.value (c.is_at.ensures c.if-is_at.true)))

pub returns-then-is_further-clause-reached : goal.returns-then-is_further-clause-reached
returns-then-is_further-clause-reached c =
    reaches_found c.args.self.now.found c.args.found.now (next_of c.in_ok-mark.mark) c.in_ok-mark.ensures (c.is_further.ensures c.if-is_further.true)

pub returns-clause-reached : goal.returns-clause-reached
returns-clause-reached c =
    reaches_put c.args.self.now.found c.put.new.self.found c.args.found.now (next_of c.in_ok-mark.mark) c.in_ok-mark.ensures c.in_ok-put.ensures.put
