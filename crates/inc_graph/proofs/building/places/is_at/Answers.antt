use Rattle.std.proofs.Common.{sym}
use Rattle.std.proofs.lemmas.Bool.{eqb-true, ltb-true}
use Rattle.inc_graph.proofs.PlaceLemmas.{at_place}
use Rattle.inc_graph.proofs.building.places.is_at.Goals as goal

pub returns-then-eq : goal.returns-then-eq
returns-then-eq c = λ same.
    at_place c.args.queue.now _ c.in-Some.other.now c.args.file c.args.mark (ltb-true _ _ (sym c.in-Some.ensures.lookup.0)) c.in-Some.ensures.lookup.1
    (eqb-true _ _ (sym c.if-eq.ensures)) (eqb-true _ _ same)
