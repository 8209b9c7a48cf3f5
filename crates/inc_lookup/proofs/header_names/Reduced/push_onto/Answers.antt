use Rattle.inc_lookup.proofs.ReducedLemmas.{onto_none, onto_some}
use Rattle.inc_lookup.proofs.header_names.Reduced.push_onto.Goals as goal

pub returns-then-not-drop_lasts : goal.returns-then-not-drop_lasts
returns-then-not-drop_lasts c = λ name parts r shows.
    onto_none c.args.root c.args.self.now.climbs c.args.out.now.items _ name c.args.self.now.rest.now parts r shows c.if-not-drop_lasts.ensures

pub returns : goal.returns
returns c = λ name parts r shows.
    onto_some c.args.root c.args.self.now.climbs c.args.out.now.items _ _ name c.args.self.now.rest.now parts r shows c.if-not-drop_lasts.ensures c.in_ok-push_names.ensures
