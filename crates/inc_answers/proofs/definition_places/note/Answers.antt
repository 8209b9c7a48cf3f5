use Rattle.std.proofs.Common.{◌∙◌, map, sym}
use Rattle.inc_answers.proofs.DefinitionLemmas.{one_name}
use Rattle.inc_answers.proofs.definition_places.note.Goals as goal

pub returns-in-Some : goal.returns-in-Some
returns-in-Some c = λ before are.
    one_name (map (λ n. n.now) c.args.names.now) before c.args.name.now c.args.place c.args.places.now.items c.keep_first.new.places.items c.in-Some.at
    (sym c.place_among.ensures ∙ c.in-Some.is) c.keep_first.ensures are
