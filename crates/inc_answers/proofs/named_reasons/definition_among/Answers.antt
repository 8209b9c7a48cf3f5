use Rattle.std.proofs.Common.{◌∙◌, map, sym}
use Rattle.inc_answers.proofs.DefinitionLemmas.{looked_up, not_there}
use Rattle.inc_answers.proofs.named_reasons.definition_among.Goals as goal

pub returns-in-Some : goal.returns-in-Some
returns-in-Some c = λ definition are.
    c.place_at.ensures
    ∙ looked_up (map (λ n. n.now) c.args.undefined.now) definition c.args.places.now c.args.name.now c.in-Some.place are (sym c.place_among.ensures ∙ c.in-Some.is)

pub returns-in-None : goal.returns-in-None
returns-in-None c = λ definition are.
    not_there (map (λ n. n.now) c.args.undefined.now) definition c.args.name.now (sym c.place_among.ensures ∙ c.in-None.is)
