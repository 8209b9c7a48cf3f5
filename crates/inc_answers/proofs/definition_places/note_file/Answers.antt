use Rattle.std.proofs.Common.{List, OnOk, Option, ℕ, map, subst}
use Rattle.std.specs.Option.{option_or}
use Rattle.inc_lookup.specs.declared.projects.DirectiveId.{DirectiveId}
use Rattle.inc_answers.specs.DefinitionPlaces.{ArePlaced, place_in}
use Rattle.inc_answers.proofs.definition_places.note_file.Goals as goal

pub returns-in-Some : goal.returns-in-Some
returns-in-Some c =
    let names = map (λ n. n.now) c.args.names.now in
    subst (λ (bytes : Option (List ℕ)). OnOk c.note_bytes.result ((before : List ℕ → Option DirectiveId) → ArePlaced names before c.args.places.now.items
    → ArePlaced names (λ n. option_or (before n) (place_in c.args.language n c.args.file bytes)) c.note_bytes.new.places.items))
    c.in-Some.ensures.bytes c.note_bytes.ensures
