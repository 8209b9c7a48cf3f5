use Rattle.std.proofs.Common.{◌∙◌, List, ℕ, bytes_eq, sym}
use Rattle.std.specs.Borrow.{Bor}
use Rattle.inc_lookup.proofs.NormalLemmas.{position-map}
use Rattle.inc_answers.proofs.definition_places.place_among.Goals as goal

pub returns : goal.returns
returns c = c.first_among.ensures ∙ sym (position-map (bytes_eq c.args.name.now) (λ (n : Bor (List ℕ)). n.now) c.args.names.now)
