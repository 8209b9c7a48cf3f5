use Rattle.std.proofs.Common.{List, Option, ℕ, map}
use Rattle.inc_lookup.specs.declared.projects.DirectiveId.{DirectiveId}
use Rattle.inc_answers.specs.DefinitionPlaces.{ArePlaced}
use Rattle.inc_answers.proofs.DefinitionLemmas.{with_parts}
use Rattle.inc_answers.proofs.definition_places.note_lines.Given as goal

-- the definitions of the parts so far are noted
abbrev pub invariant-loop-i : goal.invariant-loop-i
invariant-loop-i l = (before : List ℕ → Option DirectiveId) → ArePlaced (map (λ n. n.now) l.names) before l.initial.places.items
    → ArePlaced (map (λ n. n.now) l.names) (with_parts before l.file l.found l.i) l.places.items
