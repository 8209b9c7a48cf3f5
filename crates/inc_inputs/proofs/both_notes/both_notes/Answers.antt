use Rattle.std.proofs.Common.{◌≡◌, ◌∙◌, ◌++◌, [], ℕ, List, ap, map, rules}
use Rattle.inc_inputs.specs.BothNotes.{both_lines}
use Rattle.inc_inputs.specs.BuildNotes.{whole}
use Rattle.inc_inputs.specs.Views.{notes_in}
use Rattle.inc_inputs.proofs.NoteLemmas.{whole_some}
use Rattle.inc_inputs.proofs.both_notes.both_notes.Goals as goal

pub returns : goal.returns
returns c =
    let first : c.new-notes.result.items ≡ [] = search rules in
    c.in_ok-put.ensures ∙ ap (λ (t : List ℕ). t ++ whole (notes_in c.in_ok-both.both)) first ∙ ap whole c.in_ok-both.ensures
    ∙ whole_some (both_lines c.args.project.now (map (λ p. p.now) c.args.sources.now) (map (λ p. p.now) c.args.headers.now))
