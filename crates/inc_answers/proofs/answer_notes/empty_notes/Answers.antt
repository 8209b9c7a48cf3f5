use Rattle.std.proofs.Common.{◌∙◌, ◌++◌, ℕ, List, [], ap}
use Rattle.inc_graph.specs.MissingLists.{Missing}
use Rattle.inc_lookup.specs.declared.projects.DirectiveId.{DirectiveId}
use Rattle.inc_answers.specs.AnswerNotes.{definition_lines, definition_notes}
use Rattle.inc_answers.specs.MissingNotes.{empty_lines, note_start}
use Rattle.inc_answers.proofs.NoteLemmas.{joined_as}
use Rattle.inc_answers.proofs.answer_notes.empty_notes.Goals as goal

pub returns : goal.returns
returns c =
    let layout = c.args.project.now in
    let g = c.args.graph.now in
    c.of.ensures
    ∙ joined_as [] (definition_notes layout g) (empty_lines layout g.missing) (empty_lines layout c.missing.result.now) c.put_definitions.new.text.items c.put_empty.new.text.items
    (c.in_ok-put_definitions.ensures ∙ ap (λ (l : List ℕ). l ++ definition_lines note_start layout c.definitions.result.now) c.new-text.ensures.items
    ∙ ap (λ (ds : List DirectiveId). definition_lines note_start layout ds) c.definitions.ensures.definitions)
    c.in_ok-put_empty.ensures
    (ap (λ (l : List Missing). empty_lines layout l) c.missing.ensures.missing)
