use Rattle.std.proofs.Common.{◌∙◌, ◌++◌, ℕ, List, [], ap, refl}
use Rattle.inc_graph.specs.MissingLists.{Missing}
use Rattle.inc_graph.specs.declared.graphs.Blocker.{Blocker}
use Rattle.inc_lookup.specs.declared.projects.DirectiveId.{DirectiveId}
use Rattle.inc_answers.specs.AnswerNotes.{definition_lines, definition_notes}
use Rattle.inc_answers.specs.MissingNotes.{note_start, unreached_lines}
use Rattle.inc_answers.specs.Terms.{is_whole}
use Rattle.inc_answers.proofs.NoteLemmas.{joined_as}
use Rattle.inc_answers.proofs.answer_notes.unreached_notes.Goals as goal

pub returns : goal.returns
returns c =
    let layout = c.args.project.now in
    let g = c.args.graph.now in
    let whole = is_whole c.args.question.now in
    c.of.ensures
    ∙ joined_as [] (definition_notes layout g) (unreached_lines whole layout g.blockers g.missing) (unreached_lines c.is_whole-is_whole.result layout c.blockers.result.now c.missing.result.now) c.put_definitions.new.text.items
    c.put_unreached.new.text.items
    (c.in_ok-put_definitions.ensures ∙ ap (λ (l : List ℕ). l ++ definition_lines note_start layout c.definitions.result.now) c.new-text.ensures.items
    ∙ ap (λ (ds : List DirectiveId). definition_lines note_start layout ds) c.definitions.ensures.definitions)
    c.in_ok-put_unreached.ensures
    (rw (c.is_whole-is_whole.ensures, c.blockers.ensures.blockers, c.missing.ensures.missing) refl)
