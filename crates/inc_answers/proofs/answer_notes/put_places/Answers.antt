use Rattle.inc_answers.specs.AnswerNotes.{definition_line}
use Rattle.inc_answers.proofs.NoteLemmas.{joined}
use Rattle.inc_answers.proofs.WhyLemmas.{flat_map-more}
use Rattle.inc_answers.proofs.answer_notes.put_places.Goals as goal

pub loop-definition-preserved : goal.loop-definition-preserved
loop-definition-preserved c =
    let more = flat_map-more (definition_line c.args.start.now c.args.project.now) c.args.definitions.now c.loop-definition.definition-index _ c.loop-definition-test.true c.definition-item.is in
    rw more (joined c.args.text.now.items _ _ c.loop-definition.text.items c.put_line.new.text.items c.loop-definition.invariant c.in_ok-put_line.ensures)
