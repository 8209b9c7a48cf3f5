use Rattle.inc_inputs.proofs.HeaderLemmas.{notes_next}
use Rattle.inc_inputs.proofs.header_names.add_notes.Goals as goal

pub loop-word-preserved : goal.loop-word-preserved
loop-word-preserved c =
    notes_next (λ w. w.now) c.args.project.now c.args.words.now c.loop-word.word-index _ c.loop-word-test.true c.args.notes.now.items
    c.loop-word.notes.items _ c.loop-word.invariant c.in_ok-add_word_note.ensures
