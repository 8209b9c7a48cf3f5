use Rattle.inc_inputs.proofs.HeaderLemmas.{NotesOf}
use Rattle.inc_inputs.proofs.header_names.add_notes.Given as goal

-- what is noted of the words so far is added
abbrev pub invariant-loop-word : goal.invariant-loop-word
invariant-loop-word l =
    NotesOf (λ w. w.now) l.project l.words l.initial.notes.items l.notes.items l.word-index
