use Rattle.std.proofs.Common.{◌≡◌, map}
use Rattle.inc_inputs.specs.Places.{marks_behind, words_marks}
use Rattle.inc_inputs.proofs.PlaceMarks.{marks_left}
use Rattle.inc_inputs.proofs.places.with_marks.Given as goal

-- the marks of the words so far, before those of the rest
abbrev pub invariant-loop-word : goal.invariant-loop-word
invariant-loop-word l =
    marks_behind l.marks.items (marks_left (λ w. w.now) l.project l.side l.words l.word-index)
    ≡ marks_behind l.initial.marks.items (words_marks l.project l.side (map (λ w. w.now) l.words))
