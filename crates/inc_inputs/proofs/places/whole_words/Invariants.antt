use Rattle.std.proofs.Common.{◌≡◌, map, take}
use Rattle.inc_inputs.specs.Places.{whole_words}
use Rattle.inc_inputs.proofs.places.whole_words.Given as goal

-- the words so far without a line
abbrev pub invariant-loop-word : goal.invariant-loop-word
invariant-loop-word l = map (λ w. w.now) l.whole.items ≡ whole_words (take l.word-index (map (λ w. w.now) l.words))
