use Rattle.std.proofs.Common.{◌≡◌, map, take}
use Rattle.inc_inputs.proofs.undefined_names.bytes_of_words.Given as goal

-- the words so far
abbrev pub invariant-loop-word : goal.invariant-loop-word
invariant-loop-word l = map (λ b. b.now) l.bytes.items ≡ map (λ w. w.now) (take l.word-index l.words)
