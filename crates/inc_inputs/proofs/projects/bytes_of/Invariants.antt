use Rattle.std.proofs.Common.{◌≡◌, take, map}
use Rattle.inc_inputs.proofs.projects.bytes_of.Given as goal

-- the words so far
abbrev pub invariant-loop-word : goal.invariant-loop-word
invariant-loop-word l = map (λ b. b.now) l.bytes.items ≡ map (λ s. s.now) (take l.word-index l.words)
