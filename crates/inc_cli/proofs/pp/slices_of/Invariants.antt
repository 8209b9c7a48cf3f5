use Rattle.std.proofs.Common.{◌≡◌, take, map}
use Rattle.inc_cli.proofs.pp.slices_of.Given as goal

-- the words so far
abbrev pub invariant-loop-word : goal.invariant-loop-word
invariant-loop-word l = map (λ s. s.now) l.slices.items ≡ map (λ w. w.items) (take l.word-index l.words)
