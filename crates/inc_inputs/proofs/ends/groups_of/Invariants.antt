use Rattle.std.proofs.Common.{◌≡◌, map}
use Rattle.inc_inputs.specs.Ends.{groups_of}
use Rattle.inc_inputs.proofs.GroupWords.{rest, with_groups}
use Rattle.inc_inputs.proofs.ends.groups_of.Given as goal

-- the groups of the words so far, before those of the rest
abbrev pub invariant-loop-word : goal.invariant-loop-word
invariant-loop-word l = with_groups l.groups.items (rest (λ w. w.now) l.project l.words l.word-index) ≡ groups_of l.project (map (λ w. w.now) l.words)
