use Rattle.std.proofs.Common.{◌≡◌, ◌++◌, drop, map}
use Rattle.inc_rules.specs.Rules.{globs_of}
use Rattle.inc_rules.proofs.words.globs_of.Given as goal

-- the globs so far, and those of the words that are left, are all
abbrev pub invariant-loop-word : goal.invariant-loop-word
invariant-loop-word l = globs_of (map (λ w. w.now) l.words) ≡ map (λ g. g.now) l.globs.items ++ globs_of (map (λ w. w.now) (drop l.word-index l.words))
