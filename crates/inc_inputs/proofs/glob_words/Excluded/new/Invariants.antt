use Rattle.std.proofs.Common.{◌≡◌, ◌++◌, drop, map}
use Rattle.std.specs.Prelude.{filter_map}
use Rattle.inc_globs.specs.Globs.{pieces}
use Rattle.inc_inputs.proofs.glob_words.Excluded.new.Given as goal

-- the globs so far, and those of the words that are left, are all
abbrev pub invariant-loop-word : goal.invariant-loop-word
invariant-loop-word l = filter_map pieces (map (λ w. w.now) l.words) ≡ l.globs.items ++ filter_map pieces (map (λ w. w.now) (drop l.word-index l.words))
