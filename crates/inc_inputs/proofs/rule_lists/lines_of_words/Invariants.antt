use Rattle.std.proofs.Common.{◌≡◌, ◌++◌, drop, map}
use Rattle.inc_inputs.specs.RuleLists.{lines_of_words}
use Rattle.inc_inputs.proofs.rule_lists.lines_of_words.Given as goal

-- the lines so far, and those that are left, are all
abbrev pub invariant-loop-word : goal.invariant-loop-word
invariant-loop-word l = lines_of_words (map (λ w. w.now) l.words) ≡ l.text.items ++ lines_of_words (map (λ w. w.now) (drop l.word-index l.words))
