use Rattle.std.proofs.Common.{length, ◌-◌, ◌≡◌, ◌≤◌, ◌++◌, map, option_map, drop}
use Rattle.inc_build.specs.Commands.{shell_words, words_from}
use Rattle.inc_build.specs.Views.{seen_walk, seen_word}
use Rattle.inc_build.proofs.commands.shell_words.Given as goal

-- the words so far, and those of the rest, are all
abbrev pub invariant-loop-at : goal.invariant-loop-at
invariant-loop-at l = (l.at ≤ length l.text) × (option_map (λ ws. map seen_word l.words.items ++ ws) (words_from (seen_walk l.walk) (drop l.at l.text)) ≡ shell_words l.text)

abbrev pub decreases-loop-at : goal.decreases-loop-at
decreases-loop-at l = length l.text - l.at
