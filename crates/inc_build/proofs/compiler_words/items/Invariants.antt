use Rattle.std.proofs.Common.{◌≡◌, ◌++◌, map, length}
use Rattle.inc_build.specs.CompilerWords.{items, items_of}
use Rattle.inc_build.specs.Views.{seen_item, seen_word}
use Rattle.inc_build.proofs.compiler_words.items.Given as goal

-- the items so far, and those of the words that are left, are all
abbrev pub invariant-loop-left : goal.invariant-loop-left
invariant-loop-left l = map seen_item l.items.items ++ items_of (map seen_word l.left) ≡ items (map seen_word l.fn.words)

abbrev pub decreases-loop-left : goal.decreases-loop-left
decreases-loop-left l = length l.left
