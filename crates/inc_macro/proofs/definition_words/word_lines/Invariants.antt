use Rattle.std.proofs.Common.{◌≡◌, ◌++◌, drop, map}
use Rattle.inc_macro.specs.WordLines.{word_lines}
use Rattle.inc_macro.proofs.definition_words.word_lines.Given as goal

abbrev pub invariant-loop-i : goal.invariant-loop-i
invariant-loop-i l = l.lines.items ++ word_lines (map (λ w. w.now) (drop l.i l.words)) ≡ word_lines (map (λ w. w.now) l.words)
