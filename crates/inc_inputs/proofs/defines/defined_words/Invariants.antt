use Rattle.std.proofs.Common.{◌≡◌, ◌+◌, ◌-◌, ◌≤◌, length, drop, map}
use Rattle.inc_macro.specs.Tables.{table_of}
use Rattle.inc_inputs.specs.Defines.{defined_words, with_words, words_in}
use Rattle.inc_inputs.proofs.DefineLemmas.{words_behind}
use Rattle.inc_inputs.proofs.defines.defined_words.Given as goal

-- the words so far, and then those of what is left, are those of the list
abbrev pub invariant-loop-length : goal.invariant-loop-length
invariant-loop-length l = record {
  within : l.at ≤ length l.text;
  lines : l.line ≤ l.at + 1;
  words : defined_words (table_of l.predefined).language l.is_compiler l.text ≡ with_words (map (λ w. w.items) l.words.items) (words_behind (words_in (table_of l.predefined).language l.is_compiler) l.line (drop l.at l.text));
}

abbrev pub decreases-loop-length : goal.decreases-loop-length
decreases-loop-length l = length l.text - l.at
