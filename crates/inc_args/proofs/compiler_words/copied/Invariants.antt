use Rattle.std.proofs.Common.{◌≡◌, ◌++◌, map, length}
use Rattle.std.specs.String.{string_bytes}
use Rattle.inc_args.specs.CompilerWords.{as_options}
use Rattle.inc_args.proofs.compiler_words.copied.Given as goal

-- the options so far, and those of the words that are left, are all
abbrev pub invariant-loop-left : goal.invariant-loop-left
invariant-loop-left l = map string_bytes l.options.items ++ as_options (map string_bytes l.left) ≡ as_options (map string_bytes l.fn.words)

abbrev pub decreases-loop-left : goal.decreases-loop-left
decreases-loop-left l = length l.left
