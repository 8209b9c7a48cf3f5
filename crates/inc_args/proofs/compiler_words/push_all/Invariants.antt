use Rattle.std.proofs.Common.{◌≡◌, ◌++◌, map, take}
use Rattle.std.specs.String.{string_bytes}
use Rattle.inc_args.proofs.compiler_words.push_all.Given as goal

-- the words so far
abbrev pub invariant-loop-word : goal.invariant-loop-word
invariant-loop-word l = map string_bytes l.options.items ≡ map string_bytes l.fn.options.items ++ map string_bytes (take l.word-index l.words)
