use Rattle.std.proofs.Common.{◌≡◌, map, take}
use Rattle.std.specs.String.{string_bytes}
use Rattle.inc_build.specs.Views.{seen_word}
use Rattle.inc_build.proofs.compiler_commands.lent.Given as goal

-- the words so far
abbrev pub invariant-loop-text : goal.invariant-loop-text
invariant-loop-text l = map seen_word l.words.items ≡ map string_bytes (take l.text-index l.texts)
