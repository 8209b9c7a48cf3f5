use Rattle.std.proofs.Common.{◌≡◌, ◌++◌, take}
use Rattle.std.specs.Prelude.{flat_map}
use Rattle.inc_answers.specs.JsonTexts.{escaped_byte}
use Rattle.inc_answers.proofs.json_texts.put_escapes.Given as goal

-- those so far are added
abbrev pub invariant-loop-byte : goal.invariant-loop-byte
invariant-loop-byte l = l.text.items ≡ l.initial.text.items ++ flat_map escaped_byte (take l.byte-index l.bytes)
