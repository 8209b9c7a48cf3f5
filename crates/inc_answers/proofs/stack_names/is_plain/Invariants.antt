use Rattle.std.proofs.Common.{◌≡◌, take}
use Rattle.std.specs.Prelude.{flat_map}
use Rattle.inc_answers.specs.TreeText.{name_byte}
use Rattle.inc_answers.proofs.stack_names.is_plain.Given as goal

-- the bytes so far stand as they are
abbrev pub invariant-loop-byte : goal.invariant-loop-byte
invariant-loop-byte l = flat_map name_byte (take l.byte-index l.path) ≡ take l.byte-index l.path
