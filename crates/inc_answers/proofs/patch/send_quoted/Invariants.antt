use Rattle.std.proofs.Common.{take}
use Rattle.std.specs.Prelude.{flat_map}
use Rattle.inc_answers.specs.PatchText.{quoted_byte}
use Rattle.inc_answers.specs.Sending.{Sends}
use Rattle.inc_answers.proofs.patch.send_quoted.Given as goal

-- the bytes so far are sent
abbrev pub invariant-loop-byte : goal.invariant-loop-byte
invariant-loop-byte g l = Sends l.initial.out l.out (flat_map quoted_byte (take l.byte-index l.path))
