use Rattle.std.proofs.Common.{◌≡◌, ◌++◌, take}
use Rattle.std.specs.Prelude.{flat_map}
use Rattle.inc_answers.specs.BlockedReasons.{glob_byte}
use Rattle.inc_answers.proofs.blocked_reasons.put_glob.Given as goal

-- those so far are added
abbrev pub invariant-loop-byte : goal.invariant-loop-byte
invariant-loop-byte l = l.text.items ≡ l.initial.text.items ++ flat_map glob_byte (take l.byte-index l.path)
