use Rattle.std.proofs.Common.{◌≡◌, ◌++◌, take}
use Rattle.std.specs.Prelude.{flat_map}
use Rattle.inc_report.specs.RulesSarif.{uri_byte}
use Rattle.inc_report.proofs.rules_sarif.put_uri_bytes.Given as goal

-- those so far are added
abbrev pub invariant-loop-byte : goal.invariant-loop-byte
invariant-loop-byte l = l.text.items ≡ l.initial.text.items ++ flat_map uri_byte (take l.byte-index l.path)
