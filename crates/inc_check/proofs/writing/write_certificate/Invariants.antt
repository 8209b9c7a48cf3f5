use Rattle.std.proofs.Common.{◌≡◌, ◌++◌, take}
use Rattle.std.specs.Prelude.{flat_map}
use Rattle.inc_check.specs.Texts.{lines_text, chain_lines}
use Rattle.inc_check.proofs.writing.write_certificate.Given as goal

abbrev pub invariant-loop-index : goal.invariant-loop-index
invariant-loop-index l = l.out.items ≡ l.initial.out.items ++ lines_text (flat_map chain_lines (take l.index l.chains))
