use Rattle.std.proofs.Common.{◌≡◌, map, slice_range}
use Rattle.inc_token.specs.Views.{seen}
use Rattle.inc_directive.specs.Parts.{lines_of_parts}
use Rattle.inc_directive.specs.Runs.{run_tokens}
use Rattle.inc_directive.proofs.file_lines.FileLines.run.Given as goal

abbrev pub invariant-loop-i : goal.invariant-loop-i
invariant-loop-i l = map seen l.run.items ≡ run_tokens (lines_of_parts (slice_range l.self l.from l.i))
