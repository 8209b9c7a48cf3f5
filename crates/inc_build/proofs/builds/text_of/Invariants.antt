use Rattle.std.proofs.Common.{◌≡◌, ◌++◌, map, drop}
use Rattle.inc_build.specs.Builds.{text_of}
use Rattle.inc_build.specs.Views.{seen_row}
use Rattle.inc_build.proofs.builds.text_of.Given as goal

-- the text so far, and that of the rest, are all
abbrev pub invariant-loop-row : goal.invariant-loop-row
invariant-loop-row l = l.text.items ++ text_of (map seen_row (drop l.row-index l.rows)) ≡ text_of (map seen_row l.rows)
