use Rattle.std.proofs.Common.{◌≡◌, ◌≤◌, length, map, drop}
use Rattle.inc_globs.specs.Globs.{fits}
use Rattle.inc_globs.specs.Rows.{IsRow}
use Rattle.inc_globs.specs.Views.{seen_piece}
use Rattle.inc_globs.proofs.globs.Glob.fits.Given as goal

-- the row is that of the pieces from here on
abbrev pub invariant-loop-left : goal.invariant-loop-left
invariant-loop-left l = (l.self-inside.pieces ≡ l.initial.self-inside.pieces) × (l.left ≤ length l.self-inside.pieces.items)
    × IsRow (fits (drop l.left (map seen_piece l.self-inside.pieces.items))) l.path l.self-inside.row.items

abbrev pub decreases-loop-left : goal.decreases-loop-left
decreases-loop-left l = l.left
