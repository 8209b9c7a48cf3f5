use Rattle.std.proofs.Common.{◌≡◌, ◌+◌, ◌≤◌, ℕ, List, Bool, length}
use Rattle.inc_globs.specs.Globs.{many}
use Rattle.inc_globs.specs.Rows.{IsRow}
use Rattle.inc_globs.specs.Views.{seen_piece}
use Rattle.inc_globs.proofs.RowLemmas.{IsFilled}
use Rattle.inc_globs.proofs.rows.put_many.Given as goal

-- the values from here on are new
abbrev pub invariant-loop-at : goal.invariant-loop-at
invariant-loop-at l = (length l.row ≡ length l.path + 1) × (l.at ≤ length l.path) × ((rest : List ℕ → Bool) → IsRow rest l.path l.initial.row → IsFilled (many (seen_piece l.piece) rest) l.path l.at (length l.path + 1) l.initial.row l.row)

abbrev pub decreases-loop-at : goal.decreases-loop-at
decreases-loop-at l = l.at
